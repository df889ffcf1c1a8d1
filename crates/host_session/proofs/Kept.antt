-- What a call on eight words leaves: a refusal the words as they were, 0 those of the next session.
-- Words that are no session's are refused. Assumes nothing.
use Prim.Native.Nat.{ℕ}
use mathlib.Core.Path.{◌≡◌, sym, ap, ap₂, ◌∙◌}
use mathlib.Core.List.{List, [], ◌∷◌}
use borrow.Author.Tests.{eq-eqb, ne_eqb}
use Rattle.terms.specs.Paper.{Paper, answer}
use Rattle.host_words.specs.Told.{Tells, tells_done, tells_refused}
use Rattle.session_spec.specs.Table.{Event}
use Rattle.session_spec.specs.Calls.{Line, Answer, one, answer_to, next_of}
use Rattle.session.specs.Arrivals.{event_in, length_in}
use Rattle.host_session.specs.Words.{words_of, line_in, type_number, paper_of, arrival_paper, call_told, arrival_told, words_after}

-- a refusal leaves the words
pub after_refused : (w : List ℕ) (time : ℕ) (e : Event) → ((answer_to (line_in w) time e).number ≡ 0 → ⊥) → words_after w time e ≡ w
unfolding words_after
after_refused w time e z = rw (ne_eqb (answer_to (line_in w) time e).number 0 z)

pub after_done : (w : List ℕ) (time : ℕ) (e : Event) → (answer_to (line_in w) time e).number ≡ 0 → words_after w time e ≡ words_of (next_of (line_in w) time e)
unfolding words_after
after_done w time e z = rw (eq-eqb (answer_to (line_in w) time e).number 0 z)

pub call_kept : (w : List ℕ) (time : ℕ) (e : Event) → ((call_told w time e).number ≡ 0 → ⊥) → words_after w time e ≡ w
unfolding call_told
call_kept w time e z = after_refused w time e z

pub arrival_kept : (w : List ℕ) (time : ℕ) (s : List ℕ) → ((arrival_told w time s).number ≡ 0 → ⊥) → words_after w time (event_in s) ≡ w
unfolding arrival_told
arrival_kept w time s z = after_refused w time (event_in s) z

called : (a : Answer) (t q d : ℕ) → a.number ≡ 0 → t ≡ type_number a.kind → q ≡ a.seq → d ≡ one a.dead → answer 0 (t ∷ q ∷ d ∷ []) ≡ paper_of a
called a t q d z te qe de = rw (z, te, qe, de)

arrived : (a : Answer) (t q d n : ℕ) → a.number ≡ 0 → t ≡ type_number a.kind → q ≡ a.seq → d ≡ one a.dead → answer 0 (t ∷ q ∷ d ∷ n ∷ []) ≡ arrival_paper a n
arrived a t q d n z te qe de = rw (z, te, qe, de)

-- A CALL as the code makes it: on the session l that the words stand for, answered a, with the next
-- session m
module _ (w : List ℕ) (time : ℕ) (e : Event) {l m : Line} {a : Answer} (le : l ≡ line_in w) (ae : a ≡ answer_to l time e) (me : m ≡ next_of l time e) where
  answer_is : a ≡ answer_to (line_in w) time e
  answer_is = ae ∙ ap (λ (x : Line). answer_to x time e) le

  next_is : m ≡ next_of (line_in w) time e
  next_is = me ∙ ap (λ (x : Line). next_of x time e) le

  number_is : a.number ≡ (answer_to (line_in w) time e).number
  number_is = ap (λ (x : Answer). x.number) answer_is

  call_paper : paper_of a ≡ call_told w time e
  unfolding call_told
  call_paper = ap paper_of answer_is

  -- refused: nothing is told
  pub call_refused : (was : List ℕ) (n : ℕ) → n ≡ a.number → (n ≡ 0 → ⊥) → Tells (call_told w time e) was n was × (w ≡ words_after w time e)
  call_refused was n p z =
      (tells_refused _ was n (p ∙ ap (λ (x : Paper). x.number) call_paper) z, sym (after_refused w time e (λ x. z (p ∙ number_is ∙ x))))

  -- and done
  pub call_done : (was row : List ℕ) (t q d : ℕ) → row ≡ words_of m → a.number ≡ 0 → t ≡ type_number a.kind → q ≡ a.seq → d ≡ one a.dead
      → Tells (call_told w time e) was 0 (t ∷ q ∷ d ∷ []) × (row ≡ words_after w time e)
  call_done was row t q d p z te qe de =
      (tells_done _ was _ (called a t q d z te qe de ∙ call_paper), p ∙ ap words_of next_is ∙ sym (after_done w time e (sym number_is ∙ z)))

-- a frame that has arrived: its event e and its length n are told by its bytes
module _ (w : List ℕ) (time : ℕ) (s : List ℕ) {l m : Line} {a : Answer} {e : Event} {n : ℕ} (le : l ≡ line_in w) (ee : e ≡ event_in s) (ae : a ≡ answer_to l time e) (me : m ≡ next_of l time e) (ne : n ≡ length_in s) where
  by_event : a ≡ answer_to l time (event_in s)
  by_event = ae ∙ ap (answer_to l time) ee

  on_event : m ≡ next_of l time (event_in s)
  on_event = me ∙ ap (next_of l time) ee

  arrival_paper_lem : arrival_paper a n ≡ arrival_told w time s
  unfolding arrival_told
  arrival_paper_lem = ap₂ arrival_paper (answer_is w time (event_in s) le by_event on_event) ne

  pub arrival_refused : (was : List ℕ) (r : ℕ) → r ≡ a.number → (r ≡ 0 → ⊥) → Tells (arrival_told w time s) was r was × (w ≡ words_after w time (event_in s))
  arrival_refused was r p z =
      (tells_refused _ was r (p ∙ ap (λ (x : Paper). x.number) arrival_paper_lem) z, (call_refused w time (event_in s) le by_event on_event was r p z).1)

  pub arrival_done : (was row : List ℕ) (t q d : ℕ) → row ≡ words_of m → a.number ≡ 0 → t ≡ type_number a.kind → q ≡ a.seq → d ≡ one a.dead
      → Tells (arrival_told w time s) was 0 (t ∷ q ∷ d ∷ n ∷ []) × (row ≡ words_after w time (event_in s))
  arrival_done was row t q d p z te qe de =
      (tells_done _ was _ (arrived a t q d n z te qe de ∙ arrival_paper_lem), (call_done w time (event_in s) le by_event on_event was row t q d p z te qe de).1)
