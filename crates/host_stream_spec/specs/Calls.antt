-- What a call of a stream through the host answers and tells, and what it leaves.
use Rattle.std.specs.Prelude.{ℕ, ◌≡◌, refl, Result, Ok, Err, List, [], ◌∷◌, ◌++◌, eqb, length}
use Rattle.std.proofs.Common.{ap, ap₂, ◌∙◌, ne_eqb}
use Rattle.terms.specs.Paper.{Paper, pick, one_number}
use Rattle.stream_spec.specs.declared.Stream.{Stream}
use Rattle.stream_spec.specs.declared.Fed.{Fed}
use Rattle.stream_spec.specs.Calls.{Call, cut_of, closes, answer_for, leaves_for, answer_to, next_of, leaves, fed_paper}
use Rattle.terms.specs.Refusals.{number_of}
use Rattle.terms.specs.Verdicts.{verdict_number}
use Rattle.terms.specs.declared.Refusal.{Refusal}
use Rattle.ledger.specs.Papers.{count_paper}
use Rattle.stream_spec.specs.CallLaws.{Promised}
use Rattle.host_words.specs.Told.{Tells, retold, both, Refuses, tells_as, tells_kept}
use Rattle.host_stream_spec.specs.Lent.{Lent, as_one, lent_of, stream_in}

-- TOLD: how many records this call gave, then the numbers of the stream after it: frames and
-- refused readings so far, the place of the first byte that waits, or of the next to come, and how
-- many bytes wait
abbrev pub numbers : Stream → List ℕ
numbers x = x.tally.frames ∷ x.tally.refused ∷ x.place ∷ x.len ∷ []

abbrev pub fed_numbers : Stream → ℕ → List ℕ
fed_numbers x records = records ∷ numbers x

abbrev pub told_with : Paper → Stream → Paper
told_with p next = retold (λ (vs : List ℕ). vs ++ numbers next) p

abbrev pub call_told : Lent → Call → ℕ → Paper
call_told k call room = told_with (answer_to (stream_in k) call room) (next_of (stream_in k) call room)

-- a row of numbers, or why there is none, told: it is written beside 0 alone
abbrev pub AnsweredBy : Result (List ℕ) Refusal → List ℕ → ℕ → List ℕ → Type 0
AnsweredBy (Ok row) was number now = (number ≡ 0) × (now ≡ row)
AnsweredBy (Err w) was number now = (number ≡ number_of w) × (now ≡ was)

-- the row of a call that gave x
abbrev pub row_by : {T : Type 0} → (T → List ℕ) → Result T Refusal → Result (List ℕ) Refusal
row_by f (Ok x) = Ok (f x)
row_by f (Err w) = Err w

-- LEFT: beside 0 the stream after the call, else what was there
unfoldable pub kept_beside : ℕ → Stream → Lent → Lent
kept_beside number next was = pick (eqb number 0) (lent_of next) was

unfoldable pub lent_after : Lent → Call → ℕ → Lent
lent_after k call room = kept_beside (answer_to (stream_in k) call room).number (next_of (stream_in k) call room) k

-- A CALL: the promise of one that is lent k, the told row and the buffer d, answers n and leaves
-- k', row and d'
abbrev pub Called : Lent → Call → List ℕ → List ℕ → ℕ → Lent → List ℕ → List ℕ → Type 0
Called k call was d n k' row d' =
    Tells (call_told k call (length d)) was n row × ((k' ≡ lent_after k call (length d)) × (d' ≡ leaves (stream_in k) call d))

-- PROOFS

number_is : (a : Result ℕ Refusal) → verdict_number a ≡ (count_paper a).number
number_is (Ok n) = refl
number_is (Err w) = refl

-- the stream's own call, and what is told and kept of it
pub settled : (k : Lent) (call : Call) (d d' : List ℕ) (f : Fed ℕ) (x : Stream) → x ≡ stream_in k → Promised x (closes call) (cut_of call) d d' f
    → {was row : List ℕ} {n : ℕ} {k' : Lent} → Tells (told_with (fed_paper f) f.stream) was n row × (k' ≡ kept_beside (verdict_number f.answer) f.stream k)
    → Called k call was d n k' row d'
unfolding lent_after
settled k call d d' f x e p t =
    let paper : fed_paper f ≡ answer_to (stream_in k) call (length d) = p.0 ∙ ap (λ (y : Stream). answer_to y call (length d)) e in
    let next : f.stream ≡ next_of (stream_in k) call (length d) = p.1.0 ∙ ap (λ (y : Stream). next_of y call (length d)) e in
    (tells_as (ap₂ told_with paper next) t.0, (t.1 ∙ ap₂ (λ (m : ℕ) (y : Stream). kept_beside m y k) (number_is f.answer ∙ one_number paper) next, p.1.1 ∙ ap (λ (y : Stream). leaves y call d) e))

-- a refusal leaves the told row, what is lent and the buffer as they were
module _ (k : Lent) (call : Call) (was d : List ℕ) (n : ℕ) (k' : Lent) (row d' : List ℕ) (p : Called k call was d n k' row d') (w : Refuses n) where
  not_done : (answer_to (stream_in k) call (length d)).number ≡ 0 → ⊥
  not_done z = w (p.0.answered ∙ z)

  lent_kept : lent_after k call (length d) ≡ k
  unfolding lent_after kept_beside
  lent_kept = rw (ne_eqb _ 0 not_done)

  buffer_kept : leaves (stream_in k) call d ≡ d
  unfolding leaves_for answer_for
  buffer_kept = rw (ne_eqb _ 0 not_done)

  pub refused_keeps : both row (as_one k' d') ≡ both was (as_one k d)
  refused_keeps = ap₂ both (tells_kept p.0 w) (ap₂ as_one (p.1.0 ∙ lent_kept) (p.1.1 ∙ buffer_kept))
