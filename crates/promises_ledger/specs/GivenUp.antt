-- Request 7, sentence by sentence: when the exchange has no data. Of every row of calls of the
-- code on a ledger that it opened, and of whatever the promise of a further call allows; then of
-- the calls through the host. The words are those of GivenUp.antt and Words.antt of `ledger_spec`,
-- told from the calls and answers alone.
use Rattle.std.specs.Prelude.{ℕ, ◌≤◌, ◌≡◌, ◌↔◌, true, false, List}
use Rattle.std.proofs.Common.{sym, ap, ◌∙◌}
use Rattle.terms.specs.Paper.{Paper, refusal}
use Rattle.ledger_spec.specs.State.{Book, StateRules}
use Rattle.ledger_spec.specs.Calls.{Tick, Request, Reply, answer_to, next_of}
use Rattle.ledger_spec.specs.Trace.{Calls, ◌▸◌, after, History, ◌▸◌⇒◌, trace}
use Rattle.ledger_spec.specs.Words.{answered, received, gives_up, given_up}
use Rattle.ledger_spec.specs.GivenUp.{reply, InRange, NamesApart, FloorStands, OnlyClears, then, AsksNoMore}
use Rattle.ledger_spec.proofs.Agree.{agrees}
use Rattle.ledger_spec.proofs.GivenUp as Book
use Rattle.ledger.specs.State.{book_of}
use Rattle.ledger.specs.Trace.{Promise, Ran, one_more}
use Rattle.ledger.specs.declared.Ledger.{Ledger}
use Rattle.ledger.proofs.Seam.{book_of_lem}
use Rattle.ledger.proofs.Promised.{ran_is_trace, ran_demand_3}
use Rattle.ledger.proofs.RanAnswers as Ran
use Rattle.host_ledger.specs.Called.{Called, HostRan}
use Rattle.host_ledger.proofs.Promised as Hosted

same_book : (channel : ℕ) → channel ≤ 9999 → {calls : Calls} {l : Ledger} {h : History} → Ran channel calls l h → book_of l ≡ after channel calls
same_book channel opens {calls} ran = ap book_of (ran_is_trace channel opens ran).0 ∙ book_of_lem (after channel calls) (agrees channel opens calls).rules.places

module _ (channel : ℕ) (opens : channel ≤ 9999) {calls : Calls} {l : Ledger} {h : History} (ran : Ran channel calls l h) where
  -- status 4 gives up the numbers of the pending range "not received so far", and the
  -- answer names them
  pub gives_up_exactly : (first : ℕ) (next : Ledger) (paper : Paper) → Promise l (Reply channel first 4) next paper → answered paper 0 ≡ true
      → (n : ℕ) → (gives_up (Reply channel first 4) paper n ≡ true) ↔ InRange h n
  gives_up_exactly = Ran.ran_gives_up channel opens ran

  -- the floor passes these and the received ones that follow, and the answer names those "apart"
  pub names_apart : (first status : ℕ) (next : Ledger) (paper : Paper) → Promise l (Reply channel first status) next paper → answered paper 0 ≡ true
      → NamesApart h (h ▸ Reply channel first status ⇒ paper) (Reply channel first status) paper
  names_apart = Ran.ran_names_apart channel opens ran

  -- after each call the floor is just below the first number "neither received nor given up"
  pub floor_stands : FloorStands h (book_of l)
  floor_stands = Ran.ran_floor_stands channel opens ran

  -- a late tick of a given-up number is answered 11, and the ledger is the very one
  pub late_is_11 : (n : ℕ) (next : Ledger) (paper : Paper) → Promise l (Tick channel n) next paper → given_up h n ≡ true → (paper ≡ refusal 11) × (next ≡ l)
  late_is_11 = Ran.ran_late channel opens ran

  -- "either received and delivered, or given up, never both"
  pub never_both : (n : ℕ) → received h n ≡ true → given_up h n ≡ false
  never_both = (ran_demand_3 channel opens ran).deliveries.never_both

  -- status 3 "only clears", and so do 1, 2, 5 and 99
  pub others_only_clear : (first status : ℕ) (next : Ledger) (paper : Paper) → Promise l (Reply channel first status) next paper → answered paper 0 ≡ true → (status ≡ 4 → ⊥)
      → OnlyClears (book_of l) paper (book_of next)
  others_only_clear first status next paper p z s =
      let call = Reply channel first status in
      let here : book_of l ≡ after channel calls = same_book channel opens ran in
      let there : book_of next ≡ next_of (book_of l) call = same_book channel opens (one_more call ran p) ∙ ap (λ (b : Book). next_of b call) (sym here) in
      let rules : StateRules (book_of l) = rw here (agrees channel opens calls).rules in
      rw (there, p.paper_is) (Book.only_4_gives_up (book_of l) channel first status rules (rw p.paper_is at z) s)

-- no asking "for ever": after a reply of status 4 no request of the code names a number of its
-- range
pub code_asks_no_more : (channel : ℕ) → channel ≤ 9999 → (calls : Calls) (first : ℕ) → answered (reply channel calls first 4) 0 ≡ true → (more : Calls)
    → {l : Ledger} {h : History} → Ran channel (then (calls ▸ Reply channel first 4) more) l h → (next : Ledger) (paper : Paper) → Promise l (Request channel) next paper
    → AsksNoMore (trace channel calls) paper
code_asks_no_more channel opens calls first z more ran next paper p =
    rw (Ran.ran_paper channel opens ran (Request channel) next paper p) (Book.asks_no_more channel opens calls first z more)

-- The same two of the definitions that the promises cite: the first on every sound state
pub only_4_gives_up : (b : Book) (channel first status : ℕ) → StateRules b → answered (answer_to b (Reply channel first status)) 0 ≡ true → (status ≡ 4 → ⊥)
    → OnlyClears b (answer_to b (Reply channel first status)) (next_of b (Reply channel first status))
only_4_gives_up = Book.only_4_gives_up

pub asks_no_more : (channel : ℕ) → channel ≤ 9999 → (calls : Calls) (first : ℕ) → answered (reply channel calls first 4) 0 ≡ true → (more : Calls)
    → AsksNoMore (trace channel calls) (answer_to (after channel (then (calls ▸ Reply channel first 4) more)) (Request channel))
asks_no_more = Book.asks_no_more

-- THROUGH THE HOST: of what the caller sees of rk_ledger_reply and rk_ledger_tick
module _ (channel : ℕ) (opens : channel ≤ 9999) {calls : Calls} {w : List ℕ} {h : History} (ran : HostRan channel calls w h) where
  pub host_gives_up : (first : ℕ) (w' : List ℕ) (a : Paper) → Called w (Reply channel first 4) w' a → answered a 0 ≡ true
      → (n : ℕ) → (gives_up (Reply channel first 4) a n ≡ true) ↔ InRange h n
  host_gives_up = Hosted.host_gives_up channel opens ran

  pub host_names_apart : (first status : ℕ) (w' : List ℕ) (a : Paper) → Called w (Reply channel first status) w' a → answered a 0 ≡ true
      → NamesApart h (h ▸ Reply channel first status ⇒ a) (Reply channel first status) a
  host_names_apart = Hosted.host_names_apart channel opens ran

  pub host_late : (n : ℕ) (w' : List ℕ) (a : Paper) → Called w (Tick channel n) w' a → given_up h n ≡ true → (a ≡ refusal 11) × (w' ≡ w)
  host_late = Hosted.host_late channel opens ran
