-- Demand 3 of the code's own answers: what a further call of the code is answered, told from the
-- calls and answers before it; and request 7's sentences of the code's replies. Each is the book's
-- theorem, read at the paper that the promise fixes. Assumes nothing.
use mathlib.Core.Path.{◌≡◌, ap, ◌∙◌}
use mathlib.Core.Logic.{◌↔◌}
use mathlib.Core.Bool.{true}
use mathlib.Core.List.{[], ◌∷◌}
use Prim.Native.Nat.{ℕ, ◌≤◌}
use Rattle.terms.specs.Paper.{Paper, answer, refusal}
use Rattle.ledger_spec.specs.State.{Book}
use Rattle.ledger_spec.specs.Calls.{Call, Tick, Announce, Request, Reply, Ask, Missing, Held, Between, Renew, answer_to}
use Rattle.ledger_spec.specs.Trace.{Calls, after, History, ◌▸◌⇒◌, trace}
use Rattle.ledger_spec.specs.Words.{answered, gives_up, given_up, known_top, held, missing, count}
use Rattle.ledger_spec.specs.Answers.{TickAnswers, AnnounceAnswers, ReplyAnswers, OnlyCleared}
use Rattle.ledger_spec.specs.Demand3.{Requests}
use Rattle.ledger_spec.specs.Between.{BetweenAnswers}
use Rattle.ledger_spec.specs.GivenUp.{InRange, NamesApart, FloorStands}
use Rattle.ledger_spec.proofs.Agree.{agrees}
use Rattle.ledger_spec.proofs.Answers.{new_session_told}
use Rattle.ledger_spec.proofs.GivenUp.{floor_stands}
use Rattle.ledger_spec.proofs.Told.{told_tick, told_announce, told_request, told_reply, told_renewal, told_missing, told_held, told_between, told_late, told_gives_up, told_names_apart}
use Rattle.ledger.specs.State.{book_of}
use Rattle.ledger.specs.Trace.{Promise, Ran}
use Rattle.ledger.specs.declared.Ledger.{Ledger}
use Rattle.ledger.proofs.Seam.{book_of_lem}
use Rattle.ledger.proofs.Promised.{ran_is_trace, refused_gives_back}

-- the calls so far, and one more call of the code
module _ (channel : ℕ) (small : channel ≤ 9999) {calls : Calls} {l : Ledger} {h : History} (ran : Ran channel calls l h) where
  history_is : h ≡ trace channel calls
  history_is = (ran_is_trace channel small ran).1

  book_is : book_of l ≡ after channel calls
  book_is = ap book_of (ran_is_trace channel small ran).0 ∙ book_of_lem (after channel calls) (agrees channel small calls).rules.places

  pub ran_paper : (call : Call) (next : Ledger) (paper : Paper) → Promise l call next paper → paper ≡ answer_to (after channel calls) call
  ran_paper call next paper p = p.paper_is ∙ ap (λ (b : Book). answer_to b call) book_is

  pub ran_tick : (n : ℕ) (next : Ledger) (paper : Paper) → Promise l (Tick channel n) next paper → TickAnswers h n paper
  ran_tick n next paper p = told_tick channel small calls history_is n (ran_paper _ next paper p)

  pub ran_announce : (n : ℕ) (next : Ledger) (paper : Paper) → Promise l (Announce channel n) next paper → AnnounceAnswers n paper
  ran_announce n next paper p = told_announce channel small calls history_is n (ran_paper _ next paper p)

  pub ran_request : (next : Ledger) (paper : Paper) → Promise l (Request channel) next paper → Requests h paper
  ran_request next paper p = told_request channel small calls history_is (ran_paper _ next paper p)

  pub ran_reply : (first status : ℕ) (next : Ledger) (paper : Paper) → Promise l (Reply channel first status) next paper → ReplyAnswers h first status paper
  ran_reply first status next paper p = told_reply channel small calls history_is first status (ran_paper _ next paper p)

  -- a new session is answered 0, and of what the history tells the pending request alone changes
  pub ran_renewal : (next : Ledger) (paper : Paper) → Promise l Renew next paper → (paper ≡ answer 0 []) × OnlyCleared h (h ▸ Renew ⇒ paper)
  unfolding trace
  ran_renewal next paper p =
      let e = ran_paper Renew next paper p in
      (told_renewal channel small calls history_is e, rw (history_is, e) (new_session_told channel small calls))

  pub ran_missing : (next : Ledger) (paper : Paper) → Promise l (Ask Missing) next paper → paper ≡ answer 0 (count (missing h) (known_top h) ∷ [])
  ran_missing next paper p = told_missing channel small calls history_is (ran_paper _ next paper p)

  pub ran_held : (next : Ledger) (paper : Paper) → Promise l (Ask Held) next paper → paper ≡ answer 0 (count (held h) (known_top h) ∷ [])
  ran_held next paper p = told_held channel small calls history_is (ran_paper _ next paper p)

  pub ran_between : (x z : ℕ) (next : Ledger) (paper : Paper) → Promise l (Ask (Between channel x z)) next paper → BetweenAnswers h x z paper
  ran_between x z next paper p = told_between channel small calls history_is x z (ran_paper _ next paper p)

  -- the floor after every call
  pub ran_floor_stands : FloorStands h (book_of l)
  ran_floor_stands = rw (history_is, book_is) (floor_stands channel small calls)

  -- a number given up that arrives late is answered 11, and the ledger is the very one
  pub ran_late : (n : ℕ) (next : Ledger) (paper : Paper) → Promise l (Tick channel n) next paper → given_up h n ≡ true → (paper ≡ refusal 11) × (next ≡ l)
  ran_late n next paper p g =
      let e = told_late channel small calls history_is n (ran_paper _ next paper p) g in
      (e, refused_gives_back l next (Tick channel n) paper p (ap (λ (x : Paper). answered x 0) e) (ap (λ (x : Paper). answered x 12) e))

  -- what a reply of status 4 gives up, and how it names what the floor passes
  pub ran_gives_up : (first : ℕ) (next : Ledger) (paper : Paper) → Promise l (Reply channel first 4) next paper → answered paper 0 ≡ true
      → (n : ℕ) → (gives_up (Reply channel first 4) paper n ≡ true) ↔ InRange h n
  ran_gives_up first next paper p e n = told_gives_up channel small calls history_is first (ran_paper _ next paper p) e n

  pub ran_names_apart : (first status : ℕ) (next : Ledger) (paper : Paper) → Promise l (Reply channel first status) next paper → answered paper 0 ≡ true
      → NamesApart h (h ▸ Reply channel first status ⇒ paper) (Reply channel first status) paper
  ran_names_apart first status next paper p e = told_names_apart channel small calls history_is first status (ran_paper _ next paper p) e
