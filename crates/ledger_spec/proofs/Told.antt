-- Of a history that is the row of the calls so far, and an answer that is the definition's: what
-- each call is answered, told from the history alone, and request 7's sentences of it. Whatever
-- makes such rows, the code's own calls or those through a host, cites these. Assumes nothing.
use mathlib.Core.Path.{◌≡◌, sym, ap, ◌∙◌}
use mathlib.Core.Logic.{◌↔◌}
use mathlib.Core.Bool.{true}
use mathlib.Core.List.{[], ◌∷◌}
use Prim.Native.Nat.{ℕ, ◌≤◌}
use Rattle.terms.specs.Paper.{Paper, answer, refusal}
use Rattle.ledger_spec.specs.Calls.{Tick, Announce, Request, Reply, Ask, Missing, Held, Between, Renew, answer_to}
use Rattle.ledger_spec.specs.Trace.{Calls, ◌▸◌, after, History, ◌▸◌⇒◌, trace}
use Rattle.ledger_spec.specs.Words.{answered, gives_up, given_up, known_top, held, missing, count}
use Rattle.ledger_spec.specs.Answers.{TickAnswers, AnnounceAnswers, ReplyAnswers}
use Rattle.ledger_spec.specs.Demand3.{Requests}
use Rattle.ledger_spec.specs.GivenUp.{InRange, NamesApart}
use Rattle.ledger_spec.specs.Between.{BetweenAnswers}
use Rattle.ledger_spec.proofs.Answers.{answers}
use Rattle.ledger_spec.proofs.Demand3.{demand_3}
use Rattle.ledger_spec.proofs.Between.{between_answers}
use Rattle.ledger_spec.proofs.GivenUp.{names_apart, gives_up_exactly, late_is_11}

module _ (channel : ℕ) (small : channel ≤ 9999) (calls : Calls) {h : History} (is : h ≡ trace channel calls) {a : Paper} where
  pub told_tick : (n : ℕ) → a ≡ answer_to (after channel calls) (Tick channel n) → TickAnswers h n a
  told_tick n e = rw (is, e) ((answers channel small calls).tick n)

  pub told_announce : (n : ℕ) → a ≡ answer_to (after channel calls) (Announce channel n) → AnnounceAnswers n a
  told_announce n e = rw e ((answers channel small calls).announcement n)

  pub told_request : a ≡ answer_to (after channel calls) (Request channel) → Requests h a
  told_request e = rw (is, e) (demand_3 channel small calls).requests

  pub told_reply : (first status : ℕ) → a ≡ answer_to (after channel calls) (Reply channel first status) → ReplyAnswers h first status a
  told_reply first status e = rw (is, e) ((answers channel small calls).reply first status)

  pub told_missing : a ≡ answer_to (after channel calls) (Ask Missing) → a ≡ answer 0 (count (missing h) (known_top h) ∷ [])
  told_missing e = e ∙ rw is (demand_3 channel small calls).counts.missing_is

  pub told_held : a ≡ answer_to (after channel calls) (Ask Held) → a ≡ answer 0 (count (held h) (known_top h) ∷ [])
  told_held e = e ∙ rw is (demand_3 channel small calls).counts.held_is

  pub told_between : (x z : ℕ) → a ≡ answer_to (after channel calls) (Ask (Between channel x z)) → BetweenAnswers h x z a
  told_between x z e = rw (is, e) (between_answers channel small calls x z)

  -- a new session
  pub told_renewal : a ≡ answer_to (after channel calls) Renew → a ≡ answer 0 []
  told_renewal e = e ∙ (answers channel small calls).renewal_0

  -- a number given up that arrives late
  pub told_late : (n : ℕ) → a ≡ answer_to (after channel calls) (Tick channel n) → given_up h n ≡ true → a ≡ refusal 11
  told_late n e g = e ∙ (late_is_11 channel small calls n (sym (ap (λ (x : History). given_up x n) is) ∙ g)).answer_11

  -- what a reply of status 4 gives up, and how a reply names what the floor passes
  pub told_gives_up : (first : ℕ) → a ≡ answer_to (after channel calls) (Reply channel first 4) → answered a 0 ≡ true
      → (n : ℕ) → (gives_up (Reply channel first 4) a n ≡ true) ↔ InRange h n
  told_gives_up first e z n = rw (is, e) (gives_up_exactly channel small calls first (ap (λ (x : Paper). answered x 0) (sym e) ∙ z) n)

  pub told_names_apart : (first status : ℕ) → a ≡ answer_to (after channel calls) (Reply channel first status) → answered a 0 ≡ true
      → NamesApart h (h ▸ Reply channel first status ⇒ a) (Reply channel first status) a
  unfolding trace
  told_names_apart first status e z = rw (is, e) (names_apart channel small calls first status (ap (λ (x : Paper). answered x 0) (sym e) ∙ z))
