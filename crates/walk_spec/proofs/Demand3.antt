-- Demand 3 of the walk's ledger: it is the fresh ledger of channel 100 after the calls that the
-- capture's readings make. Assumes nothing.
use mathlib.Core.Path.{◌≡◌, sym, ap, ◌∙◌}
use mathlib.Core.Bool.{not}
use mathlib.Core.List.{List, [], ◌∷◌}
use Prim.Native.Nat.{ℕ, ◌+◌, ◌≤◌}
use native.Mathlib.Omega.{arith}
use borrow.Author.Tests.{le-leb}
use Rattle.terms.specs.Paper.{answer}
use Rattle.tick_map.proofs.Digits.{tally_ext}
use Rattle.ledger.specs.State.{book_of, ledger_of}
use Rattle.ledger_spec.specs.Calls.{Ask, Missing, answer_to}
use Rattle.ledger_spec.specs.Trace.{after, History, trace}
use Rattle.ledger_spec.specs.Words.{settled, known_top, missing, one, count}
use Rattle.ledger_spec.specs.Demand3.{Demand3}
use Rattle.ledger.specs.declared.Ledger.{Ledger}
use Rattle.ledger_spec.proofs.Agree.{agrees}
use Rattle.ledger_spec.proofs.Demand3.{demand_3}
use Rattle.ledger.proofs.Seam.{book_of_lem}
use Rattle.walk_spec.specs.Walk.{walk_of, calls_of}
use Rattle.walk_spec.specs.CallLaws.{walk_ledger, brought, or_false, walk_gives_up_none}
use Rattle.walk_spec.proofs.CallLaws.{walk_received}

module _ (s : List ℕ) where
  -- the calls that the readings make, with their answers
  abbrev history : History
  history = trace 100 (calls_of s)

  pub walk_demand_3 : Demand3 history 100 (walk_of s).ledger
  walk_demand_3 = rw (walk_ledger s) (demand_3 100 (omega arith) (calls_of s))

  -- the same of the ledger that the code hands back
  pub ledger_demand_3 : (l : Ledger) → l ≡ ledger_of (walk_of s).ledger → Demand3 history 100 (book_of l)
  ledger_demand_3 l e =
      let b : book_of l ≡ after 100 (calls_of s) = ap book_of (e ∙ ap ledger_of (walk_ledger s)) ∙ book_of_lem (after 100 (calls_of s)) (agrees 100 (omega arith) (calls_of s)).rules.places in
      rw b (demand_3 100 (omega arith) (calls_of s))

  -- a number from 1 to the top is missing exactly if no record brings it
  missing_is : (n : ℕ) → 1 ≤ n → n ≤ known_top history → missing history n ≡ not (brought (walk_of s).records n)
  unfolding missing settled
  missing_is n p q =
      rw (le-leb 1 n p, le-leb n (known_top history) q, walk_received s n, walk_gives_up_none s n) (ap not (or_false (brought (walk_of s).records n)))

  top_is : (walk_of s).ledger.top ≡ known_top history
  top_is = walk_demand_3.shown.top_is

  same_count : count (missing history) (known_top history) ≡ count (λ n. not (brought (walk_of s).records n)) (walk_of s).ledger.top
  unfolding count
  same_count =
      tally_ext (known_top history) (λ i. one (missing history (i + 1))) (λ i. one (not (brought (walk_of s).records (i + 1)))) (λ i l. ap one (missing_is (i + 1) (omega arith) (omega arith)))
      ∙ ap (count (λ n. not (brought (walk_of s).records n))) (sym top_is)

  -- its missing count is how many numbers from 1 to the top no frame of the capture brought
  pub walk_missing : answer_to (walk_of s).ledger (Ask Missing) ≡ answer 0 (count (λ n. not (brought (walk_of s).records n)) (walk_of s).ledger.top ∷ [])
  walk_missing = walk_demand_3.counts.missing_is ∙ ap (λ (k : ℕ). answer 0 (k ∷ [])) same_count
