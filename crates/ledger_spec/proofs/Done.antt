-- When 0 is given, both ways: the state keeps its rules, the call is the ledger's own, and none of
-- the other numbers is given. Assumes nothing.
use mathlib.Core.Path.{◌≡◌, ◌∙◌}
use mathlib.Core.Logic.{◌↔◌}
use native.Mathlib.Omega.{arith}
use Rattle.ledger_spec.specs.State.{Book}
use Rattle.ledger_spec.specs.Calls.{Call, number_to}
use Rattle.ledger_spec.specs.Given.{Given0}
use Rattle.ledger_spec.proofs.Numbers.{checked_facts, checked_test}
use Rattle.ledger_spec.proofs.Given.{own_test, own_fact, fine_fact, fine_test}

pub given_0 : (b : Book) (call : Call) → (number_to b call ≡ 0) ↔ Given0 b call
given_0 b call = (λ e. to e, λ g. checked_test b call g.rules (own_test b call g.own) ∙ fine_test b call g.fine)
  where
    to : number_to b call ≡ 0 → Given0 b call
    to e =
        let c = checked_facts b call e (λ q. omega arith) (λ q. omega arith) in
        record { rules = c.rules; own = own_fact b call c.here; fine = fine_fact b call c.rules c.own }
