-- `rk_ledger_renew`: the number of the call's paper, and the words after it. Assumes nothing.
use mathlib.Core.Path.{refl, ◌∙◌}
use Rattle.host_ledger.proofs.Calls.{answers, plain_number}
use Rattle.host_ledger.proofs.rk_ledger_renew.Goals as goal

pub returns : goal.returns
returns c =
    let a = c.renewed-noted.ensures in
    answers _ c.ledger_in.ensures refl a.1 a.0 (c.number_of-answer.ensures ∙ plain_number _) c.keep.ensures
