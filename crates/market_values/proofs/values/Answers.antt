-- `values`: as the check answers; then 8, or the values laid. Assumes nothing.
use native.Mathlib.Omega.{arith}
use mathlib.Core.Path.{sym}
use Rattle.std.proofs.lemmas.Result.{err_from_is_err_and}
use Rattle.market.specs.Papers.{fault_some}
use Rattle.market_spec.specs.WrittenAgain.{values_wrong, values_lack, values_fine}
use Rattle.market_values.specs.Giving.{not_laid, is_laid}
use Rattle.market_values.proofs.values.Goals as goal

pub returns-in_err-check : goal.returns-in_err-check
returns-in_err-check c =
    let p = err_from_is_err_and c.from_residual.result c.from_residual.ensures.1 in
    let z = fault_some c.in_err-check.field-0.0.fault in
    rw (p.1, p.2) (not_laid _ _ _ _ _ z (values_wrong _ _ _ _ z (sym c.in_err-check.ensures)))

pub returns-then-out-n : goal.returns-then-out-n
returns-then-out-n c = not_laid _ 8 0 _ _ (λ z. omega arith) (values_lack _ _ _ (sym c.in_ok-check.ensures) (rw (← c.values_size-n.ensures) c.if-out-n.true))

pub returns : goal.returns
returns c = is_laid _ _ _ _ _ (rw c.values_size-n.ensures (values_fine _ _ _ (sym c.in_ok-check.ensures) (rw (← c.values_size-n.ensures) c.if-out-n.false))) c.give_all.ensures
