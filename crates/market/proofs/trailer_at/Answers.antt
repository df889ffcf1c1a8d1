-- `trailer_at`: its bytes, then count and sum. Assumes nothing.
use mathlib.Core.Path.{sym, ◌∙◌}
use Rattle.std.proofs.lemmas.Result.{err_from_is_err_and}
use Rattle.market_spec.specs.Types.{trailer_wrong, trailer_fine}
use Rattle.market.specs.Papers.{fault_some}
use Rattle.market.proofs.trailer_at.Goals as goal

pub returns-in_err-end_at : goal.returns-in_err-end_at
returns-in_err-end_at c = let p = err_from_is_err_and c.from_residual.result c.from_residual.ensures.1 in rw (p.1, p.2) (sym (trailer_wrong _ _ _ _ _ (fault_some c.in_err-end_at.field-0.0.fault) (sym c.in_err-end_at.ensures)))

pub returns : goal.returns
returns c = c.close.ensures ∙ sym (trailer_fine _ _ _ _ (sym c.in_ok-end_at.ensures))
