-- `judge`: the header's own values, then the lines'. Assumes nothing.
use mathlib.Core.Path.{sym, ◌∙◌}
use Rattle.std.proofs.lemmas.Result.{err_from_is_err_and}
use Rattle.market.specs.Papers.{fault_some}
use Rattle.market_values.specs.Writing.{judged_wrong, judged_lines}
use Rattle.market_values.proofs.judge.Goals as goal

pub returns-in_err-values_fit : goal.returns-in_err-values_fit
returns-in_err-values_fit c = let p = err_from_is_err_and c.from_residual.result c.from_residual.ensures.1 in rw (p.1, p.2) (judged_wrong _ _ _ (fault_some c.in_err-values_fit.field-0.0.fault) (sym c.in_err-values_fit.ensures))

pub judge_lines-requires : goal.judge_lines-requires
judge_lines-requires c = (judged_lines _ _ (sym c.in_ok-values_fit.ensures)).0

pub returns : goal.returns
returns c = c.judge_lines.ensures ∙ (judged_lines _ _ (sym c.in_ok-values_fit.ensures)).1
