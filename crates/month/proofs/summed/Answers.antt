use Rattle.std.proofs.Common.{◌∙◌}
use Rattle.month.proofs.Fill.{fill_start, fill_step, fill_end, zero_at, zeros_long}
use Rattle.month.proofs.Loops.{passed_none, passed_one, one_fits, one_passes, all_fit}
use Rattle.month.proofs.summed.Goals as goal

pub loop-k-init : goal.loop-k-init
loop-k-init c = (fill_start _ _ _ (zeros_long 192) (zero_at 192), passed_none _ _)

pub returns-in_err-next : goal.returns-in_err-next
returns-in_err-next c = c.from_residual.ensures ∙ one_passes c.args.sums c.args.figures c.loop-k.k c.loop-k-test.true c.in_err-next.ensures

pub loop-k-preserved : goal.loop-k-preserved
loop-k-preserved c =
    let e = c.in_ok-next.ensures in
    (fill_step _ _ _ _ _ c.loop-k.invariant.0 c.loop-k-test.true e.1, passed_one c.loop-k.invariant.1 c.loop-k-test.true (one_fits c.args.sums c.args.figures c.loop-k.k e.0))

pub returns : goal.returns
returns c = all_fit c.args.sums c.args.figures _ _ c.loop-k.invariant.1 c.loop-k-test.false (fill_end _ _ _ _ c.loop-k.invariant.0 c.loop-k-test.false)
