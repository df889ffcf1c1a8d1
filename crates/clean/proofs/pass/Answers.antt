use native.Mathlib.Omega.{arith}
use Rattle.clean_spec.specs.Steps.{Steps}
use Rattle.clean_spec.specs.Kept.{size_of}
use Rattle.clean.proofs.PassLaws.{left_start, kept_steps, left_step, left_end}
use Rattle.clean.proofs.pass.Goals as goal
use Rattle.clean.proofs.pass.Goals.{After-onward-p}

-- where it leads is the place of the next reading
steps : (c : After-onward-p) → Steps c.args.capture.now c.loop-p.p (size_of c.keep-kept.result) c.onward-p.result
steps c = kept_steps _ _ _ c.keep-kept.ensures.0 c.loop-p-test.true _ (rw c.unwrap_or-size.ensures at c.onward-p.ensures)

pub loop-p-init : goal.loop-p-init
loop-p-init c = left_start _ _

pub overflow_add-bytes : goal.overflow_add-bytes
overflow_add-bytes c = let g = steps (goal.at.overflow_add-bytes c).After-onward-p in omega (arith, c.unwrap_or-size.ensures, c.loop-p.invariant.few, g.past, g.goes.inside)

pub loop-p-smaller : goal.loop-p-smaller
loop-p-smaller c = let g = steps (goal.at.loop-p-smaller c).After-onward-p in omega (arith, g.goes.further, g.goes.inside)

pub loop-p-preserved : goal.loop-p-preserved
loop-p-preserved c =
    rw (c.unwrap_or-size.ensures, c.from-frames.ensures, c.from-after_damage.ensures, c.is_ok-accepted.ensures.value)
    (left_step c.keep-kept.result c.loop-p.invariant c.keep-kept.ensures (steps (goal.at.loop-p-preserved c).After-onward-p))

pub returns : goal.returns
returns c = left_end c.loop-p.invariant c.loop-p-test.false
