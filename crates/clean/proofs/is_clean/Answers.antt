use native.Mathlib.Omega.{arith}
use mathlib.Core.Path.{◌≡◌, refl}
use lib.ListN.{length}
use borrow.Author.Rules.{rules}
use Rattle.clean_spec.specs.Steps.{Steps}
use Rattle.clean_spec.specs.Kept.{size_of}
use Rattle.clean.proofs.PassLaws.{same_start, parts_long, front_long, place_inside, kept_inside, kept_small, kept_steps, one_long, same_step, same_here, same_more, same_end}
use Rattle.clean.proofs.is_clean.Goals as goal
use Rattle.clean.proofs.is_clean.Goals.{After-unwrap_or-size, After-onward-at}

-- the frame made leaves the array its length
long : (c : After-unwrap_or-size) → length c.keep.new.out ≡ 8192
long c = one_long _ _ _ _ _ _ c.loop-at.invariant c.keep.ensures

-- where it leads is the place of the next reading
steps : (c : After-onward-at) → Steps c.args.capture.now c.loop-at.at (size_of c.keep.result) c.onward-at.result
steps c = kept_steps _ _ _ c.keep.ensures.0 c.loop-at-test.true _ (rw c.unwrap_or-size.ensures at c.onward-at.ensures)

pub loop-at-init : goal.loop-at-init
loop-at-init c = same_start _ _ (search rules)

pub overflow_add-n : goal.overflow_add-n
overflow_add-n c = omega (arith, c.unwrap_or-size.ensures, c.loop-at.invariant.few, kept_inside c.args.capture.now c.loop-at.at _ c.keep.ensures.0 c.loop-at.invariant.inside)

pub slice_bounds-first_difference-end : goal.slice_bounds-first_difference-end
slice_bounds-first_difference-end c = omega (arith, c.unwrap_or-size.ensures, c.loop-at.invariant.few, kept_inside c.args.capture.now c.loop-at.at _ c.keep.ensures.0 c.loop-at.invariant.inside)

pub slice_bounds-one-end : goal.slice_bounds-one-end
slice_bounds-one-end c = omega (arith, c.unwrap_or-size.ensures, long (goal.at.slice_bounds-one-end c).After-unwrap_or-size, kept_small c.args.capture.now c.loop-at.at _ c.keep.ensures.0)

pub loop-at-smaller : goal.loop-at-smaller
loop-at-smaller c = let g = steps (goal.at.loop-at-smaller c).After-onward-at in omega (arith, g.goes.further, g.goes.inside)

pub loop-at-preserved : goal.loop-at-preserved
loop-at-preserved c = same_step _ _ _ _ _ _ c.loop-at.invariant c.keep.ensures _ (steps (goal.at.loop-at-preserved c).After-onward-at) _ c.unwrap_or-size.ensures _ refl c.in_default.ensures

pub returns-in-Some : goal.returns-in-Some
returns-in-Some c = same_here _ _ _ _ _ _ c.loop-at.invariant c.keep.ensures _ (kept_steps _ _ _ c.keep.ensures.0 c.loop-at-test.true _ refl) _ c.unwrap_or-size.ensures _ refl _ c.in-Some.ensures

pub first_difference-requires : goal.first_difference-requires
first_difference-requires c = parts_long _ _ _ _ _ _ c.loop-at.invariant c.keep.ensures _ c.unwrap_or-size.ensures

pub slice_bounds-first_difference-end-in-loop-at : goal.slice_bounds-first_difference-end-in-loop-at
slice_bounds-first_difference-end-in-loop-at c = front_long _ _ _ _ _ _ c.loop-at.invariant c.keep.ensures _ c.unwrap_or-size.ensures

pub overflow_add-result : goal.overflow_add-result
overflow_add-result c = omega (arith, place_inside _ _ _ _ _ _ c.loop-at.invariant c.keep.ensures _ _ c.unwrap_or-size.ensures c.in-Some.ensures)

pub returns-then-n-capture : goal.returns-then-n-capture
returns-then-n-capture c = same_more c.loop-at.invariant c.loop-at-test.false c.if-n-capture.true

pub returns-else-n-capture : goal.returns-else-n-capture
returns-else-n-capture c = same_end c.loop-at.invariant c.loop-at-test.false c.if-n-capture.false
