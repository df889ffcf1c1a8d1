use Rattle.std.proofs.Common.{ap, ◌∙◌, arith}
use Rattle.std.specs.Int.{from_bool}
use Rattle.walk_spec.specs.Onward.{Goes, goes_onward}
use Rattle.walk_spec.specs.Counts.{accepts_is}
use Rattle.walk.proofs.PassLaws.{left_start, left_step, left_end}
use Rattle.walk.proofs.pass.Goals as goal
use Rattle.walk.proofs.pass.Goals.{After-onward-p}

-- where it leads is the place of the next reading
goes : (c : goal.After-onward-p) → Goes c.args.capture.now c.loop-p.p c.onward-p.result
goes c = goes_onward _ _ _ c.see-seen.ensures c.loop-p-test.true _ c.onward-p.ensures

pub loop-p-init : goal.loop-p-init
loop-p-init c = left_start _ _ _ c.opened-start.ensures

pub loop-p-smaller : goal.loop-p-smaller
loop-p-smaller c = let g = goes (goal.at.loop-p-smaller c).After-onward-p in omega (arith, g.further, g.inside)

pub loop-p-preserved : goal.loop-p-preserved
loop-p-preserved c =
    left_step c.number_of-answer.result c.offer-after.result.next c.loop-p.invariant c.carried.ensures c.see-seen.ensures (c.number_of-answer.ensures ∙ c.offer-after.ensures.0, c.offer-after.ensures.1) c.made.ensures c.note.ensures
    (goes (goal.at.loop-p-preserved c).After-onward-p) (c.from-frames.ensures ∙ ap from_bool c.is_ok.ensures.value ∙ accepts_is c.see-seen.result.answer)

pub returns : goal.returns
returns c = left_end c.loop-p.invariant c.carried-2.ensures c.loop-p-test.false
