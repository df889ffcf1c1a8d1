use Rattle.std.proofs.Common.{sym, ap, ◌∙◌, arith, rules}
use Rattle.walk_spec.specs.Onward.{Goes, goes_onward}
use Rattle.month_spec.specs.Page.{place_in}
use Rattle.month.proofs.PassLaws.{err_refused, ok_accepted, left_start, left_refused, left_none, row_roomy, left_own, left_end}
use Rattle.month.proofs.pass.Goals as goal
use Rattle.month.proofs.pass.Goals.{After-onward-p}

-- where it leads is the place of the next reading
goes : (c : goal.After-onward-p) → Goes c.args.capture.now c.loop-p.p c.onward-p.result
goes c = goes_onward _ _ _ c.see-seen.ensures c.loop-p-test.true _ c.onward-p.ensures

pub loop-p-init : goal.loop-p-init
loop-p-init c = left_start _ _ _ _ c.fresh_rows.ensures

pub loop-p-smaller-then-is_err : goal.loop-p-smaller-then-is_err
loop-p-smaller-then-is_err c = let g = goes (goal.at.loop-p-smaller-then-is_err c).After-onward-p in omega (arith, g.further, g.inside)

pub loop-p-preserved-then-is_err : goal.loop-p-preserved-then-is_err
loop-p-preserved-then-is_err c =
    left_refused _ _ _ _ _ _ c.loop-p.invariant _ c.see-seen.ensures (goes (goal.at.loop-p-preserved-then-is_err c).After-onward-p)
    (err_refused c.see-seen.result.answer (sym c.is_err.ensures.value ∙ c.if-is_err.true))

pub loop-p-smaller-in_default : goal.loop-p-smaller-in_default
loop-p-smaller-in_default c = let g = goes (goal.at.loop-p-smaller-in_default c).After-onward-p in omega (arith, g.further, g.inside)

pub loop-p-preserved-in_default : goal.loop-p-preserved-in_default
loop-p-preserved-in_default c =
    left_none _ _ _ _ _ _ c.loop-p.invariant _ c.see-seen.ensures (goes (goal.at.loop-p-preserved-in_default c).After-onward-p)
    (ok_accepted c.see-seen.result.answer (sym c.is_err.ensures.value ∙ c.if-is_err.false)) c.args.names.now.naming
    (omega (arith, c.in_default.ensures.place ∙ ap (place_in c.args.names.now.channels c.args.names.now.count) c.value-channel.ensures))

pub turned-requires : goal.turned-requires
turned-requires c = row_roomy _ _ _ _ _ _ c.loop-p.invariant _ c.see-seen.ensures (goes (goal.at.turned-requires c).After-onward-p)
    (ok_accepted c.see-seen.result.answer (sym c.is_err.ensures.value ∙ c.if-is_err.false)) c.args.names.now.naming _
    (c.in-Some.ensures.place ∙ ap (place_in c.args.names.now.channels c.args.names.now.count) c.value-channel.ensures) c.in-Some.ensures.inside _ (search rules)

pub loop-p-smaller : goal.loop-p-smaller
loop-p-smaller c = let g = goes (goal.at.loop-p-smaller c).After-onward-p in omega (arith, g.further, g.inside)

pub loop-p-preserved : goal.loop-p-preserved
loop-p-preserved c = left_own _ _ _ _ _ _ c.loop-p.invariant _ c.see-seen.ensures (goes (goal.at.loop-p-preserved c).After-onward-p)
    (ok_accepted c.see-seen.result.answer (sym c.is_err.ensures.value ∙ c.if-is_err.false)) c.args.names.now.naming _
    (c.in-Some.ensures.place ∙ ap (place_in c.args.names.now.channels c.args.names.now.count) c.value-channel.ensures) c.in-Some.ensures.inside _ _ c.turned.ensures

pub returns : goal.returns
returns c = left_end _ _ _ _ _ c.loop-p.invariant c.loop-p-test.false
