-- `lines_at`: by what stands at the line's start. Assumes nothing.
use native.Mathlib.Omega.{arith}
use mathlib.Core.Path.{◌≡◌, sym, ap, ◌∙◌}
use mathlib.Core.List.{List}
use Rattle.std.proofs.lemmas.Result.{err_from_is_err_and}
use Rattle.market_columns.specs.Columns.{Column}
use Rattle.market_spec.specs.File.{line_fault, layout_of, type_at}
use Rattle.market_spec.specs.Types.{trailer_room, left_first}
use Rattle.market_spec.proofs.Types.{left_trailer, left_cut, left_type, left_wrong, left_farther, left_next}
use Rattle.market.specs.Papers.{verdict_paper, fault_some}
use Rattle.market.specs.Starts.{line_not}
use Rattle.market.proofs.lines_at.Goals as goal
use Rattle.market.proofs.lines_at.Goals.{After-line_at}

-- the line that was looked at is that of the type there
looked : (c : goal.After-line_at) → let p = c.loop-line.p in let s = c.args.s.now in line_fault 43 (layout_of (type_at p s)) p s ≡ verdict_paper c.line_at.result
looked c = ap (λ (cs : List Column). line_fault 43 cs c.loop-line.p c.args.s.now) (ap layout_of (sym c.in-Line.ensures) ∙ sym c.rows.ensures.0) ∙ sym c.line_at.ensures

pub loop-line-init : goal.loop-line-init
loop-line-init c = left_first _ _ c.requires

pub returns-in_err-p-in-Line : goal.returns-in_err-p-in-Line
returns-in_err-p-in-Line c =
    let p = err_from_is_err_and c.from_residual.result c.from_residual.ensures.1 in
    let n = line_not c.in-Line.line in
    rw (p.1, p.2) (left_wrong _ _ _ _ c.loop-line.invariant (λ e. n.0 (c.in-Line.ensures ∙ e)) (λ e. n.1 (c.in-Line.ensures ∙ e)) (λ e. n.2 (c.in-Line.ensures ∙ e)) _ _ (fault_some c.in_err-p-in-Line.field-0.0.fault) (looked (goal.at.returns-in_err-p-in-Line c).After-line_at ∙ ap verdict_paper c.in_err-p-in-Line.was))

pub loop-line-smaller : goal.loop-line-smaller
loop-line-smaller c =
    let n = line_not c.in-Line.line in
    let r = left_farther _ _ _ _ c.loop-line.invariant (λ e. n.0 (c.in-Line.ensures ∙ e)) (λ e. n.1 (c.in-Line.ensures ∙ e)) (λ e. n.2 (c.in-Line.ensures ∙ e)) _ (looked (goal.at.loop-line-smaller c).After-line_at ∙ ap verdict_paper c.in_ok-p-in-Line.was) in
    omega (arith, r.0, r.1)

pub loop-line-preserved : goal.loop-line-preserved
loop-line-preserved c =
    let n = line_not c.in-Line.line in
    left_next _ _ _ _ c.loop-line.invariant (λ e. n.0 (c.in-Line.ensures ∙ e)) (λ e. n.1 (c.in-Line.ensures ∙ e)) (λ e. n.2 (c.in-Line.ensures ∙ e)) _ (looked (goal.at.loop-line-preserved c).After-line_at ∙ ap verdict_paper c.in_ok-p-in-Line.was)

pub trailer_at-requires : goal.trailer_at-requires
trailer_at-requires c = trailer_room _ _ c.loop-line.invariant.inside (sym c.in-Trailer.ensures)

pub returns-in-Trailer : goal.returns-in-Trailer
returns-in-Trailer c = c.trailer_at.ensures ∙ left_trailer _ _ _ _ c.loop-line.invariant (sym c.in-Trailer.ensures)

pub returns-in-Cut : goal.returns-in-Cut
returns-in-Cut c = left_cut _ _ _ _ c.loop-line.invariant (sym c.in-Cut.ensures)

pub returns-in-Other : goal.returns-in-Other
returns-in-Other c = left_type _ _ _ _ c.loop-line.invariant (sym c.in-Other.ensures)
