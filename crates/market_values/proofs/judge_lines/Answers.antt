-- `judge_lines`: by the line at hand. Assumes nothing.
use Prim.Native.Nat.{◌+◌, ◌≤◌}
use native.Mathlib.Omega.{arith}
use mathlib.Core.Path.{◌≡◌, sym, ap, ◌∙◌}
use mathlib.Core.List.{List}
use lib.ListN.{length}
use Rattle.std.proofs.lemmas.Result.{err_from_is_err_and}
use Rattle.octets.specs.Octets.{be}
use Rattle.market.specs.Papers.{verdict_paper, fault_some}
use Rattle.market.specs.Starts.{line_number, line_not}
use Rattle.market_columns.specs.Columns.{Column}
use Rattle.market_spec.specs.File.{layout_of}
use Rattle.market_spec.specs.ValueBytes.{taken_fault}
use Rattle.market_spec.specs.FileBytes.{type_of}
use Rattle.market_values.specs.Writing.{judge_first, judge_short, judge_type, judge_wrong, judge_farther, judge_next, judge_end}
use Rattle.market_values.proofs.judge_lines.Goals as goal
use Rattle.market_values.proofs.judge_lines.Goals.{After-values_fit}

-- the type that stands there, and what its values answer
typed : (c : goal.After-values_fit) → line_number c.in-Some.line ≡ type_of (be 2 c.loop-p.p c.args.s.now)
typed c = c.in-Some.ensures ∙ ap type_of c.at.ensures

told : (c : goal.After-values_fit) → let p = c.loop-p.p in let s = c.args.s.now in verdict_paper c.values_fit.result ≡ taken_fault (layout_of (type_of (be 2 p s))) (p + 2) s
told c = c.values_fit.ensures ∙ ap (λ (cs : List Column). taken_fault cs (c.loop-p.p + 2) c.args.s.now) (c.rows.ensures.0 ∙ ap layout_of (typed c))

other : (c : goal.After-values_fit) → type_of (be 2 c.loop-p.p c.args.s.now) ≡ 0 → ⊥
other c e = (line_not c.in-Some.line).2 (typed c ∙ e)

whole : (c : goal.After-values_fit) → c.loop-p.p + 2 ≤ length c.args.s.now
whole c = omega (arith, c.if-s-p-lt2.false, c.loop-p-test.true)

pub loop-p-init : goal.loop-p-init
loop-p-init c = judge_first _ c.requires

pub returns-then-s-p-lt2 : goal.returns-then-s-p-lt2
returns-then-s-p-lt2 c = let l = c.loop-p in judge_short _ l.p l.lines l.size l.invariant c.loop-p-test.true (omega (arith, c.if-s-p-lt2.true))

pub returns-in_default : goal.returns-in_default
returns-in_default c = let l = c.loop-p in judge_type _ l.p l.lines l.size l.invariant c.loop-p-test.true (omega (arith, c.if-s-p-lt2.false, c.loop-p-test.true)) (sym (c.in_default.ensures ∙ ap type_of c.at.ensures))

pub returns-in_err-p : goal.returns-in_err-p
returns-in_err-p c =
    let l = c.loop-p in
    let q = (goal.at.returns-in_err-p c).After-values_fit in
    let p = err_from_is_err_and c.from_residual.result c.from_residual.ensures.1 in
    rw (p.1, p.2) (judge_wrong _ l.p l.lines l.size l.invariant c.loop-p-test.true (whole q) (other q) _ _ (fault_some c.in_err-p.field-0.0.fault) (sym (told q) ∙ ap verdict_paper c.in_err-p.was))

pub loop-p-smaller : goal.loop-p-smaller
loop-p-smaller c =
    let l = c.loop-p in
    let q = (goal.at.loop-p-smaller c).After-values_fit in
    let f = judge_farther c.args.s.now l.p l.lines l.size l.invariant c.loop-p-test.true (whole q) (other q) c.in_ok-p.p (sym (told q) ∙ ap verdict_paper c.in_ok-p.was) in
    omega (arith, f.0, f.1)

pub loop-p-preserved : goal.loop-p-preserved
loop-p-preserved c =
    let l = c.loop-p in
    let q = (goal.at.loop-p-preserved c).After-values_fit in
    rw (c.line_sizes-size.ensures.0.0, typed q) (judge_next c.args.s.now l.p l.lines l.size l.invariant c.loop-p-test.true (whole q) (other q) c.in_ok-p.p (sym (told q) ∙ ap verdict_paper c.in_ok-p.was))

pub returns : goal.returns
returns c = let l = c.loop-p in judge_end _ l.p l.lines l.size l.invariant c.loop-p-test.false
