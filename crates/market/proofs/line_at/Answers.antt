-- `line_at`: by the column at hand, and the byte behind it. Assumes nothing.
use mathlib.Core.Path.{sym, ◌∙◌}
use native.Mathlib.Omega.{arith}
use Rattle.market_spec.specs.Lines.{turn_none}
use Rattle.market_spec.proofs.Lines.{turn_cut, turn_wrong, turn_ends, turn_bar, turn_on}
use Rattle.market.specs.Papers.{fault_number}
use Rattle.market.proofs.line_at.Goals as goal

pub returns-then-s-p : goal.returns-then-s-p
returns-then-s-p c = let l = c.loop-i in let a = c.args in sym (turn_cut (fault_number a.fault) l.i a.rows.last l.p c.column-width.result.width a.s.now c.loop-i-test.true c.args.rows.within c.column-width.ensures.0.width_is (omega (arith, c.if-s-p.true, l.invariant.0))) ∙ l.invariant.1

pub returns-then-not-column_ok : goal.returns-then-not-column_ok
returns-then-not-column_ok c = let l = c.loop-i in let a = c.args in sym (turn_wrong (fault_number a.fault) l.i a.rows.last l.p c.column-width.result.width a.s.now c.loop-i-test.true c.args.rows.within c.column-width.ensures.0.width_is (omega (arith, c.if-s-p.false, l.invariant.0)) (sym c.if-not-column_ok.ensures)) ∙ l.invariant.1

pub returns-then-s-e : goal.returns-then-s-e
returns-then-s-e c = let l = c.loop-i in let a = c.args in sym (turn_ends (fault_number a.fault) l.i a.rows.last l.p c.column-width.result.width a.s.now c.loop-i-test.true c.args.rows.within c.column-width.ensures.0.width_is (omega (arith, c.if-s-p.false, l.invariant.0)) (sym c.if-not-column_ok.ensures) c.if-s-e.true) ∙ l.invariant.1

pub returns-then-s-e-2 : goal.returns-then-s-e-2
returns-then-s-e-2 c = let l = c.loop-i in let a = c.args in sym (turn_bar (fault_number a.fault) l.i a.rows.last l.p c.column-width.result.width a.s.now c.loop-i-test.true c.args.rows.within c.column-width.ensures.0.width_is (omega (arith, c.if-s-p.false, l.invariant.0)) (sym c.if-not-column_ok.ensures) c.if-s-e.false (λ q. c.if-s-e-2.true (q ∙ sym c.due.ensures))) ∙ l.invariant.1

pub loop-i-preserved : goal.loop-i-preserved
loop-i-preserved c = let l = c.loop-i in let a = c.args in (omega (arith, c.if-s-e.false), sym (turn_on (fault_number a.fault) l.i a.rows.last l.p c.column-width.result.width a.s.now c.loop-i-test.true c.args.rows.within c.column-width.ensures.0.width_is (omega (arith, c.if-s-p.false, l.invariant.0)) (sym c.if-not-column_ok.ensures) c.if-s-e.false (c.if-s-e-2.false ∙ c.due.ensures)) ∙ l.invariant.1)

pub returns : goal.returns
returns c = sym (turn_none _ _ _ _ _ c.loop-i-test.false) ∙ c.loop-i.invariant.1
