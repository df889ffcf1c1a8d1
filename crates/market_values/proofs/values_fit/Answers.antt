-- `values_fit`: by the column at hand. Assumes nothing.
use mathlib.Core.Path.{sym, ◌∙◌}
use native.Mathlib.Omega.{arith}
use Rattle.market_spec.specs.ValueBytes.{taken_cut, taken_unfit, taken_on, taken_none}
use Rattle.market_values.proofs.values_fit.Goals as goal

pub returns-then-s-p : goal.returns-then-s-p
returns-then-s-p c = let l = c.loop-i in let a = c.args in sym (taken_cut l.i a.rows.last l.p _ a.s.now c.loop-i-test.true a.rows.within c.size-n.ensures (omega (arith, c.if-s-p.true, l.invariant.0))) ∙ l.invariant.1

pub returns-then-not-value_fits : goal.returns-then-not-value_fits
returns-then-not-value_fits c = let l = c.loop-i in let a = c.args in sym (taken_unfit l.i a.rows.last l.p _ a.s.now c.loop-i-test.true a.rows.within c.size-n.ensures (omega (arith, c.if-s-p.false, l.invariant.0)) (sym c.if-not-value_fits.ensures)) ∙ l.invariant.1

pub loop-i-preserved : goal.loop-i-preserved
loop-i-preserved c = let l = c.loop-i in let a = c.args in (omega (arith, c.if-s-p.false, l.invariant.0), sym (taken_on l.i a.rows.last l.p _ a.s.now c.loop-i-test.true a.rows.within c.size-n.ensures (omega (arith, c.if-s-p.false, l.invariant.0)) (sym c.if-not-value_fits.ensures)) ∙ l.invariant.1)

pub returns : goal.returns
returns c = sym (taken_none _ _ _ _ c.loop-i-test.false) ∙ c.loop-i.invariant.1
