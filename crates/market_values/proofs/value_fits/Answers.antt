-- `value_fits`: by the column's kind. Assumes nothing.
use native.Mathlib.Omega.{arith}
use mathlib.Core.Path.{sym, ap, ◌∙◌}
use Rattle.market_columns.specs.Columns.{kind_number}
use Rattle.market_values.specs.Steps.{step_true, step_size_w, step_number, step_text}
use Rattle.market_values.proofs.value_fits.Goals as goal

pub returns-in-Constant : goal.returns-in-Constant
returns-in-Constant c = let a = c.args in sym (step_true a.i a.p a.s.now _ _ _ _ c.column-form.ensures.0 c.requires c.in-Constant.is)

pub returns-in-Number : goal.returns-in-Number
returns-in-Number c = let a = c.args in let t = c.amount_at.ensures in c.number_fits.ensures ∙ rw (t.0, t.1) (sym (step_number a.i a.p a.s.now _ _ _ _ c.column-form.ensures.0 (ap kind_number c.in-Number.is)))

pub returns-in-Text : goal.returns-in-Text
returns-in-Text c =
    let a = c.args in
    let k = ap kind_number c.in-Text.is in
    c.column_ok.ensures ∙ sym (step_text a.i a.p a.s.now _ _ _ _ c.column-form.ensures.0 (omega (arith, step_size_w a.i a.p a.s.now _ _ _ _ c.column-form.ensures.0 (omega (arith, k)), c.requires)) k)
