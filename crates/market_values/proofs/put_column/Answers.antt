-- `put_column`: by the column's kind. Assumes nothing.
use native.Mathlib.Omega.{arith}
use mathlib.Core.Path.{sym, ap}
use Rattle.market_columns.specs.Columns.{kind_number}
use Rattle.market_columns.specs.Pieces.{window}
use Rattle.market_values.specs.Steps.{fixed_kind, own_kind, step_size_w, put_fixed_is, put_number_is, put_own_is}
use Rattle.market_values.proofs.put_column.Goals as goal

pub returns-in-Constant : goal.returns-in-Constant
returns-in-Constant c = let a = c.args in let f = c.column-form.ensures.0 in put_fixed_is a.i a.p a.s.now _ _ _ _ f a.at a.out.now (rw (sym f.width_is) at c.requires.0) (fixed_kind c.in-Constant.is) _ c.put_fixed.ensures.1

pub returns-in-Number : goal.returns-in-Number
returns-in-Number c =
    let a = c.args in
    let f = c.column-form.ensures.0 in
    let t = c.amount_at.ensures in
    put_number_is a.i a.p a.s.now _ _ _ _ f a.at a.out.now (rw (sym f.width_is) at c.requires.0) (ap kind_number c.in-Number.is) c.requires.1.1 _ (rw (t.0, t.1) at c.put_number.ensures.1)

pub returns-in-Text : goal.returns-in-Text
returns-in-Text c =
    let a = c.args in
    let f = c.column-form.ensures.0 in
    let k = own_kind c.in-Text.is in
    put_own_is a.i a.p a.s.now _ _ _ _ f a.at a.out.now (rw (sym f.width_is) at c.requires.0) k (omega (arith, step_size_w a.i a.p a.s.now _ _ _ _ f k, c.requires.1.0)) _ _ (window a.s.now a.p c.column-form.result.width) c.lay.ensures.1
