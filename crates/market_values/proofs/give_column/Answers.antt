-- `give_column`: by the column's kind. Assumes nothing.
use Prim.Native.Nat.{◌+◌, ◌≤◌}
use native.Mathlib.Omega.{arith}
use mathlib.Core.Path.{◌≡◌, sym, ap, ◌∙◌}
use borrow.Author.Tests.{le-leb}
use lib.ListN.{length, take, drop}
use Rattle.market_columns.specs.Columns.{kind_number}
use Rattle.market_columns.specs.Numbers.{number_at, number_in}
use Rattle.market_columns.specs.NumberSteps.{at_there}
use Rattle.market_columns.specs.Pieces.{window}
use Rattle.market_values.specs.Steps.{fixed_kind, own_kind, step_size_w}
use Rattle.market_values.specs.Giving.{step_none, step_amount, step_clash, step_own}
use Rattle.market_values.proofs.give_column.Goals as goal
use Rattle.market_values.proofs.give_column.Goals.{After-column-form}

-- the column's bytes stand whole
inside : (c : goal.After-column-form) → c.args.p + c.column-form.result.width ≤ length c.args.s.now
inside c = rw c.column-form.ensures.0.width_is c.requires.1.0

-- the number there is that of these bytes
said : (c : goal.After-column-form) → let f = c.column-form.result in number_at c.args.p f.width f.decimals c.args.s.now ≡ number_in f.decimals (take f.width (drop c.args.p c.args.s.now))
said c = at_there _ _ _ _ (le-leb _ _ (inside c))

pub returns-in-Constant : goal.returns-in-Constant
returns-in-Constant c = let a = c.args in step_none a.i a.p a.s.now _ _ _ _ c.column-form.ensures.0 a.at a.out.now (fixed_kind c.in-Constant.is)

pub returns-in-Some : goal.returns-in-Some
returns-in-Some c = let a = c.args in step_amount a.i a.p a.s.now _ _ _ _ c.column-form.ensures.0 a.at a.out.now (ap kind_number c.in-Number.is) _ _ (sym (c.in-Some.ensures ∙ said (goal.at.returns-in-Some c).After-column-form)) _ c.give_number.ensures

pub returns-in_default : goal.returns-in_default
returns-in_default c = let a = c.args in absurd (step_clash a.i a.p a.s.now _ _ _ _ c.column-form.ensures.0 a.at a.out.now (ap kind_number c.in-Number.is) (sym (c.in_default.ensures ∙ said (goal.at.returns-in_default c).After-column-form)) c.requires.1.1)

pub returns-in-Text : goal.returns-in-Text
returns-in-Text c =
    let a = c.args in
    let f = c.column-form.ensures.0 in
    let k = own_kind c.in-Text.is in
    step_own a.i a.p a.s.now _ _ _ _ f a.at a.out.now k (inside (goal.at.returns-in-Text c).After-column-form) (omega (arith, c.requires.0, step_size_w a.i a.p a.s.now _ _ _ _ f k)) _ _ (window a.s.now a.p c.column-form.result.width) c.lay.ensures.1
