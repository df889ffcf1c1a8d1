-- `put_fixed`: the room, then a constant or spaces. Assumes nothing.
use Prim.Native.Nat.{ℕ}
use native.Mathlib.Omega.{arith}
use mathlib.Core.Path.{sym, ap, ◌∙◌}
use mathlib.Core.List.{List}
use Rattle.octets.specs.Octets.{laid}
use Rattle.market_columns.specs.Columns.{kind_number}
use Rattle.market_columns.proofs.ColumnSteps.{fixed_may, fixed_is_constant, fixed_is_blank, put_done}
use Rattle.market_columns.proofs.put_fixed.Goals as goal

pub returns-in-Constant : goal.returns-in-Constant
returns-in-Constant c =
    let a = c.args in
    let f = c.column-form.ensures.0 in
    let k = ap kind_number c.in-Constant.is in
    put_done _ a.dst.now _ _ (fixed_may a.i a.at a.dst.now _ _ _ _ f (omega (arith, k)) (sym c.if-not-has_room.ensures)) (c.store_constant.ensures ∙ ap (λ (t : List ℕ). laid a.at t a.dst.now) (sym (fixed_is_constant a.i a.at a.dst.now _ _ _ _ f k)))

pub returns-in-Blank : goal.returns-in-Blank
returns-in-Blank c =
    let a = c.args in
    let f = c.column-form.ensures.0 in
    let k = ap kind_number c.in-Blank.is in
    put_done _ a.dst.now _ _ (fixed_may a.i a.at a.dst.now _ _ _ _ f (omega (arith, k)) (sym c.if-not-has_room.ensures)) (c.put_spaces.ensures ∙ ap (λ (t : List ℕ). laid a.at t a.dst.now) (sym (fixed_is_blank a.i a.at a.dst.now _ _ _ _ f k)))
