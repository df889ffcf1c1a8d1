-- `column_ok`: the column's numbers, its room, then by its kind. Assumes nothing.
use native.Mathlib.Omega.{arith}
use mathlib.Core.Path.{sym, ap, ◌∙◌}
use mathlib.Core.Bool.{not}
use lib.Dec.{eqb}
use lib.ListN.{length}
use Rattle.terms.specs.Paper.{Paper}
use Rattle.market_columns.specs.Columns.{kind_number}
use Rattle.market_columns.proofs.ColumnSteps.{turn_lacks, turn_constant, turn_blank, turn_number, turn_text, turn_name, some_paper}
use Rattle.market_columns.proofs.column_ok.Goals as goal

pub returns-then-not-has_room : goal.returns-then-not-has_room
returns-then-not-has_room c = sym (turn_lacks _ _ _ _ _ _ _ c.column-form.ensures.0 (sym c.if-not-has_room.ensures))

pub returns-in-Constant : goal.returns-in-Constant
returns-in-Constant c = c.eq.ensures ∙ sym (turn_constant _ _ _ _ _ _ _ c.column-form.ensures.0 (sym c.if-not-has_room.ensures) (ap kind_number c.in-Constant.is))

pub returns-in-Blank : goal.returns-in-Blank
returns-in-Blank c = rw c.spaces.ensures.0 (sym (turn_blank _ _ _ _ _ _ _ c.column-form.ensures.0 (sym c.if-not-has_room.ensures) (ap kind_number c.in-Blank.is)))

pub returns-in-Number : goal.returns-in-Number
returns-in-Number c = c.is_some.ensures ∙ some_paper c.number_in.result ∙ ap (λ (p : Paper). not (eqb (length p.values) 0)) c.number_in.ensures ∙ sym (turn_number _ _ _ _ _ _ _ c.column-form.ensures.0 (sym c.if-not-has_room.ensures) (ap kind_number c.in-Number.is))

pub returns-in-Text : goal.returns-in-Text
returns-in-Text c = rw c.spaces-k.ensures.0 (sym (turn_text _ _ _ _ _ _ _ c.column-form.ensures.0 (sym c.if-not-has_room.ensures) (ap kind_number c.in-Text.is)))

pub returns-in-Name : goal.returns-in-Name
returns-in-Name c =
    let k = ap kind_number c.in-Name.is in
    sym (turn_name _ _ _ _ _ _ _ c.column-form.ensures.0 (sym c.if-not-has_room.ensures) (λ z. omega (arith, z, k)) (λ z. omega (arith, z, k)) (λ z. omega (arith, z, k)) (λ z. omega (arith, z, k)))
