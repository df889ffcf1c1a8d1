-- `number_at`: the room, then `number_in` of the column's bytes. Assumes nothing.
use mathlib.Core.Path.{sym, ap, ◌∙◌}
use Rattle.market_columns.specs.Numbers.{number_in}
use Rattle.market_columns.specs.Pieces.{window}
use Rattle.market_columns.specs.NumberSteps.{at_lacks, at_there}
use Rattle.market_columns.proofs.number_at.Goals as goal

pub returns-then-not-has_room : goal.returns-then-not-has_room
returns-then-not-has_room c = sym (at_lacks _ _ _ _ (sym c.if-not-has_room.ensures))

pub returns : goal.returns
returns c = let a = c.args in c.number_in.ensures ∙ ap (number_in a.form.decimals) (window a.s.now a.at a.form.width) ∙ sym (at_there _ _ _ _ (sym c.if-not-has_room.ensures))
