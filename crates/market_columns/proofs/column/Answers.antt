-- `column`: the table is 003's rows, computed. Assumes nothing.
use mathlib.Core.Path.{sym}
use lib.ListN.{get_or-eq_default}
use Rattle.market_columns.specs.Tables.{starts, form_past, form_is, start_row}
use Rattle.market_columns.proofs.column.Goals as goal

pub returns-then-i-lt58 : goal.returns-then-i-lt58
returns-then-i-lt58 c = (form_is c.args.i c.if-i-lt58.true, start_row c.args.i)

pub returns-else-i-lt58 : goal.returns-else-i-lt58
returns-else-i-lt58 c = (form_past c.args.i c.if-i-lt58.false, sym (get_or-eq_default starts 0 {n = c.args.i} c.if-i-lt58.false))
