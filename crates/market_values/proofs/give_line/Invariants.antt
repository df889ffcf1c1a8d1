-- `give_line`. The invariant: what is left of the values, laid over what stands there now, gives
-- what is to be. Assumes nothing.
use Rattle.std.proofs.Common.{◌≡◌, ◌≤◌, ◌+◌, length, drop}
use Rattle.octets.specs.Octets.{laid}
use Rattle.market_columns.specs.Columns.{columns}
use Rattle.market_spec.specs.LineValues.{line_values}
use Rattle.market_spec.specs.ValueBytes.{row_bytes}
use Rattle.market_spec.specs.TakenBack.{sizes_of}
use Rattle.market_values.specs.Giving.{Right}
use Rattle.market_values.proofs.give_line.Given as goal

abbrev pub invariant-loop-i : goal.invariant-loop-i
invariant-loop-i l = (length l.out ≡ length l.initial.out) × ((l.a + sizes_of (columns l.i l.fn.rows.last) ≤ length l.initial.out) × (Right (columns l.i l.fn.rows.last) l.p l.s × (laid l.a (row_bytes (line_values (columns l.i l.fn.rows.last) (drop l.p l.s))) l.out ≡ laid l.at (row_bytes (line_values (columns l.fn.rows.first l.fn.rows.last) (drop l.from l.s))) l.initial.out)))
