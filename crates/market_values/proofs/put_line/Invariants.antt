-- `put_line`. The invariant: what is left of the line, laid over what stands there now, gives what
-- is to be. Assumes nothing.
use Rattle.std.proofs.Common.{◌≡◌, ◌≤◌, ◌+◌, length, drop}
use Rattle.octets.specs.Octets.{laid}
use Rattle.market_columns.specs.Columns.{columns}
use Rattle.market_columns.specs.Tables.{length_of}
use Rattle.market_spec.specs.LineValues.{line_text}
use Rattle.market_spec.specs.ValueBytes.{taken_line, AllFit}
use Rattle.market_values.proofs.put_line.Given as goal

abbrev pub invariant-loop-i : goal.invariant-loop-i
invariant-loop-i l = (length l.out ≡ length l.initial.out) × ((l.a + length_of (columns l.i l.fn.rows.last) ≤ length l.initial.out) × (AllFit (columns l.i l.fn.rows.last) l.p l.s × (laid l.a (line_text (columns l.i l.fn.rows.last) (taken_line (columns l.i l.fn.rows.last) (drop l.p l.s))) l.out ≡ laid l.at (line_text (columns l.fn.rows.first l.fn.rows.last) (taken_line (columns l.fn.rows.first l.fn.rows.last) (drop l.from l.s))) l.initial.out)))
