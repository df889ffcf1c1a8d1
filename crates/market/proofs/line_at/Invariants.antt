-- `line_at`. The invariant: what is left of the columns gives the same answer. Assumes nothing.
use Rattle.std.proofs.Common.{◌≡◌, ◌≤◌, length}
use Rattle.market_columns.specs.Columns.{columns}
use Rattle.market_spec.specs.File.{line_fault}
use Rattle.market.specs.Papers.{fault_number}
use Rattle.market.proofs.line_at.Given as goal

abbrev pub invariant-loop-i : goal.invariant-loop-i
invariant-loop-i l = (l.p ≤ length l.s) × (line_fault (fault_number l.fault) (columns l.i l.rows.last) l.p l.s ≡ line_fault (fault_number l.fault) (columns l.rows.first l.rows.last) l.at l.s)
