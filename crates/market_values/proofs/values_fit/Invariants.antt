-- `values_fit`. The invariant: what is left of the columns gives the same answer. Assumes nothing.
use Rattle.std.proofs.Common.{◌≡◌, ◌≤◌, length}
use Rattle.market_columns.specs.Columns.{columns}
use Rattle.market_spec.specs.ValueBytes.{taken_fault}
use Rattle.market_values.proofs.values_fit.Given as goal

abbrev pub invariant-loop-i : goal.invariant-loop-i
invariant-loop-i l = (l.p ≤ length l.s) × (taken_fault (columns l.i l.fn.rows.last) l.p l.s ≡ taken_fault (columns l.fn.rows.first l.fn.rows.last) l.at l.s)
