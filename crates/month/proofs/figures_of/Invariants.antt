-- The invariants: the places filled are figures of rows. Assumes nothing.
use Rattle.std.proofs.Common.{◌+◌, ◌*◌}
use Rattle.month.specs.Rows.{row_figure}
use Rattle.month.proofs.Fill.{Filled}
use Rattle.month.proofs.figures_of.Given as goal

abbrev pub invariant-loop-j : goal.invariant-loop-j
invariant-loop-j l = Filled (row_figure l.rows) 192 (6 * l.j) l.told

abbrev pub invariant-loop-i : goal.invariant-loop-i
invariant-loop-i l = Filled (row_figure l.rows) 192 (6 * l.j + l.i) l.told
