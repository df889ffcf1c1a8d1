-- `values_size`. The invariant: what was counted and what is left are the values' bytes
-- (`SizeLeft`). The measure is the bytes left. Assumes nothing.
use Rattle.std.proofs.Common.{◌-◌, length}
use Rattle.market_values.specs.Giving.{SizeLeft}
use Rattle.market_values.proofs.values_size.Given as goal

abbrev pub invariant-loop-line : goal.invariant-loop-line
invariant-loop-line l = SizeLeft l.s l.p l.n

abbrev pub decreases-loop-line : goal.decreases-loop-line
decreases-loop-line l = length l.s - l.p
