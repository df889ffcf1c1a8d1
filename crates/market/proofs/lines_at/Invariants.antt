-- `lines_at`. The invariant: what is left gives the same answer (`Left`). The measure is the bytes
-- left. Assumes nothing.
use Rattle.std.proofs.Common.{◌-◌, length}
use Rattle.market_spec.specs.Types.{Left}
use Rattle.market.proofs.lines_at.Given as goal

abbrev pub invariant-loop-line : goal.invariant-loop-line
invariant-loop-line l = Left l.s l.at l.p l.k

abbrev pub decreases-loop-line : goal.decreases-loop-line
decreases-loop-line l = length l.s - l.p
