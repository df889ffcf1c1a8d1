-- `give_lines`. The invariant: what is left of the values, laid over what stands there now, gives
-- what is to be (`GiveLeft`). The measure is the bytes left. Assumes nothing.
use Rattle.std.proofs.Common.{◌≡◌, ◌-◌, length}
use Rattle.octets.specs.Octets.{laid}
use Rattle.market_spec.specs.Sound.{values_of}
use Rattle.market_spec.specs.FileBytes.{lines_bytes}
use Rattle.market_values.specs.Giving.{GiveLeft}
use Rattle.market_values.proofs.give_lines.Given as goal

abbrev pub invariant-loop-line : goal.invariant-loop-line
invariant-loop-line l = (length l.out ≡ length l.initial.out) × GiveLeft l.s l.p l.a l.out (laid 38 (lines_bytes (values_of l.s).lines) l.initial.out)

abbrev pub decreases-loop-line : goal.decreases-loop-line
decreases-loop-line l = length l.s - l.p
