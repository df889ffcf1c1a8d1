-- `down`. The invariant: the first i of the bytes stand at the front, all others are as they were.
-- Assumes nothing.
use Rattle.std.proofs.Common.{◌≡◌, take, drop}
use Rattle.octets.specs.Octets.{laid}
use Rattle.stream.proofs.down.Given as goal

abbrev pub invariant-loop-i : goal.invariant-loop-i
invariant-loop-i l = l.w ≡ laid 0 (take l.i (drop l.a l.initial.w)) l.initial.w
