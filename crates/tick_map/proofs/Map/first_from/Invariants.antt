-- The places before word n behind the place's own, counted round, are clear. Assumes nothing.
use Prim.Native.Nat.{◌-◌, ◌*◌, ◌%◌}
use Rattle.tick_map.proofs.Rotated.{Clear}
use Rattle.tick_map.proofs.Map.first_from.Given as goal

abbrev pub invariant-loop-n : goal.invariant-loop-n
invariant-loop-n l = Clear l.self.words l.s (64 * l.n - l.s % 64)
