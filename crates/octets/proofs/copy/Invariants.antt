-- `copy`. The invariant: the first i bytes of src are laid. Assumes nothing.
use Rattle.std.proofs.Common.{◌≡◌, take}
use Rattle.octets.specs.Octets.{laid}
use Rattle.octets.proofs.copy.Given as goal

abbrev pub invariant-loop-i : goal.invariant-loop-i
invariant-loop-i l = l.d ≡ laid l.at (take l.i l.src) l.initial.d
