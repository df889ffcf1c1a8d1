-- `sum`. The invariant: v is the sum of the bytes passed. Assumes nothing.
use Rattle.std.proofs.Common.{◌≡◌, take}
use Rattle.octets.specs.Octets.{sum8}
use Rattle.octets.proofs.sum.Given as goal

abbrev pub invariant-loop-b : goal.invariant-loop-b
invariant-loop-b l = l.v ≡ sum8 (take l.b-index l.b-items)
