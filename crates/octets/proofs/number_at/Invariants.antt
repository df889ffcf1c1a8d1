-- `number_at`. The invariant: v is the number in the i bytes passed, and fits as many bytes.
-- Assumes nothing.
use Rattle.std.proofs.Common.{◌≡◌, ◌^◌, ◌<◌}
use Rattle.octets.specs.Octets.{be}
use Rattle.octets.proofs.number_at.Given as goal

abbrev pub invariant-loop-i : goal.invariant-loop-i
invariant-loop-i l = (l.v ≡ be l.i l.at l.s) × (l.v < 256 ^ l.i)
