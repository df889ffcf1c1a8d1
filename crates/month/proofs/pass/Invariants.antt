-- The invariant: the named rows are those of the accepted frames so far, and these with what is
-- left at p are all frames of the capture (`Left`). The measure is what is left of the capture.
-- Assumes nothing.
use Rattle.std.proofs.Common.{◌-◌, length}
use Rattle.month.proofs.PassLaws.{Left}
use Rattle.month.proofs.pass.Given as goal

abbrev pub invariant-loop-p : goal.invariant-loop-p
invariant-loop-p l = Left l.capture l.names.channels l.names.count l.rows l.p

abbrev pub decreases-loop-p : goal.decreases-loop-p
decreases-loop-p l = length l.capture - l.p
