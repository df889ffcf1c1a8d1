-- `pass`. The invariant: what is carried is the ledger of the calls so far, and what is left at p,
-- behind the records and frames so far, gives what the whole walk gives (`Left`). The measure is
-- what is left of the capture. Assumes nothing.
use Rattle.std.proofs.Common.{◌-◌, length}
use Rattle.walk.specs.Passes.{carried_of}
use Rattle.walk.proofs.PassLaws.{Left}
use Rattle.walk.proofs.pass.Given as goal

abbrev pub invariant-loop-p : goal.invariant-loop-p
invariant-loop-p l = Left l.capture l.initial.out l.out l.p l.records l.frames (carried_of l.floor l.top l.map)

abbrev pub decreases-loop-p : goal.decreases-loop-p
decreases-loop-p l = length l.capture - l.p
