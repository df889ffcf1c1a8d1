-- `pass`. The invariant: what is left at p, behind the bytes, frames and found frames so far, gives
-- what the whole capture gives (`Left`). The measure is what is left of the capture.
-- Assumes nothing.
use Prim.Native.Nat.{◌-◌}
use lib.ListN.{length}
use Rattle.clean.proofs.PassLaws.{Left}
use Rattle.clean.proofs.pass.Given as goal

abbrev pub invariant-loop-p : goal.invariant-loop-p
invariant-loop-p l = Left l.capture l.initial.out l.out l.p l.bytes l.frames l.after_damage l.damaged

abbrev pub decreases-loop-p : goal.decreases-loop-p
decreases-loop-p l = length l.capture - l.p
