-- `is_fine`. The invariant: what is left is fine with the rows seen so far exactly if all is, and
-- they are 27 bits. The measure is what is left. Assumes nothing.
use Prim.Native.Nat.{◌-◌, ◌^◌, ◌<◌, ◌≤◌}
use lib.ListN.{length, drop}
use mathlib.Core.Path.{◌≡◌}
use Rattle.step_spec.specs.Seen.{seen_in}
use Rattle.step_spec.specs.Pass.{fine_from, fine_of}
use Rattle.step_frame.proofs.is_fine.Given as goal

abbrev pub invariant-loop-i : goal.invariant-loop-i
invariant-loop-i l = (l.i ≤ length l.fields) × (l.seen < 2 ^ 27) × (fine_from l.kind (seen_in 27 l.seen) (drop l.i l.fields) ≡ fine_of l.kind l.fields)

abbrev pub decreases-loop-i : goal.decreases-loop-i
decreases-loop-i l = length l.fields - l.i
