-- `wash`. The invariant: what is left at p, behind the frames so far, gives what the whole run
-- gives, at whatever place the bytes stand (`Left`). The measure is what is left of them.
-- Assumes nothing.
use Prim.Native.Nat.{ℕ, ◌+◌, ◌-◌}
use mathlib.Core.List.{◌++◌}
use lib.ListN.{length}
use Rattle.stream_clean_spec.specs.Runs.{Left}
use Rattle.stream_clean.proofs.wash.Given as goal

abbrev pub invariant-loop-p : goal.invariant-loop-p
invariant-loop-p l = (base : ℕ) → Left (l.a ++ l.b) l.initial.out base l.initial.seeking l.closing l.out l.p l.seeking l.sums

abbrev pub decreases-loop-p : goal.decreases-loop-p
decreases-loop-p l = length l.a + length l.b - l.p
