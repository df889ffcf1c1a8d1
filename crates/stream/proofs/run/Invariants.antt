-- `run`. The invariant: what is left at p, behind the records so far, gives what the whole run
-- gives (`Left`). The measure is what is left of both parts. Assumes nothing.
use Prim.Native.Nat.{◌-◌}
use mathlib.Core.List.{◌++◌}
use Rattle.stream_spec.specs.RunLaws.{Left}
use Rattle.stream.proofs.run.Given as goal

abbrev pub invariant-loop-p : goal.invariant-loop-p
invariant-loop-p l = Left (l.a ++ l.b) l.initial.out l.base l.initial.seeking l.closing l.initial.tally l.initial.count l.out l.p l.seeking l.count l.tally

abbrev pub decreases-loop-p : goal.decreases-loop-p
decreases-loop-p l = l.end - l.p
