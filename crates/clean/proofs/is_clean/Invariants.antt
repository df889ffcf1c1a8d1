-- `is_clean`. The invariant: the capture from n on differs from what is left to be cleaned from its
-- place on where the whole differs from the cleaned whole (`Same`). The measure is what is left of
-- the capture. Assumes nothing.
use Prim.Native.Nat.{◌-◌}
use lib.ListN.{length}
use Rattle.clean.proofs.PassLaws.{Same}
use Rattle.clean.proofs.is_clean.Given as goal

abbrev pub invariant-loop-at : goal.invariant-loop-at
invariant-loop-at l = Same l.capture l.one l.at l.n

abbrev pub decreases-loop-at : goal.decreases-loop-at
decreases-loop-at l = length l.capture - l.at
