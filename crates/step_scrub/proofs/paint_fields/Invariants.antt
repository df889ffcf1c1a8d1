-- `paint_fields`. The invariant: what is left is fields, painted behind what stands it makes up the
-- whole, and the sum is moved by what was painted. The measure is what is left. Assumes nothing.
use Rattle.step_scrub.specs.Moved.{sum_moved}
use Rattle.step_scrub.specs.Scrubbed.{painted, all_fields}
use Rattle.step_spec.specs.Pieces.{pieces, closed}
use lib.ListN.{length, take, drop}
use mathlib.Core.List.{◌++◌}
use mathlib.Core.Bool.{true}
use mathlib.Core.Path.{◌≡◌}
use Prim.Native.Nat.{◌-◌, ◌≤◌}
use Rattle.step_scrub.proofs.paint_fields.Given as goal

abbrev pub invariant-loop-field : goal.invariant-loop-field
invariant-loop-field l = (l.i ≤ length l.buf) × (length l.buf ≡ length l.initial.buf) × (closed (drop l.i l.buf) ≡ true) × (all_fields (pieces (drop l.i l.buf)) ≡ true) × (take l.i l.buf ++ painted (drop l.i l.buf) ≡ painted l.initial.buf) × (l.v ≡ sum_moved l.sum l.initial.buf l.buf)

abbrev pub decreases-loop-field : goal.decreases-loop-field
decreases-loop-field l = length l.buf - l.i
