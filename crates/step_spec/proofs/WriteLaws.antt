-- Each answer of writing from the facts that lead to it, and a frame laid piece by piece.
use Rattle.std.specs.Prelude.{ℕ, ◌+◌, ◌≤◌, ◌≡◌, List, []}
use Rattle.std.proofs.Common.{arith, length-append}
use Rattle.std.proofs.Math.ListN.{length}
use Rattle.digits.specs.Digits.{width_of}
use Rattle.step_spec.specs.Exactly.{trailer_long}
use Rattle.step_spec.specs.Written.{frame_of}
use Rattle.step_spec.proofs.RoundTrip.{plain_long}

pub frame_size : (type : ℕ) (fs : List ℕ) → length fs ≤ 8192 → length (frame_of type fs) ≡ 26 + width_of (length fs + 5) + length fs
unfolding frame_of
frame_size type fs h = simp (length-append, trailer_long) (omega (arith, plain_long type fs [] h))
