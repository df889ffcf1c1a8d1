-- What scrubbing promises: the length stays, the frame reads as before with the named values in
-- spaces, again changes nothing, and frames that differ in named values alone scrub to
-- the same bytes.
use Rattle.std.specs.Prelude.{ℕ, ◌≡◌, List}
use Rattle.std.proofs.Math.ListN.{drop}
use Rattle.step_spec.specs.Pieces.{pieces}
use Rattle.step_spec.specs.Frame.{kind, fields, frame_length}
use Rattle.step_scrub.specs.Private.{AlikeFields}

-- two frames that agree in type, in what follows them, and in all but private values of one length;
-- their sums may differ
pub record StepAlike (s t : List ℕ) : Type 0 where
  pub types : kind s ≡ kind t
  pub fields_are : AlikeFields (pieces (fields s)) (pieces (fields t))
  pub rests : drop (frame_length s) s ≡ drop (frame_length t) t
