-- Which values are private, and what a scrubbed frame is.
use Rattle.std.specs.Prelude.{ℕ, ◌+◌, Bool, true, ◌&&◌, ◌||◌, List, [], ◌∷◌, ◌++◌, eqb, length, take, drop, replicate}
use Rattle.terms.specs.Paper.{Paper, answer, refusal, pick}
use Rattle.step_spec.specs.Pieces.{SOH, equals, until_of, pieces}
use Rattle.step_spec.specs.Fields.{is_field, tag_of, value_of}
use Rattle.step_spec.specs.Frame.{kind, fields, frame_length, step_read_of}
use Rattle.step_spec.specs.Written.{frame_of}

-- 49 SenderCompID, 56 TargetCompID, 553 Username, 554 Password, 58 Text
abbrev pub is_private : ℕ → Bool
is_private t = (((eqb t 49 || eqb t 56) || eqb t 553) || eqb t 554) || eqb t 58

-- a piece with spaces for its value, if that is private
unfoldable pub paint_piece : List ℕ → List ℕ
paint_piece p = pick (is_private (tag_of p)) (take (until_of equals p + 1) p ++ replicate (length (value_of p)) 32) p

unfoldable pub paint_all : List (List ℕ) → List (List ℕ)
paint_all [] = []
paint_all (p ∷ ps) = paint_piece p ∷ paint_all ps

-- pieces, each with the SOH that ends it
unfoldable pub joined : List (List ℕ) → List ℕ
joined [] = []
joined (p ∷ ps) = p ++ (SOH ∷ joined ps)

unfoldable pub painted : List ℕ → List ℕ
painted fs = joined (paint_all (pieces fs))

-- the frame of the same type with painted fields, and what followed it
unfoldable pub scrubbed_of : List ℕ → List ℕ
scrubbed_of s = frame_of (kind s) (painted (fields s)) ++ drop (frame_length s) s

-- what scrubbing answers, and what it leaves
unfoldable pub step_scrub_of : List ℕ → Paper
step_scrub_of s = pick (eqb (step_read_of s).number 0) (answer 0 (frame_length s ∷ [])) (refusal (step_read_of s).number)

unfoldable pub step_scrub_left : List ℕ → List ℕ
step_scrub_left s = pick (eqb (step_read_of s).number 0) (scrubbed_of s) s

-- every piece is a field
unfoldable pub all_fields : List (List ℕ) → Bool
all_fields [] = true
all_fields (p ∷ ps) = is_field p && all_fields ps
