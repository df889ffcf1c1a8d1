-- Document 02, CR 5, for what the functions on STEP frames may answer by their promises
-- (`step_frame::read_at`, `write`, `step_scrub::scrub`): both round trips, and scrubbing.
use Rattle.std.specs.Prelude.{ℕ, ◌<◌, ◌≤◌, ◌≡◌, true, List, [], ◌∷◌, ◌++◌, length, get_or, take, drop}
use Rattle.std.proofs.Common.{ap, ◌∙◌, arith}
use Rattle.terms.specs.Paper.{answer, one_number}
use Rattle.octets.specs.Overlays.{laid_front, take_front}
use Rattle.step_tags.specs.Table.{among, types}
use Rattle.step_spec.specs.Pieces.{pieces}
use Rattle.step_spec.specs.Fields.{judge_of}
use Rattle.step_spec.specs.Frame.{kind, fields, frame_length, step_read_of}
use Rattle.step_spec.specs.Written.{frame_of, step_write_of, step_left_of}
use Rattle.step_spec.specs.WriteLaws.{write_fine, left_laid}
use Rattle.step_spec.proofs.WriteLaws.{frame_size}
use Rattle.step_spec.specs.Given.{Writes, w_long, w_type, w_time, w_fields, w_room, w_frame}
use Rattle.step_spec.proofs.GivenRead.{judged_all}
use Rattle.step_spec.proofs.GivenWrite.{write_given}
use Rattle.step_spec.proofs.RoundTrip.{read_of_written, kind_of_frame, fields_of_frame}
use Rattle.step_spec.specs.Exactly.{good}
use Rattle.step_spec.proofs.Exactly.{frame_ends, exactly_reads, written_of_read}
use Rattle.step_scrub.specs.Scrubbed.{scrubbed_of, step_scrub_of, step_scrub_left}
use Rattle.step_scrub.specs.Private.{FieldThen}
use Rattle.step_scrub.proofs.Scrubbing.{scrubbed_same, scrubbed_length, scrubbed_rest, scrubbed_again, scrubbed_field, scrubbed_count}

-- "BOTH ROUND TRIPS OF DEMAND 2 HOLD HERE ALSO"

-- what was read, written into a buffer with room for it, is answered 0 and has the same bytes
pub record SameBytes (s d : List ℕ) : Type 0 where
  pub answered : step_write_of (kind s) (fields s) (length d) ≡ answer 0 (frame_length s ∷ [])
  pub bytes_same : take (frame_length s) (step_left_of (kind s) (fields s) d) ≡ take (frame_length s) s

pub step_same_bytes : (s d : List ℕ) → (step_read_of s).number ≡ 0 → frame_length s ≤ length d → SameBytes s d
step_same_bytes s d z room =
    let r = exactly_reads s z in
    let g = good s z in
    let long : length (frame_of (kind s) (fields s)) ≡ frame_length s = frame_ends s g in
    let a : step_write_of (kind s) (fields s) (length d) ≡ answer 0 (frame_length s ∷ []) =
    write_fine (kind s) (fields s) (length d) r.small r.known g.judged (rw long room) ∙ ap (λ (n : ℕ). answer 0 (n ∷ [])) long in
    record {
      answered = a;
      bytes_same = ap (take (frame_length s)) (left_laid (kind s) (fields s) d (one_number a)) ∙ take_front (frame_length s) (frame_of (kind s) (fields s)) d long ∙ written_of_read s z;
    }

-- what was written reads, with the same type and the same fields, byte for byte and in their order
pub record SameMessage (type : ℕ) (fs left : List ℕ) : Type 0 where
  pub reads : (step_read_of left).number ≡ 0
  pub type_same : kind left ≡ type
  pub fields_same : fields left ≡ fs

module _ (type : ℕ) (fs d : List ℕ) where
  abbrev rest : List ℕ
  rest = drop (length (frame_of type fs)) d

  left_is : (step_write_of type fs (length d)).number ≡ 0 → step_left_of type fs d ≡ frame_of type fs ++ rest
  left_is z = left_laid type fs d z ∙ laid_front (frame_of type fs) d

  small : Writes 0 type fs (length d) → length (frame_of type fs) ≤ 8192
  small (w_long e l) = absurd (omega arith)
  small (w_type e s t) = absurd (omega arith)
  small (w_time e s t u) = absurd (omega arith)
  small (w_fields e s t u f) = absurd (omega arith)
  small (w_room e s t u w l) = absurd (omega arith)
  small (w_frame e s t u w l) = omega (arith, frame_size type fs (omega arith))

  known : Writes 0 type fs (length d) → (among type types ≡ true) × (judge_of type fs ≡ 0)
  known (w_long e l) = absurd (omega arith)
  known (w_type e s t) = absurd (omega arith)
  known (w_time e s t u) = absurd (omega arith)
  known (w_fields e s t u f) = absurd (omega arith)
  known (w_room e s t u w l) = absurd (omega arith)
  known (w_frame e s t u w l) = (t, judged_all type fs u w)

  pub step_same_message : (step_write_of type fs (length d)).number ≡ 0 → SameMessage type fs (step_left_of type fs d)
  step_same_message z =
      let w = (write_given 0 type fs (length d)).0 z in
      let k = known w in
      let e = left_is z in
      record {
        reads = ap (λ (l : List ℕ). (step_read_of l).number) e ∙ one_number (read_of_written type fs rest (small w) k.0 k.1);
        type_same = ap kind e ∙ kind_of_frame type fs rest (small w);
        fields_same = ap fields e ∙ fields_of_frame type fs rest (small w);
      }

-- "THE SCRUBBER PAINTS 49, 56, 553, 554 AND 58 WITH SPACES OF THE SAME LENGTH": what is answered of
-- a frame that reads, and what is then in its buffer
pub record StepScrubbed (s left : List ℕ) : Type 0 where
  pub answered : step_scrub_of s ≡ answer 0 (frame_length s ∷ [])
  pub long : length left ≡ length s
  pub reads_same : step_read_of left ≡ step_read_of s
  pub as_many : length (pieces (fields left)) ≡ length (pieces (fields s))
  pub each : (i : ℕ) → i < length (pieces (fields s)) → FieldThen (get_or (pieces (fields s)) i []) (get_or (pieces (fields left)) i [])
  pub behind_same : drop (frame_length left) left ≡ drop (frame_length s) s
  pub again : step_scrub_left left ≡ left

left_of : (s : List ℕ) → (step_read_of s).number ≡ 0 → step_scrub_left s ≡ scrubbed_of s
unfolding step_scrub_left
left_of s z = rw z

answer_of_lem : (s : List ℕ) → (step_read_of s).number ≡ 0 → step_scrub_of s ≡ answer 0 (frame_length s ∷ [])
unfolding step_scrub_of
answer_of_lem s z = rw z

pub step_scrubbed : (s : List ℕ) → (step_read_of s).number ≡ 0 → StepScrubbed s (step_scrub_left s)
step_scrubbed s z =
    let z2 : (step_read_of (scrubbed_of s)).number ≡ 0 = one_number (scrubbed_same s z) ∙ z in
    rw (left_of s z)
    (record {
      answered = answer_of_lem s z;
      long = scrubbed_length s z;
      reads_same = scrubbed_same s z;
      as_many = scrubbed_count s z;
      each = scrubbed_field s z;
      behind_same = scrubbed_rest s z;
      again = left_of (scrubbed_of s) z2 ∙ scrubbed_again s z;
    })
