-- What scrubbing promises: the length stays, the frame reads as before with the named values in
-- spaces, again changes nothing, and frames that differ in named values alone scrub to
-- the same bytes.
use Rattle.std.specs.Prelude.{ℕ, ◌<◌, ◌≤◌, ◌≡◌, refl, List, [], get_or}
use Rattle.std.proofs.Common.{sym, ◌∙◌, arith}
use Rattle.std.proofs.Math.Path.{ap}
use Rattle.std.proofs.Math.ListN.{length, drop, length-append}
use Rattle.std.proofs.Math.Seq.{drop_at}
use Rattle.terms.specs.Paper.{one_number}
use Rattle.step_spec.specs.Pieces.{pieces}
use Rattle.step_spec.specs.Frame.{kind, fields, frame_length, step_read_of}
use Rattle.step_spec.specs.Written.{frame_of}
use Rattle.step_spec.specs.WriteLaws.{frame_over}
use Rattle.step_spec.proofs.WriteLaws.{frame_size}
use Rattle.step_spec.proofs.RoundTrip.{kind_of_frame, fields_of_frame, length_of_frame}
use Rattle.step_spec.specs.Exactly.{Good, good, Reads}
use Rattle.step_spec.proofs.Exactly.{is_frame, reads_exactly, exactly_reads}
use Rattle.step_scrub.specs.Scrubbed.{paint_all, joined, painted, scrubbed_of}
use Rattle.step_scrub.specs.Private.{pieces_back, FieldThen, as_many}
use Rattle.step_scrub.proofs.PaintLaws.{painted_real, painted_sound, painted_twice, kept}
use Rattle.step_scrub.proofs.Private.{fields_then, alike_painted}
use Rattle.step_scrub.proofs.ScrubLaws.{same_long, closed_fields, all_fields_lem}
use Rattle.step_scrub.specs.Scrubbing.{StepAlike}

-- a message's frame is as long as that of any other fields of that length
same_frame : (type : ℕ) (u v : List ℕ) → length u ≡ length v → length v ≤ 8192 → length (frame_of type u) ≡ length (frame_of type v)
same_frame type u v e h = frame_size type u (omega arith) ∙ rw e (sym (frame_size type v h))

-- what a scrubbed frame is made of
anew : (s t : List ℕ) → kind s ≡ kind t → painted (fields s) ≡ painted (fields t) → drop (frame_length s) s ≡ drop (frame_length t) t → scrubbed_of s ≡ scrubbed_of t
unfolding scrubbed_of
anew s t a b c = rw (a, b, c)

module _ (s : List ℕ) (z : (step_read_of s).number ≡ 0) where
  abbrev k : ℕ
  k = kind s

  abbrev f : List ℕ
  f = fields s

  g : Good s
  g = good s z

  few : length f ≤ 8192
  few = omega (arith, frame_over k f, (exactly_reads s z).small)

  frame_same : length (frame_of k (painted f)) ≡ length (frame_of k f)
  frame_same = same_frame k (painted f) f (same_long s g) few

  -- it reads, with the same type and the painted fields
  pub scrubbed_reads : Reads (scrubbed_of s) k (painted f)
  unfolding scrubbed_of
  scrubbed_reads =
      let r = exactly_reads s z in
      record {
        rest = drop (frame_length s) s;
        begins = refl;
        small = omega (arith, frame_same, r.small);
        known = r.known;
        real = painted_real f (closed_fields s g) (all_fields_lem s g) ∙ r.real;
        sound = painted_sound f (closed_fields s g) (all_fields_lem s g) k ∙ r.sound;
      }

  -- the answer is the same: type, place and length of the fields, length of the frame
  pub scrubbed_same : step_read_of (scrubbed_of s) ≡ step_read_of s
  scrubbed_same = reads_exactly (scrubbed_of s) k (painted f) scrubbed_reads ∙ rw (frame_same, same_long s g) (sym (reads_exactly s k f (exactly_reads s z)))

  pub scrubbed_length : length (scrubbed_of s) ≡ length s
  unfolding scrubbed_of
  scrubbed_length = simp length-append (omega (arith, frame_same, ap length (is_frame s g), length-append (frame_of k f) (drop (frame_length s) s)))

  -- its own words
  small : length (frame_of k (painted f)) ≤ 8192
  small = scrubbed_reads.small

  pub scrubbed_kind : kind (scrubbed_of s) ≡ k
  unfolding scrubbed_of
  scrubbed_kind = kind_of_frame k (painted f) (drop (frame_length s) s) small

  pub scrubbed_fields : fields (scrubbed_of s) ≡ painted f
  unfolding scrubbed_of
  scrubbed_fields = fields_of_frame k (painted f) (drop (frame_length s) s) small

  -- what follows the frame stays
  pub scrubbed_rest : drop (frame_length (scrubbed_of s)) (scrubbed_of s) ≡ drop (frame_length s) s
  unfolding scrubbed_of
  scrubbed_rest = drop_at (frame_of k (painted f)) (drop (frame_length s) s) _ (sym (length_of_frame k (painted f) (drop (frame_length s) s) small))

  -- again changes nothing
  pub scrubbed_again : scrubbed_of (scrubbed_of s) ≡ scrubbed_of s
  scrubbed_again = anew (scrubbed_of s) s scrubbed_kind (ap painted scrubbed_fields ∙ painted_twice f (closed_fields s g) (all_fields_lem s g)) scrubbed_rest

  then_pieces : pieces (fields (scrubbed_of s)) ≡ paint_all (pieces f)
  then_pieces = ap pieces scrubbed_fields ∙ (kept f (closed_fields s g) (all_fields_lem s g)).pieces_are

  -- each field: the same tag; a private value becomes as many spaces; any other field stays
  pub scrubbed_field : (i : ℕ) → i < length (pieces f) → FieldThen (get_or (pieces f) i []) (get_or (pieces (fields (scrubbed_of s))) i [])
  scrubbed_field i h = rw then_pieces (fields_then (pieces f) (all_fields_lem s g) i h)

  -- it has as many as before, and they are all of its fields' bytes
  pub scrubbed_count : length (pieces (fields (scrubbed_of s))) ≡ length (pieces f)
  scrubbed_count = ap length then_pieces ∙ as_many (pieces f)

  pub scrubbed_all : joined (pieces (fields (scrubbed_of s))) ≡ fields (scrubbed_of s)
  scrubbed_all = pieces_back (fields (scrubbed_of s)) (closed_fields (scrubbed_of s) (good (scrubbed_of s) (one_number scrubbed_same ∙ z)))

pub step_alike : (s t : List ℕ) → StepAlike s t → scrubbed_of s ≡ scrubbed_of t
unfolding painted
step_alike s t a = anew s t a.types (ap joined (alike_painted (pieces (fields s)) (pieces (fields t)) a.fields_are)) a.rests
