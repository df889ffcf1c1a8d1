-- The loop of a run that scrubs: behind what is done, what is left gives what the whole run gives.
use Rattle.std.specs.Prelude.{ℕ, ◌+◌, ◌≤◌, ◌<◌, ◌≡◌, refl, Bool, true, List, [], ◌∷◌, take, drop}
use Rattle.std.proofs.Math.Path.{sym, ap}
use Rattle.std.proofs.Common.{◌∙◌, drop_of_length-le, length-take-le}
use Rattle.std.proofs.Math.Bool.{false}
use Rattle.std.proofs.Math.Logic.{⊎_elim}
use native.Mathlib.Omega.{arith}
use Rattle.std.proofs.Math.Dec.{eqb}
use Rattle.std.proofs.Math.ListN.{length, length-drop}
use borrow.Author.Tests.{eqb-true, eqb-false, eq-eqb, ne_eqb}
use Rattle.terms.specs.Paper.{pick}
use Rattle.terms.specs.Letters.{spelled}
use Rattle.terms.specs.Cases.{two, same}
use Rattle.octets.specs.Papers.{laid_if_room}
use Rattle.private.specs.Scrub.{scrubbed}
use Rattle.walk_laws.specs.Walk.{Says, frame, bad, noted, found}
use Rattle.walk_laws.specs.Waits.{halt, behind}
use Rattle.walk_laws.specs.WaitLaws.{mode_of, notes, ran_at, ran_end, ran_more, ran_frame, ran_bad}
use Rattle.reading.specs.declared.Seen.{Seen}
use Rattle.reading.specs.Seen.{seen_of, seen_number}
use Rattle.reading.specs.SeenLaws.{says_frame}
use Rattle.reading.proofs.SeenLaws.{seen_fits, seen_blank, seen_answer}
use Rattle.frame_spec.specs.Frame.{read_of}
use Rattle.walk_spec.specs.Walk.{accepts}
use Rattle.clean_spec.specs.Turns.{size_inside}
use Rattle.stream_spec.specs.Run.{waits_at, passed_over, stride_of}
use Rattle.stream_spec.specs.RunLaws as Plain
use Rattle.stream_spec.specs.RunLaws.{in_frame, in_more, in_bad, passed, not_passed}
use Rattle.stream_clean_spec.specs.declared.Sums.{Sums}
use Rattle.stream_clean_spec.specs.Wash.{Cut, cut_of, says_by, unjudged_by, no_sums, plus, one_of, seeks_after, sums_of, lays}
use Rattle.stream_clean_spec.specs.Calls.{got_of}
use Rattle.stream_clean_spec.specs.LayLaws.{plus_assoc, plus_none, none_plus, plus_bytes, laid_length}

-- a frame is all there
pub own_length : (s : List ℕ) → length (take (seen_of s).size s) ≡ (seen_of s).size
own_length s = length-take-le (seen_of s).size s (omega (arith, size_inside s 0 (seen_of s) refl (omega arith)))

-- ONE PLACE

note_bad : (p : ℕ) (r : Cut) → notes true bad p r ≡ []
unfolding noted found
note_bad p r = refl

note_frame : (seeking : Bool) (n p : ℕ) (r : Cut) → notes seeking (frame n) p r ≡ record { place = p; read = r } ∷ []
unfolding noted found
note_frame true n p r = refl
note_frame false n p r = refl

note_read : (w : Says) (p : ℕ) (r : Cut) → notes false w p r ≡ record { place = p; read = r } ∷ []
unfolding noted
note_read w p r = refl

module _ (seeking closing : Bool) (base p : ℕ) (w : List ℕ) (h : p < length w) (n : waits_at closing (seen_number (seen_of (drop p w))) ≡ false) where
  abbrev x : Seen
  x = seen_of (drop p w)

  -- it is passed over
  over : passed_over seeking (seen_number x) ≡ true → ran_at cut_of (says_by closing) seeking base p w ≡ ran_at cut_of (says_by closing) seeking base (p + 1) w
  over t =
      let q = passed seeking (seen_number x) t in
      rw q.0 (ran_bad cut_of (says_by closing) true base p w h (in_bad closing x q.1 n) ∙ rw (note_bad (base + p) (cut_of (drop p w))))

  -- it is read
  module _ (t : passed_over seeking (seen_number x) ≡ false) where
    far : (1 ≤ stride_of x) × (p + stride_of x ≤ length w)
    far = (Plain.seen_at seeking closing base p w x h refl n t).1

    read_at : ran_at cut_of (says_by closing) seeking base p w ≡ behind (record { place = base + p; read = cut_of (drop p w) } ∷ []) (ran_at cut_of (says_by closing) (seeks_after x) base (p + stride_of x) w)
    unfolding stride_of
    read_at =
        ⊎_elim
        (λ (z : eqb (seen_number x) 0 ≡ true).
        let a : seen_number x ≡ 0 = eqb-true _ _ z in
        let f = seen_fits (drop p w) x.size (says_frame x a) in
        let l : p + x.size ≤ length w = omega (arith, length-drop p w, f.1) in
        rw z (ran_frame cut_of (says_by closing) seeking base p w h x.size (omega (arith, f.0)) l (in_frame closing x a) ∙ rw (note_frame seeking x.size (base + p) (cut_of (drop p w)))))
        (λ (z : eqb (seen_number x) 0 ≡ false).
        let q = not_passed seeking (seen_number x) t (eqb-false _ _ z) in
        rw (z, q) (ran_bad cut_of (says_by closing) false base p w h (in_bad closing x (eqb-false _ _ z) n) ∙ rw (note_read bad (base + p) (cut_of (drop p w)))))
        (two (eqb (seen_number x) 0))

-- WHAT IS COUNTED OF IT, by its answer, its size, and whether it is judged

abbrev pub one_by : Bool → ℕ → ℕ → ℕ → Sums
one_by seeking reading size unjudged = record { bytes = size; frames = accepts reading; found = pick seeking (accepts reading) 0; unjudged = unjudged }

one_by_lem : (seeking : Bool) (s : List ℕ) → one_of seeking (cut_of s) ≡ one_by seeking (seen_number (seen_of s)) (seen_of s).size (unjudged_by (seen_of s).msg_type)
unfolding one_of
one_by_lem seeking s = rw (own_length s)

-- no more frames than bytes, and no more found or unjudged ones than frames
pub record Right (s : Sums) : Type 0 where
  pub frames : s.frames ≤ s.bytes
  pub found : s.found ≤ s.frames
  pub unjudged : s.unjudged ≤ s.frames

right_none : Right no_sums
right_none = record { frames = omega arith; found = omega arith; unjudged = omega arith }

pick_most : (b : Bool) (n : ℕ) → pick b n 0 ≤ n
pick_most true n = omega arith
pick_most false n = omega arith

pub unjudged_most : (t : ℕ) → unjudged_by t ≤ 1
unfolding unjudged_by
unjudged_most t = pick_most (eqb t (spelled "M101")) 1

right_add : (s t : Sums) → t.frames ≤ t.bytes → t.found ≤ t.frames → t.unjudged ≤ t.frames → Right s → Right (plus s t)
unfolding plus
right_add s t a b c r = record { frames = omega (arith, r.frames); found = omega (arith, r.found); unjudged = omega (arith, r.unjudged) }

module _ (seeking : Bool) (s : List ℕ) where
  abbrev seen : Seen
  seen = seen_of s

  right_frame : seen_number seen ≡ 0 → (accepts (seen_number seen) ≤ seen.size) × (unjudged_by seen.msg_type ≤ accepts (seen_number seen))
  unfolding accepts
  right_frame z =
      let f = seen_fits s seen.size (says_frame seen z) in
      rw z (omega (arith, f.0), unjudged_most seen.msg_type)

  right_refused : (seen_number seen ≡ 0 → ⊥) → (accepts (seen_number seen) ≤ seen.size) × (unjudged_by seen.msg_type ≤ accepts (seen_number seen))
  unfolding accepts unjudged_by
  right_refused ne =
      let b = seen_blank s (λ (z : (read_of s).number ≡ 0). ne (seen_answer s ∙ z)) in
      rw (ne_eqb (seen_number seen) 0 ne, b) (omega arith, omega arith)

  right_one : (accepts (seen_number seen) ≤ seen.size) × (unjudged_by seen.msg_type ≤ accepts (seen_number seen))
  right_one = ⊎_elim right_frame right_refused (same (seen_number seen) 0)

right_plus : (seeking : Bool) (s : List ℕ) (t : Sums) → Right t → Right (plus t (one_of seeking (cut_of s)))
right_plus seeking s t r =
    let o = right_one seeking s in
    rw (one_by_lem seeking s) (right_add t (one_by seeking (seen_number (seen_of s)) (seen_of s).size (unjudged_by (seen_of s).msg_type)) o.0 (pick_most seeking (accepts (seen_number (seen_of s)))) o.1 r)

-- THE LOOP

-- a run stopped at this place of the window, in this mode, with these sums, and left this
pub record RanIs (w : List ℕ) (base : ℕ) (seek closing : Bool) (d d' : List ℕ) (at : ℕ) (seeking : Bool) (sums : Sums) : Type 0 where
  pub inside : at ≤ length w
  pub mode : (got_of base seek closing w).mode ≡ mode_of seeking
  pub place : (got_of base seek closing w).place ≡ base + at
  pub kept : (got_of base seek closing w).kept ≡ drop at w
  pub summed : sums ≡ sums_of seek (got_of base seek closing w).seen
  pub written : d' ≡ lays 0 (got_of base seek closing w).seen d

pub record Left (w out₀ : List ℕ) (base : ℕ) (seek closing : Bool) (out : List ℕ) (p : ℕ) (seeking : Bool) (s : Sums) : Type 0 where
  pub inside : p ≤ length w
  pub few : s.bytes ≤ p
  pub right : Right s
  pub room : length out ≡ length out₀
  pub mode : (ran_at cut_of (says_by closing) seeking base p w).mode ≡ (got_of base seek closing w).mode
  pub place : (ran_at cut_of (says_by closing) seeking base p w).place ≡ (got_of base seek closing w).place
  pub kept : (ran_at cut_of (says_by closing) seeking base p w).kept ≡ (got_of base seek closing w).kept
  pub written : lays s.bytes (ran_at cut_of (says_by closing) seeking base p w).seen out ≡ lays 0 (got_of base seek closing w).seen out₀
  pub summed : plus s (sums_of seeking (ran_at cut_of (says_by closing) seeking base p w).seen) ≡ sums_of seek (got_of base seek closing w).seen

pub left_start : (w out : List ℕ) (base : ℕ) (seek closing : Bool) → Left w out base seek closing out 0 seek no_sums
left_start w out base seek closing =
    let e : base + 0 ≡ base = omega arith in
    record { inside = omega arith; few = omega arith; right = right_none; room = refl; mode = rw e; place = rw e; kept = rw e; written = rw e; summed = none_plus _ ∙ rw e }

module _ (w out₀ : List ℕ) (base : ℕ) (seek closing : Bool) (out : List ℕ) (p : ℕ) (seeking : Bool) (s : Sums) (z : Left w out₀ base seek closing out p seeking s) where
  module _ (h : p < length w) (n : waits_at closing (seen_number (seen_of (drop p w))) ≡ false) where
    pub left_over_lem : passed_over seeking (seen_number (seen_of (drop p w))) ≡ true → Left w out₀ base seek closing out (p + 1) seeking s
    left_over_lem v =
        let q = over seeking closing base p w h n v in
        record {
          inside = omega arith;
          few = omega (arith, z.few);
          right = z.right;
          room = z.room;
          mode = rw q at z.mode;
          place = rw q at z.place;
          kept = rw q at z.kept;
          written = rw q at z.written;
          summed = rw q at z.summed;
        }

    pub left_far : passed_over seeking (seen_number (seen_of (drop p w))) ≡ false → (1 ≤ stride_of (seen_of (drop p w))) × (p + stride_of (seen_of (drop p w)) ≤ length w)
    left_far v = far seeking closing base p w h n v

    size_stride : p + (seen_of (drop p w)).size ≤ p + stride_of (seen_of (drop p w))
    unfolding stride_of
    size_stride =
        ⊎_elim (λ (t : seen_number (seen_of (drop p w)) ≡ 0). rw (eq-eqb _ 0 t) (omega arith))
        (λ (ne : seen_number (seen_of (drop p w)) ≡ 0 → ⊥).
        let b = seen_blank (drop p w) (λ (t : (read_of (drop p w)).number ≡ 0). ne (seen_answer (drop p w) ∙ t)) in
        let none : (seen_of (drop p w)).size ≡ 0 = ap (λ (y : Seen). y.size) b in
        omega (arith, none))
        (same (seen_number (seen_of (drop p w))) 0)

    pub left_note : (s' : Sums) (out' : List ℕ) → passed_over seeking (seen_number (seen_of (drop p w))) ≡ false
        → s' ≡ plus s (one_by seeking (seen_number (seen_of (drop p w))) (seen_of (drop p w)).size (unjudged_by (seen_of (drop p w)).msg_type)) → out' ≡ laid_if_room s.bytes (scrubbed (take (seen_of (drop p w)).size (drop p w))) out
        → Left w out₀ base seek closing out' (p + stride_of (seen_of (drop p w))) (seeks_after (seen_of (drop p w))) s'
    unfolding lays sums_of
    left_note s' out' v e g =
        let q = read_at seeking closing base p w h n v in
        let u : s' ≡ plus s (one_of seeking (cut_of (drop p w))) = e ∙ ap (plus s) (sym (one_by_lem seeking (drop p w))) in
        let b : s'.bytes ≡ s.bytes + length (take (seen_of (drop p w)).size (drop p w)) = ap (λ (y : Sums). y.bytes) e ∙ plus_bytes s _ ∙ ap (λ (k : ℕ). s.bytes + k) (sym (own_length (drop p w))) in
        let f = left_far v in
        record {
          inside = f.1;
          few = omega (arith, z.few, b, own_length (drop p w), size_stride);
          right = rw u (right_plus seeking (drop p w) s z.right);
          room = ap length g ∙ laid_length s.bytes _ out ∙ z.room;
          mode = rw q at z.mode;
          place = rw q at z.place;
          kept = rw q at z.kept;
          written = rw (b, g) (rw q at z.written);
          summed = rw u (plus_assoc s _ _ ∙ rw q at z.summed);
        }

  stop : (l : List ℕ) → ran_at cut_of (says_by closing) seeking base p w ≡ halt (mode_of seeking) (base + p) l → l ≡ drop p w → RanIs w base seek closing out₀ out p seeking s
  unfolding lays sums_of
  stop l q e =
      record {
        inside = z.inside;
        mode = sym (rw q at z.mode);
        place = sym (rw q at z.place);
        kept = sym (rw q at z.kept) ∙ e;
        summed = sym (plus_none s) ∙ rw q at z.summed;
        written = rw q at z.written;
      }

  pub left_wait : p < length w → waits_at closing (seen_number (seen_of (drop p w))) ≡ true → RanIs w base seek closing out₀ out p seeking s
  left_wait h a = stop (drop p w) (ran_more cut_of (says_by closing) seeking base p w h (in_more closing (seen_of (drop p w)) a)) refl

  pub left_end : length w ≤ p → RanIs w base seek closing out₀ out p seeking s
  left_end h = stop [] (ran_end cut_of (says_by closing) seeking base p w h) (sym (drop_of_length-le w h))
