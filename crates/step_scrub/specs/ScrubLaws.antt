-- Painting the fields and renewing the sum gives the frame of the painted fields.
use Rattle.std.specs.Prelude.{ℕ, ◌+◌, ◌≡◌, refl, Bool, true}
use Rattle.std.proofs.Math.Path.{sym}
use Rattle.std.proofs.Common.{⊎_elim}
use mathlib.Core.List.{List, [], ◌∷◌, ◌++◌}
use borrow.Author.Tests.{ne_eqb}
use Rattle.terms.specs.Paper.{answer, refusal, one_number}
use Rattle.terms.specs.Cases.{same}
use Rattle.digits.specs.Digits.{shown_of}
use Rattle.digits.specs.Laws.{both}
use Rattle.step_spec.specs.Pieces.{SOH, pieces, closed}
use Rattle.step_spec.specs.Fields.{is_field, fits, passes, sound_of, sound_from}
use Rattle.step_spec.specs.Frame.{begin, length_tag, type_tag, frame_length, step_read_of}
use Rattle.step_scrub.specs.Scrubbed.{all_fields, scrubbed_of, step_scrub_of, step_scrub_left}

-- fields that pass are fields
fits_field : (type : ℕ) (p : List ℕ) → fits type p ≡ true → is_field p ≡ true
unfolding fits
fits_field type p h = (both (is_field p) _ (both _ _ h).0).0

passes_fields : (type : ℕ) (ps : List (List ℕ)) (seen : List Bool) → passes type seen ps ≡ true → all_fields ps ≡ true
unfolding passes all_fields
passes_fields type [] seen h = refl
passes_fields type (p ∷ ps) seen h =
    let a = both _ _ h in
    rw (fits_field type p (both _ _ a.0).0, passes_fields type ps _ a.1)

pub sound_fields : (type : ℕ) (fs : List ℕ) → sound_of type fs ≡ true → all_fields (pieces fs) ≡ true
unfolding sound_of sound_from
sound_fields type fs h = passes_fields type (pieces fs) _ (both (closed fs) _ h).1

-- A FRAME CUT AT ITS FIELDS

-- all before the fields depends on the type and on how many bytes they have
unfoldable pub before : ℕ → ℕ → List ℕ
before type n = begin ++ (length_tag ++ (shown_of (n + 5) ++ (SOH ∷ (type_tag ++ (type ∷ SOH ∷ [])))))

-- THE ANSWERS

module _ (s : List ℕ) where
  pub scrub_off : (n : ℕ) → refusal n ≡ step_read_of s → (n ≡ 0 → ⊥) → (refusal n ≡ step_scrub_of s) × (s ≡ step_scrub_left s)
  unfolding step_scrub_of step_scrub_left
  scrub_off n e ne = let z = sym (one_number e) in (rw (z, ne_eqb n 0 ne), rw (z, ne_eqb n 0 ne))

  pub scrub_on : (step_read_of s).number ≡ 0 → (answer 0 (frame_length s ∷ []) ≡ step_scrub_of s) × (scrubbed_of s ≡ step_scrub_left s)
  unfolding step_scrub_of step_scrub_left
  scrub_on z = (rw z, rw z)

-- a refusal keeps every byte
pub scrub_kept : (s : List ℕ) (n : ℕ) → step_scrub_of s ≡ refusal n → (n ≡ 0 → ⊥) → step_scrub_left s ≡ s
unfolding step_scrub_of step_scrub_left
scrub_kept s n e ne =
    ⊎_elim (λ (z : (step_read_of s).number ≡ 0). absurd (ne (sym (one_number (rw z at e))))) (λ (z : (step_read_of s).number ≡ 0 → ⊥). rw (ne_eqb (step_read_of s).number 0 z)) (same (step_read_of s).number 0)

pub scrub_unless : (s : List ℕ) → ((step_scrub_of s).number ≡ 0 → ⊥) → step_scrub_left s ≡ s
unfolding step_scrub_of step_scrub_left
scrub_unless s ne = ⊎_elim (λ (z : (step_read_of s).number ≡ 0). absurd (ne (rw z))) (λ (z : (step_read_of s).number ≡ 0 → ⊥). rw (ne_eqb (step_read_of s).number 0 z)) (same (step_read_of s).number 0)
