-- Each check of reading from the facts that decide it.
use Rattle.std.specs.Prelude.{ℕ, ◌+◌, ◌-◌, ◌<◌, ◌≤◌, min, ◌≡◌, get_or, take, drop}
use Rattle.std.proofs.Math.Path.{refl}
use Rattle.std.proofs.Common.{sym, ◌∙◌, ⊎_elim, arith, length-drop, take_all, drop-drop, get_or-take, get_or-drop, length-take-le}
use mathlib.Core.List.{List, [], ◌∷◌}
use Rattle.std.proofs.Math.ListN.{length}
use borrow.Author.Tests.{le-leb, lt-leb}
use Rattle.terms.specs.Paper.{answer, refusal}
use Rattle.terms.specs.Cases.{less}
use Rattle.terms.specs.Checks.{or_else, else_on, else_off, else_both}
use Rattle.octets.specs.Octets.{laid}
use Rattle.octets.specs.Papers.{laid_if_room, laid_there}
use Rattle.digits.specs.Digits.{decimal_at, decimal_of}
use Rattle.digits.specs.Laws.{length_decimal}
use Rattle.step_spec.specs.Fields.{judge_of}
use Rattle.step_spec.specs.FieldLaws.{decimal_same}
use Rattle.step_spec.specs.Frame.{front, digit_run, window, length_check, body_start, body_length, body_end, frame_length, long_check, kind_check, type_check, type_tag, head_of, sum_check, trailer_of, kind, fields, verdict_of, accepted, step_read_of}
use Rattle.step_spec.specs.FrontLaws.{kind_length, reads_off, reads_on}

-- the window as a part of the bytes
module _ (s : List ℕ) (at : ℕ) (room : at + 13 ≤ length s) where
  pub window_part : (to : ℕ) → to ≡ min (at + 13 + 10) (length s) → window (drop at s) ≡ take (to - (at + 13)) (drop (at + 13) s)
  window_part to e =
      rw drop-drop
      (⊎_elim (λ (l : length s < at + 13 + 10). take_all 10 (drop (at + 13) s) (simp length-drop (omega arith)) ∙ sym (take_all (to - (at + 13)) (drop (at + 13) s) (simp length-drop (omega arith))))
      (λ (l : at + 13 + 10 ≤ length s). let k : to - (at + 13) ≡ 10 = omega arith in rw k)
      (less (length s) (at + 13 + 10)))

  module _ (to : ℕ) (e : to ≡ min (at + 13 + 10) (length s)) where
    pub window_length : length (window (drop at s)) ≡ to - (at + 13)
    window_length = rw (window_part to e) (length-take-le _ _ (simp length-drop (omega arith)))

    pub window_byte : (k : ℕ) → at + 13 + k < to → get_or (window (drop at s)) k 0 ≡ get_or s (at + 13 + k) 0
    window_byte k h = rw (window_part to e) (get_or-take (to - (at + 13)) (drop (at + 13) s) k 0 (omega arith) ∙ get_or-drop (at + 13) s k 0)

    pub window_number : (k : ℕ) → at + 13 + k ≤ to → decimal_at 0 k (window (drop at s)) ≡ decimal_at (at + 13) k s
    window_number k h = rw (window_part to e) (decimal_same (at + 13) (to - (at + 13)) s (simp length-drop (omega arith)) k (omega arith))

-- LENGTH AND TYPE

module _ (s : List ℕ) where
  pub long_off : 8192 < frame_length s → long_check s ≡ 3
  unfolding long_check
  long_off h = rw (lt-leb _ _ h)

  pub long_on : frame_length s ≤ 8192 → long_check s ≡ 0
  unfolding long_check
  long_on h = rw (le-leb _ _ h)

  pub type_short : body_length s < 5 → type_check s ≡ 25
  unfolding type_check
  type_short h = rw (lt-leb 5 (body_length s) h)

  pub type_is : 5 ≤ body_length s → type_check s ≡ or_else (front 25 type_tag (drop (body_start s) s)) (kind_check (drop (body_start s + 3) s))
  unfolding type_check
  type_is h = rw (le-leb 5 (body_length s) h)

-- the three digits laid into their place
pub trailer_laid : (v : ℕ) → laid_if_room 3 (decimal_of 3 v) (49 ∷ 48 ∷ 61 ∷ 48 ∷ 48 ∷ 48 ∷ 1 ∷ []) ≡ trailer_of v
unfolding trailer_of laid
trailer_laid v = laid_there 3 3 (decimal_of 3 v) (49 ∷ 48 ∷ 61 ∷ 48 ∷ 48 ∷ 48 ∷ 1 ∷ []) (length_decimal 3 v) refl ∙ rw (length_decimal 3 v)

-- THE WHOLE

module _ (s : List ℕ) where
  pub read_short : length s ≤ 0 → step_read_of s ≡ refusal 1
  unfolding verdict_of head_of front or_else
  read_short h = reads_off s 1 (empty s h) (λ e. omega arith)
    where
      empty : (t : List ℕ) → length t ≤ 0 → verdict_of t ≡ 1
      empty [] h = refl
      empty (x ∷ xs) h = absurd (omega arith)

  pub read_head : (n : ℕ) → head_of s ≡ n → (n ≡ 0 → ⊥) → step_read_of s ≡ refusal n
  unfolding verdict_of
  read_head n e ne = reads_off s n (else_off _ _ (λ z. ne (sym e ∙ z)) ∙ e) ne

  module _ (h : head_of s ≡ 0) where
    pub read_sum : (n : ℕ) → sum_check (body_end s) s ≡ n → (n ≡ 0 → ⊥) → step_read_of s ≡ refusal n
    unfolding verdict_of
    read_sum n e ne = reads_off s n (else_on _ _ h ∙ else_off _ _ (λ z. ne (sym e ∙ z)) ∙ e) ne

    module _ (m : sum_check (body_end s) s ≡ 0) where
      pub read_judged : (n : ℕ) → judge_of (kind s) (fields s) ≡ n → (n ≡ 0 → ⊥) → step_read_of s ≡ refusal n
      unfolding verdict_of
      read_judged n e ne = reads_off s n (else_on _ _ h ∙ else_on _ _ m ∙ e) ne

      pub read_frame : judge_of (kind s) (fields s) ≡ 0 → step_read_of s ≡ accepted s
      unfolding verdict_of
      read_frame e = reads_on s (else_on _ _ h ∙ else_on _ _ m ∙ e)

-- WHAT A PASSED CHECK SAYS OF THE LENGTH

pub length_empty : (w : List ℕ) → length w ≤ 0 → length_check w ≡ 1
unfolding length_check digit_run
length_empty [] h = refl
length_empty (x ∷ xs) h = absurd (omega arith)

pub type_room : (s : List ℕ) → 5 ≤ body_length s → type_check s ≡ 0 → body_start s + 5 ≤ length s
type_room s five h = omega (arith, kind_length _ (else_both _ _ (sym (type_is s five) ∙ h)).1, length-drop (body_start s + 3) s)

-- TYPE AND FIELDS IN THE BYTES BEHIND A PLACE

module _ (s : List ℕ) (at h n : ℕ) (starts : h ≡ body_start (drop at s)) (long : n ≡ body_length (drop at s)) where
  pub kind_at : get_or s (at + h + 3) 0 ≡ kind (drop at s)
  kind_at = let e : at + h + 3 ≡ at + (body_start (drop at s) + 3) = omega arith in rw e (sym (get_or-drop at s (body_start (drop at s) + 3) 0))

  pub fields_at : take (at + h + n - (at + h + 5)) (drop (at + h + 5) s) ≡ fields (drop at s)
  fields_at =
      let e : at + h + 5 ≡ at + (body_start (drop at s) + 5) = omega arith in
      let l : at + h + n - (at + h + 5) ≡ body_length (drop at s) - 5 = omega arith in
      rw (l, e, drop-drop (body_start (drop at s) + 5) at s)

  pub accepted_at : answer 0 (get_or s (at + h + 3) 0 ∷ (h + 5) ∷ (n - 5) ∷ (h + n + 7) ∷ []) ≡ accepted (drop at s)
  accepted_at = rw (kind_at, starts, long)
