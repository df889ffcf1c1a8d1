-- The parts of the frame at a place, by the offsets that the code reads.
use Rattle.std.specs.Prelude.{ℕ, ◌+◌, ◌-◌, ◌≤◌, ◌≡◌, List, [], ◌∷◌, length, take, drop}
use Rattle.std.proofs.Common.{sym, ap, ◌∙◌, add-zero, add_assoc, arith, length-drop, drop-drop, length-take-le, eq-eqb, ne_eqb}
use Rattle.octets.specs.Octets.{be, sum8}
use Rattle.octets.specs.Numerals.{numeral_drop}
use Rattle.terms.specs.Paper.{answer}
use Rattle.frame_spec.specs.Frame.{body_length, body, plain, check_sum, read_of, body_read}
use Rattle.frame_spec.specs.Outcomes.{good, read_done, read_length}

module _ (at : ℕ) (bytes : List ℕ) where
  -- the number k bytes behind the place, and the one at it
  pub be_at : (n k : ℕ) → be n (at + k) bytes ≡ be n k (drop at bytes)
  be_at n k = sym (numeral_drop 256 n at k bytes)

  pub be_here : (n : ℕ) → be n at bytes ≡ be n 0 (drop at bytes)
  be_here n = ap (λ (k : ℕ). be n k bytes) (sym (add-zero at)) ∙ be_at n 0

  module _ (n : ℕ) (e : n ≡ body_length (drop at bytes)) where
    pub stored_at : be 4 (at + 24 + n) bytes ≡ check_sum (drop at bytes)
    stored_at = ap (λ (k : ℕ). be 4 k bytes) (add_assoc at 24 n) ∙ be_at 4 (24 + n) ∙ ap (λ (k : ℕ). be 4 (24 + k) (drop at bytes)) e

    pub part_body : take (at + 24 + n - (at + 24)) (drop (at + 24) bytes) ≡ body (drop at bytes)
    part_body =
        let p : at + 24 + n - (at + 24) ≡ n = omega arith in
        rw (p, ← drop-drop 24 at bytes) (ap (λ (k : ℕ). take k (drop 24 (drop at bytes))) e)

    pub plain_sum : sum8 (take (24 + n) (drop at bytes)) ≡ sum8 (plain (drop at bytes))
    plain_sum = ap (λ (k : ℕ). sum8 (take (24 + k) (drop at bytes))) e

    -- a frame that is whole ends within the bytes
    pub inside_at : 28 + body_length (drop at bytes) ≤ length (drop at bytes) → at + (28 + n) ≤ length bytes
    inside_at l = let m : 28 + body_length (drop at bytes) ≤ length bytes - at = simp length-drop at l in omega arith

-- the body's length is BodyLength
pub body_length_lem : (s : List ℕ) → 28 + body_length s ≤ length s → length (body s) ≡ body_length s
body_length_lem s h = length-take-le (body_length s) (drop 24 s) (simp length-drop (omega arith))

-- what a frame that reads says of its body's part; and the body of one that does not
pub body_of : (s : List ℕ) → (read_of s).number ≡ 0 → body_read s ≡ body s
unfolding body_read
body_of s z = rw (eq-eqb (read_of s).number 0 z)

pub body_none : (s : List ℕ) → ((read_of s).number ≡ 0 → ⊥) → body_read s ≡ []
unfolding body_read
body_none s ne = rw (ne_eqb (read_of s).number 0 ne)

-- where reading at a place has answered 0: the frame ends within the bytes, and its body is the
-- part behind the 24 header bytes
module _ (at : ℕ) (bytes : List ℕ) (type time seq n : ℕ) (paper : answer 0 (type ∷ time ∷ seq ∷ n ∷ []) ≡ read_of (drop at bytes)) where
  pub read_inside : at + (28 + n) ≤ length bytes
  read_inside = inside_at at bytes n (read_length _ _ _ _ _ paper) (good _ (read_done _ _ _ _ _ paper)).whole.there

  pub read_part : take (at + 24 + n - (at + 24)) (drop (at + 24) bytes) ≡ body_read (drop at bytes)
  read_part = part_body at bytes n (read_length _ _ _ _ _ paper) ∙ sym (body_of _ (read_done _ _ _ _ _ paper))
