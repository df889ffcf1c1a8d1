-- Whether the cleaned capture fits, and what cleaning then answers and leaves.
use Rattle.std.specs.Prelude.{ℕ, ◌≤◌, ◌<◌, ◌≡◌, refl, true, false, ◌↔◌, List, [], ◌∷◌, length}
use Rattle.std.proofs.Common.{sym, ⊎_elim, arith, le-leb, leb-true}
use Rattle.std.proofs.lemmas.Bool.{lt-leb}
use Rattle.terms.specs.Paper.{answer, one_number}
use Rattle.terms.specs.Cases.{less}
use Rattle.walk_spec.specs.Walk.{sights, frames_of}
use Rattle.clean_spec.specs.Clean.{clean_of, found_of, fits_in, clean_answer, clean_leaves}
use Rattle.clean_spec.specs.Accepted.{clean_short}

-- ROOM

pub fits_roomy : (s : List ℕ) (room : ℕ) → length s ≤ room → true ≡ fits_in s room
unfolding fits_in
fits_roomy s room h = sym (le-leb (length (clean_of s)) room (omega (arith, clean_short s)))

pub fits_room : (s : List ℕ) (room : ℕ) → fits_in s room ≡ true → length (clean_of s) ≤ room
unfolding fits_in
fits_room s room t = leb-true (length (clean_of s)) room t

-- without room
pub clean_full : (s d : List ℕ) → fits_in s (length d) ≡ false → (answer 8 (0 ∷ 0 ∷ 0 ∷ []) ≡ clean_answer s (length d)) × (d ≡ clean_leaves s d)
unfolding clean_answer clean_leaves
clean_full s d f = rw f (refl, refl)

module _ (s d : List ℕ) where
  pub left_kept : fits_in s (length d) ≡ false → clean_leaves s d ≡ d
  unfolding clean_leaves
  left_kept f = rw f

  pub answer_done : fits_in s (length d) ≡ true → (clean_answer s (length d)).number ≡ 0
  unfolding clean_answer
  answer_done f = rw f

-- EACH NUMBER IS GIVEN EXACTLY WHEN
module _ (s : List ℕ) (room : ℕ) where
  answer_8 : room < length (clean_of s) → clean_answer s room ≡ answer 8 (0 ∷ 0 ∷ 0 ∷ [])
  unfolding clean_answer fits_in
  answer_8 h = rw (lt-leb (length (clean_of s)) room h)

  answer_0 : length (clean_of s) ≤ room → clean_answer s room ≡ answer 0 (length (clean_of s) ∷ frames_of (sights s) ∷ found_of s ∷ [])
  unfolding clean_answer fits_in
  answer_0 h = rw (le-leb (length (clean_of s)) room h)

  -- "output buffer shorter than what is to be written"
  pub clean_given_8 : ((clean_answer s room).number ≡ 8) ↔ (room < length (clean_of s))
  clean_given_8 = (
    λ (e : (clean_answer s room).number ≡ 8). ⊎_elim (λ (h : room < length (clean_of s)). h) (λ (h : length (clean_of s) ≤ room). absurd (omega (arith, e, one_number (answer_0 h)))) (less room (length (clean_of s))),
    λ (h : room < length (clean_of s)). one_number (answer_8 h),
  )

  pub clean_given_0 : ((clean_answer s room).number ≡ 0) ↔ (length (clean_of s) ≤ room)
  clean_given_0 = (
    λ (e : (clean_answer s room).number ≡ 0). ⊎_elim (λ (h : room < length (clean_of s)). absurd (omega (arith, e, one_number (answer_8 h)))) (λ (h : length (clean_of s) ≤ room). h) (less room (length (clean_of s))),
    λ (h : length (clean_of s) ≤ room). one_number (answer_0 h),
  )
