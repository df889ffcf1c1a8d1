-- The trailer both ways: where it is sound its bytes are TRAILER, a bar, the sum in three digits
-- and a newline; and those are sound.
use Rattle.std.specs.Prelude.{ℕ, ◌+◌, ◌≤◌, ◌≡◌, Bool, true, false, ◌&&◌, List, [], ◌∷◌, ◌++◌, length}
use Rattle.std.proofs.Common.{length-append}
use Rattle.digits.specs.Digits.{decimal_of}
use Rattle.digits.specs.Laws.{length_decimal}
use Rattle.market_spec.specs.File.{fine, trailer, marks, mark_ok, tail_fault, count_ok, sum_ok}

-- a trailer that says the sum v
abbrev pub sum_text : ℕ → List ℕ
sum_text v = decimal_of 3 v ++ (10 ∷ [])

abbrev pub trailer_text : ℕ → List ℕ
trailer_text v = trailer ++ (124 ∷ sum_text v)

pub record TrailerIs (k at n : ℕ) (s : List ℕ) : Type 0 where
  pub tail : ℕ
  pub marked : tail_fault marks (at + 7) s ≡ fine tail
  pub nothing_left : length s ≤ tail
  pub count : count_ok k s ≡ true
  pub sum : sum_ok at s ≡ true
  pub lines : k ≡ n

-- THE SAME BYTES ARE SOUND

unfoldable pub marks_ok : List ℕ → List ℕ → Bool
marks_ok [] x = true
marks_ok (m ∷ ms) [] = false
marks_ok (m ∷ ms) (b ∷ x) = mark_ok m b && marks_ok ms x

-- the trailer line's length
pub trailer_12 : (v : ℕ) → length (trailer_text v) ≡ 12
trailer_12 v = let q = length_decimal 3 v in rw (length-append trailer (124 ∷ sum_text v), length-append (decimal_of 3 v) (10 ∷ []), q)
