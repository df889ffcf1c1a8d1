-- A map of 256 places in four words, as one number: place i is held where digit i is set.
use Rattle.std.specs.Prelude.{◌≡◌, Bool, List, [], ◌∷◌, ℕ, zero, suc, ◌+◌, ◌*◌, ◌/◌, ◌%◌, ◌^◌, eqb, get_or, length}
use Rattle.std.specs.Int.{w64}
use Rattle.std.proofs.Common.{Fits}
use Rattle.tick_map.specs.declared.Map.{Map}

-- the number of two parts: a above the 64 digits of r
abbrev pub over : ℕ → ℕ → ℕ
over a r = a * 2 ^ 64 + r

-- four words, the lowest first, as one number
unfoldable pub value_of : ℕ → ℕ → ℕ → ℕ → ℕ
value_of a b c d = over (over (over d c) b) a

-- the words of a list
abbrev pub value_of_list : List ℕ → ℕ
value_of_list w = value_of (get_or w 0 0) (get_or w 1 0) (get_or w 2 0) (get_or w 3 0)

-- the number that a map stands for
abbrev pub bits_in : Map → ℕ
bits_in m = value_of_list m.words

-- the map of a number: its digits 0 to 63, 64 to 127, 128 to 191 and 192 to 255
unfoldable pub map_of : ℕ → Map
map_of n = record { words = n % 2 ^ 64 ∷ n / 2 ^ 64 % 2 ^ 64 ∷ n / 2 ^ 128 % 2 ^ 64 ∷ n / 2 ^ 192 % 2 ^ 64 ∷ [] }

-- digit i of m
abbrev pub bit : ℕ → ℕ → ℕ
bit m i = m / 2 ^ i % 2

abbrev pub is_set : ℕ → ℕ → Bool
is_set m i = eqb (bit m i) 1

-- one more than t above a set digit, none above one that is not set
abbrev pub onward : ℕ → ℕ → ℕ
onward zero t = zero
onward (suc d) t = suc t

-- how many of m's k lowest digits stand below the lowest one that is not set: all k
-- where each is set
unfoldable pub run : ℕ → ℕ → ℕ
run zero m = zero
run (suc k) m = onward (m % 2) (run k (m / 2))

-- the sum of f over the numbers below k: a count made one by one, where f is 0 or 1
unfoldable pub tally : (ℕ → ℕ) → ℕ → ℕ
tally f zero = zero
tally f (suc k) = f zero + tally (λ i. f (suc i)) k

-- what owning an array of four words tells of its list
pub record Words (w : List ℕ) : Type 0 where
  pub four : length w ≡ 4
  pub low : (i : ℕ) → Fits w64 (get_or w i 0)
