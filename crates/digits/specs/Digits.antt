-- Decimal text in ASCII: the digits of a number as bytes, and the number that such bytes say.
use Rattle.std.specs.Prelude.{ℕ, zero, suc, ◌+◌, ◌/◌, ◌-◌, ◌≡◌, refl, Bool, true, not, ◌&&◌, ◌||◌, List, [], ◌∷◌, map, leb, ltb, eqb, length, get_or, take, drop, Option, Some, None}
use Rattle.std.proofs.Common.{sym, ap, ◌∙◌}
use Rattle.terms.specs.Paper.{Paper, answer, pick}
use Rattle.octets.specs.Octets.{numeral, digits_of}

-- WRITING

-- the n lowest decimal digits of v in ASCII, where 48 is the digit 0
unfoldable pub decimal_of : ℕ → ℕ → List ℕ
decimal_of n v = map (λ (x : ℕ). x + 48) (digits_of 10 n v)

-- how many digits v has, counted up to f
unfoldable pub width_in : ℕ → ℕ → ℕ
width_in zero v = 0
width_in (suc f) v = pick (ltb v 10) 1 (width_in f (v / 10) + 1)

-- how many digits v has, and all of them; 64 bits have at most twenty
abbrev pub width_of : ℕ → ℕ
width_of v = width_in 20 v

abbrev pub shown_of : ℕ → List ℕ
shown_of v = decimal_of (width_of v) v

-- READING

abbrev pub is_digit : ℕ → Bool
is_digit b = leb 48 b && leb b 57

unfoldable pub all_digits : List ℕ → Bool
all_digits [] = true
all_digits (b ∷ bs) = is_digit b && all_digits bs

-- the number that digits say
unfoldable pub said_by : List ℕ → ℕ
said_by t = numeral 10 (length t) 0 (map (λ (x : ℕ). x - 48) t)

-- the paper of a number, and of none
abbrev pub number : ℕ → Paper
number v = answer 0 (v ∷ [])

abbrev pub nothing : Paper
nothing = answer 0 []

unfoldable pub said_if_digits : List ℕ → Paper
said_if_digits t = pick (all_digits t) (number (said_by t)) nothing

-- n bytes from the place at on, of len bytes: one to nineteen, which always fit 64 bits, and none
-- behind the end
abbrev pub readable : ℕ → ℕ → ℕ → Bool
readable at n len = leb 1 n && leb n 19 && leb (at + n) len

-- what the n bytes from the place at on say
unfoldable pub digits_at : ℕ → ℕ → List ℕ → Paper
digits_at at n s = pick (readable at n (length s)) (said_if_digits (take n (drop at s))) nothing

-- no needless zero among n digits with this one in front
abbrev pub plain : ℕ → ℕ → Bool
plain n first = eqb n 1 || not (eqb first 48)

unfoldable pub decimal_at : ℕ → ℕ → List ℕ → Paper
decimal_at at n s = pick (plain n (get_or s at 0)) (digits_at at n s) nothing

-- THE ANSWER'S PAPER

abbrev pub decimal_paper : Option ℕ → Paper
decimal_paper (Some v) = number v
decimal_paper None = nothing

-- the answer told from its values
told_decimal : List ℕ → Option ℕ
told_decimal [] = None
told_decimal (v ∷ vs) = Some v

decimal_told : (r : Option ℕ) → told_decimal (decimal_paper r).values ≡ r
unfolding told_decimal
decimal_told (Some v) = refl
decimal_told None = refl

-- two answers of one paper are one
pub decimal_one : (x y : Option ℕ) → decimal_paper x ≡ decimal_paper y → x ≡ y
decimal_one x y e = sym (decimal_told x) ∙ ap (λ (p : Paper). told_decimal p.values) e ∙ decimal_told y
