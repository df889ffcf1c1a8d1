-- The calendar in its own words, and its figures: a wrong table or a wrong rule of leap
-- years fails here.
use Rattle.std.specs.Prelude.{ℕ, zero, suc, ◌+◌, ◌*◌, ◌^◌, ◌≡◌, ◌⊎◌, List, [], ◌∷◌}
use Rattle.terms.specs.Paper.{pick}
use Rattle.calendar.specs.Calendar.{leap, days_in}

-- LEAP YEARS: divisible by 4 and not by 100, or by 400
abbrev pub Divides : ℕ → ℕ → Type 0
Divides n y = (k : ℕ) × (y ≡ k * n)

abbrev pub LeapYear : ℕ → Type 0
LeapYear y = (Divides 4 y × (Divides 100 y → ⊥)) ⊎ Divides 400 y

-- THE TWELVE LENGTHS
abbrev pub lengths : ℕ → List ℕ
lengths y = days_in y 1 ∷ days_in y 2 ∷ days_in y 3 ∷ days_in y 4 ∷ days_in y 5 ∷ days_in y 6 ∷ days_in y 7 ∷ days_in y 8 ∷ days_in y 9 ∷ days_in y 10 ∷ days_in y 11 ∷ days_in y 12 ∷ []

-- THE FIGURES

-- 1 for a leap year, 0 else
abbrev pub leap_day : ℕ → ℕ
leap_day y = pick (leap y) 1 0

-- the leap years among the n years from y on
unfoldable pub leaps_from : ℕ → ℕ → ℕ
leaps_from y zero = 0
leaps_from y (suc n) = leap_day y + leaps_from (suc y) n

-- the days of a year, and of the n years from y on
abbrev pub total : List ℕ → ℕ
total [] = 0
total (x ∷ xs) = x + total xs

unfoldable pub days_from : ℕ → ℕ → ℕ
days_from y zero = 0
days_from y (suc n) = total (lengths y) + days_from (suc y) n

-- EXAMPLES: a date at its first moment, and a moment of 21 January 2026
abbrev pub on_day : ℕ → ℕ
on_day date = date * 10 ^ 9

abbrev pub at_clock : ℕ → ℕ
at_clock clock = 20260121 * 10 ^ 9 + clock

-- real times, and beside them times that are not
abbrev pub some_real : List ℕ
some_real = on_day 20000229 ∷ on_day 24000229 ∷ on_day 20260731 ∷ at_clock 0 ∷ at_clock 93000000 ∷ at_clock 235959999 ∷ []

abbrev pub some_not : List ℕ
some_not =
    on_day 20010229 ∷ on_day 21000229 ∷ on_day 20260431 ∷ on_day 20261321 ∷ on_day 20260100 ∷ on_day 19991231 ∷ on_day 100000101
    ∷ at_clock 240000000 ∷ at_clock 96000000 ∷ at_clock 95960000 ∷ []
