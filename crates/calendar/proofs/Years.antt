-- The calendar in its own words, and its figures: a wrong table or a wrong rule of leap
-- years fails here.
use Rattle.std.specs.Prelude.{ℕ, zero, suc, ◌+◌, ◌*◌, ◌/◌, ◌%◌, ◌≡◌, refl, Bool, true, false, [], ◌∷◌, map, eqb, replicate}
use Rattle.std.proofs.Common.{ap, ◌∙◌, arith}
use Rattle.terms.specs.Paper.{pick}
use Rattle.terms.specs.Says.{Says, says_eq, says_and, says_or, says_not, says_as}
use Rattle.calendar.specs.Calendar.{leap, days_in, real_parts, real_time}
use Rattle.calendar.specs.Years.{Divides, LeapYear, lengths, leap_day, leaps_from, total, days_from, some_not, some_real}

says_4 : (y : ℕ) → Says (eqb (y % 4) 0) (Divides 4 y)
says_4 y = says_as (says_eq (y % 4) 0) (λ e. (y / 4, omega arith)) (λ d. let e = d.1 in omega arith)

says_100 : (y : ℕ) → Says (eqb (y % 100) 0) (Divides 100 y)
says_100 y = says_as (says_eq (y % 100) 0) (λ e. (y / 100, omega arith)) (λ d. let e = d.1 in omega arith)

says_400 : (y : ℕ) → Says (eqb (y % 400) 0) (Divides 400 y)
says_400 y = says_as (says_eq (y % 400) 0) (λ e. (y / 400, omega arith)) (λ d. let e = d.1 in omega arith)

pub leap_says : (y : ℕ) → Says (leap y) (LeapYear y)
unfolding leap
leap_says y = says_or (says_and (says_4 y) (says_not (says_100 y))) (says_400 y)

pub days_say : (y : ℕ) → lengths y ≡ (31 ∷ pick (leap y) 29 28 ∷ 31 ∷ 30 ∷ 31 ∷ 30 ∷ 31 ∷ 31 ∷ 30 ∷ 31 ∷ 30 ∷ 31 ∷ [])
unfolding days_in
days_say y = refl

-- what comes 400 years later is the same
leap_again : (y : ℕ) → leap (y + 400) ≡ leap y
unfolding leap
leap_again y =
    let a : (y + 400) % 4 ≡ y % 4 = omega arith in
    let b : (y + 400) % 100 ≡ y % 100 = omega arith in
    let c : (y + 400) % 400 ≡ y % 400 = omega arith in
    rw (a, b, c)

opened : (n y : ℕ) → leap_day y + leaps_from (suc y) n ≡ leaps_from y (suc n)
unfolding leaps_from
opened n y = refl

-- one year more at the end
one_more : (n y : ℕ) → leaps_from y (suc n) ≡ leaps_from y n + leap_day (y + n)
unfolding leaps_from
one_more zero y = let e : y + 0 ≡ y = omega arith in rw e (omega arith)
one_more (suc n) y =
    let e : suc y + n ≡ y + suc n = omega arith in
    let h : leaps_from (suc y) (suc n) ≡ leaps_from (suc y) n + leap_day (y + suc n) = one_more n (suc y) ∙ ap (λ (x : ℕ). leaps_from (suc y) n + leap_day x) e in
    omega (arith, h)

-- a year further on, where the year that comes is leap as the year that goes
moved_on : (n y : ℕ) → leap (y + n) ≡ leap y → leaps_from (suc y) n ≡ leaps_from y n
moved_on n y e =
    let f : leap_day y + leaps_from (suc y) n ≡ leaps_from y (suc n) = opened n y in
    let g : leap_day (y + n) ≡ leap_day y = ap (λ (b : Bool). pick b 1 0) e in
    omega (arith, one_more n y, f, g)

-- any 400 years in a row have 97 leap years
from_0 : leaps_from 0 400 ≡ 97
unfolding leaps_from leap
from_0 = refl

pub leaps_in_400 : (y : ℕ) → leaps_from y 400 ≡ 97
leaps_in_400 zero = from_0
leaps_in_400 (suc y) = moved_on 400 y (leap_again y) ∙ leaps_in_400 y

-- and 146,097 days: a year has 365, a leap year one more
twelve : (b : Bool) → total (31 ∷ pick b 29 28 ∷ 31 ∷ 30 ∷ 31 ∷ 30 ∷ 31 ∷ 31 ∷ 30 ∷ 31 ∷ 30 ∷ 31 ∷ []) ≡ 365 + pick b 1 0
twelve true = refl
twelve false = refl

pub year_days : (y : ℕ) → total (lengths y) ≡ 365 + leap_day y
year_days y = ap total (days_say y) ∙ twelve (leap y)

days_are : (n y : ℕ) → days_from y n ≡ 365 * n + leaps_from y n
unfolding days_from leaps_from
days_are zero y = refl
days_are (suc n) y = omega (arith, year_days y, days_are n (suc y))

pub days_in_400 : (y : ℕ) → days_from y 400 ≡ 146097
days_in_400 y = days_are 400 y ∙ ap (λ (x : ℕ). 365 * 400 + x) (leaps_in_400 y)

pub calendar_examples : (map real_time some_real ≡ replicate 6 true) × (map real_time some_not ≡ replicate 10 false)
unfolding real_time real_parts days_in leap
calendar_examples = (refl, refl)
