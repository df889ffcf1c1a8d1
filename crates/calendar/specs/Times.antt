-- A number taken apart into a time's seven numbers and put together again; and what the test of a
-- time says, both ways.
use Rattle.std.specs.Prelude.{ℕ, ◌+◌, ◌*◌, ◌/◌, ◌%◌, ◌^◌, ◌<◌, ◌≤◌, ◌≡◌, refl, Bool, true, false, ◌&&◌, ◌||◌, leb, eqb}
use Rattle.std.proofs.Common.{sym, ap, ◌∙◌, arith, div-add-mod', le-leb}
use Rattle.std.proofs.Math.Nat.{div-div-eq-div-mul}
use Rattle.terms.specs.Paper.{pick}
use Rattle.calendar.specs.Calendar.{leap, days_in, Parts, time_of, TimeRules, clock_ok, real_parts}

-- DIGITS: two more of a number's digits, from either side
two_more : (t k : ℕ) → t / (k * 100) * 100 + t / k % 100 ≡ t / k
two_more t k = ap (λ (x : ℕ). x * 100 + t / k % 100) (sym (div-div-eq-div-mul t k 100)) ∙ div-add-mod' (t / k) 100

-- what is known of t / k: its two lowest digits r, and the rest
pub record Apart (t k q r : ℕ) : Type 0 where
  pub rest : t / (k * 100) ≡ q
  pub low : t / k % 100 ≡ r

apart : (t k q r : ℕ) → t / k ≡ q * 100 + r → r < 100 → Apart t k q r
apart t k q r e l = record { rest = sym (div-div-eq-div-mul t k 100) ∙ rw e (omega arith); low = rw e (omega arith) }

-- every number is made of its parts
pub time_back : (t : ℕ) → time_of (real_parts t) ≡ t
unfolding time_of real_parts
time_back t =
    simp (two_more t (10 ^ 11), two_more t (10 ^ 9), two_more t (10 ^ 7), two_more t (10 ^ 5), two_more t (10 ^ 3)) (div-add-mod' t 1000)

at_most : (b : Bool) (n x y : ℕ) → x ≤ n → y ≤ n → pick b x y ≤ n
at_most true n x y p q = p
at_most false n x y p q = q

pub days_few : (y m : ℕ) → days_in y m ≤ 31
unfolding days_in
days_few y m =
    at_most (eqb m 2) 31 _ _ (at_most (leap y) 31 29 28 (omega arith) (omega arith)) (at_most (((eqb m 4 || eqb m 6) || eqb m 9) || eqb m 11) 31 30 31 (omega arith) (omega arith))

module _ (p : Parts) (r : TimeRules p) where
  day_few : p.day < 100
  day_few = omega (arith, r.day_to, days_few p.year p.month)

  -- parts that keep the rule are those of their number
  pub parts_back : real_parts (time_of p) ≡ p
  unfolding time_of real_parts
  parts_back =
      let t = time_of p in
      let ms : t % 1000 ≡ p.milli = omega (arith, r.milli_to) in
      let a3 = apart t (10 ^ 3) ((((p.year * 100 + p.month) * 100 + p.day) * 100 + p.hour) * 100 + p.minute) p.second (omega (arith, r.milli_to)) (omega (arith, r.second_to)) in
      let a5 = apart t (10 ^ 5) (((p.year * 100 + p.month) * 100 + p.day) * 100 + p.hour) p.minute a3.rest (omega (arith, r.minute_to)) in
      let a7 = apart t (10 ^ 7) ((p.year * 100 + p.month) * 100 + p.day) p.hour a5.rest (omega (arith, r.hour_to)) in
      let a9 = apart t (10 ^ 9) (p.year * 100 + p.month) p.day a7.rest day_few in
      let a11 = apart t (10 ^ 11) p.year p.month a9.rest (omega (arith, r.month_to)) in
      rw (ms, a3.low, a5.low, a7.low, a9.low, a11.low, a11.rest)

-- WHAT THE CODE USES

and_true : (b : Bool) → (b && true) ≡ b
and_true true = refl
and_true false = refl

-- a remainder by 1,000 needs no test
pub clock_fits : (x : ℕ) →
    (leb (x / 10 ^ 7) 23 && leb (x / 10 ^ 5 % 100) 59) && leb (x / 10 ^ 3 % 100) 59
    ≡ clock_ok (x / 10 ^ 7) (x / 10 ^ 5 % 100) (x / 10 ^ 3 % 100) (x % 1000)
clock_fits x = rw (le-leb (x % 1000) 999 (omega arith)) (sym (and_true _))
