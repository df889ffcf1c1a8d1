-- A number taken apart into a time's seven numbers and put together again; and what the test of a
-- time says, both ways.
use Rattle.std.specs.Prelude.{ℕ, ◌/◌, ◌%◌, ◌^◌, ◌≤◌, ◌≡◌, refl, Bool, true, false, ◌&&◌}
use Rattle.std.proofs.Common.{sym, ap, ◌∙◌, arith}
use Rattle.std.proofs.Math.Nat.{div-div-eq-div-mul}
use Rattle.std.proofs.lemmas.Bool.{lt-leb}
use Rattle.terms.specs.Says.{Says, says_le, says_and, says_as}
use Rattle.calendar.specs.Calendar.{days_in, Parts, TimeRules, RealTime, date_ok, clock_ok, time_ok, real_parts, real_time}
use Rattle.calendar.specs.Times.{time_back, parts_back}

-- THE TEST
rules_say : (p : Parts) → Says (time_ok p) (TimeRules p)
rules_say p =
    says_as
    (says_and
    (says_and
    (says_and (says_and (says_and (says_and (says_le 2000 p.year) (says_le p.year 9999)) (says_le 1 p.month)) (says_le p.month 12)) (says_le 1 p.day))
    (says_le p.day (days_in p.year p.month)))
    (says_and (says_and (says_and (says_le p.hour 23) (says_le p.minute 59)) (says_le p.second 59)) (says_le p.milli 999)))
    (λ h.
    record {
      year_from = h.0.0.0.0.0.0;
      year_to = h.0.0.0.0.0.1;
      month_from = h.0.0.0.0.1;
      month_to = h.0.0.0.1;
      day_from = h.0.0.1;
      day_to = h.0.1;
      hour_to = h.1.0.0.0;
      minute_to = h.1.0.0.1;
      second_to = h.1.0.1;
      milli_to = h.1.1;
    })
    (λ r.
    ((((((r.year_from, r.year_to), r.month_from), r.month_to), r.day_from), r.day_to), (((r.hour_to, r.minute_to), r.second_to), r.milli_to)))

-- THE THEOREM: the test holds exactly where the time is real
pub time_says : (time : ℕ) → Says (real_time time) (RealTime time)
unfolding real_time
time_says time =
    says_as (rules_say (real_parts time)) (λ h. record { parts = real_parts time; number = sym (time_back time); rules = h })
    (λ r. let e : real_parts time ≡ r.parts = ap real_parts r.number ∙ parts_back r.parts r.rules in rw e r.rules)

and_false : (b : Bool) → (b && false) ≡ false
and_false true = refl
and_false false = refl

-- a date of nine digits or more has a year of five
pub date_too_long : (t : ℕ) → 10 ^ 8 ≤ t / 10 ^ 9 → real_time t ≡ false
unfolding real_time real_parts
date_too_long t h = rw (lt-leb (t / 10 ^ 13) 9999 (omega arith), and_false _)

-- date and clock apart have the parts of the whole
pub in_halves : (t : ℕ) →
    real_time t ≡ (date_ok (t / 10 ^ 9 / 10 ^ 4) (t / 10 ^ 9 / 10 ^ 2 % 100) (t / 10 ^ 9 % 100)
    && clock_ok (t % 10 ^ 9 / 10 ^ 7) (t % 10 ^ 9 / 10 ^ 5 % 100) (t % 10 ^ 9 / 10 ^ 3 % 100) (t % 10 ^ 9 % 1000))
unfolding real_time real_parts
in_halves t =
    let hour : t % 10 ^ 9 / 10 ^ 7 ≡ t / 10 ^ 7 % 100 = omega arith in
    let minute : t % 10 ^ 9 / 10 ^ 5 % 100 ≡ t / 10 ^ 5 % 100 = omega arith in
    let second : t % 10 ^ 9 / 10 ^ 3 % 100 ≡ t / 10 ^ 3 % 100 = omega arith in
    let milli : t % 10 ^ 9 % 1000 ≡ t % 1000 = omega arith in
    rw (div-div-eq-div-mul t (10 ^ 9) (10 ^ 4), div-div-eq-div-mul t (10 ^ 9) (10 ^ 2), hour, minute, second, milli)
