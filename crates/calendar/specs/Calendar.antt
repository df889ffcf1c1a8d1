-- Document 02, CR 6: which times are real. A time is the number YYYYMMDDHHMMSSsss (000, 2.2.2).
-- Days are those of the Gregorian calendar; there is no leap second, and no 24:00.
use Rattle.std.specs.Prelude.{ℕ, ◌+◌, ◌*◌, ◌/◌, ◌%◌, ◌^◌, ◌≤◌, ◌≡◌, Bool, not, ◌&&◌, ◌||◌, leb, eqb}
use Rattle.terms.specs.Paper.{pick}

-- a year divisible by 4 and not by 100, or by 400
unfoldable pub leap : ℕ → Bool
leap y = (eqb (y % 4) 0 && not (eqb (y % 100) 0)) || eqb (y % 400) 0

-- the days of a month
unfoldable pub days_in : ℕ → ℕ → ℕ
days_in y m = pick (eqb m 2) (pick (leap y) 29 28) (pick (((eqb m 4 || eqb m 6) || eqb m 9) || eqb m 11) 30 31)

-- a time's seven numbers
pub record Parts : Type 0 where
  pub year : ℕ
  pub month : ℕ
  pub day : ℕ
  pub hour : ℕ
  pub minute : ℕ
  pub second : ℕ
  pub milli : ℕ

-- the number that they make, two digits for each but the year and the milliseconds
unfoldable pub time_of : Parts → ℕ
time_of p = (((((p.year * 100 + p.month) * 100 + p.day) * 100 + p.hour) * 100 + p.minute) * 100 + p.second) * 1000 + p.milli

-- THE RULE, a clause a field
pub record TimeRules (p : Parts) : Type 0 where
  pub year_from : 2000 ≤ p.year
  pub year_to : p.year ≤ 9999
  pub month_from : 1 ≤ p.month
  pub month_to : p.month ≤ 12
  pub day_from : 1 ≤ p.day
  pub day_to : p.day ≤ days_in p.year p.month
  pub hour_to : p.hour ≤ 23
  pub minute_to : p.minute ≤ 59
  pub second_to : p.second ≤ 59
  pub milli_to : p.milli ≤ 999

-- a real time: the number of seven that keep the rule
pub record RealTime (time : ℕ) : Type 0 where
  pub parts : Parts
  pub number : time ≡ time_of parts
  pub rules : TimeRules parts

-- THE SAME AS A TEST, which the code's promise cites; Times.antt proves that it says the rule
abbrev pub date_ok : ℕ → ℕ → ℕ → Bool
date_ok y m d = ((((leb 2000 y && leb y 9999) && leb 1 m) && leb m 12) && leb 1 d) && leb d (days_in y m)

abbrev pub clock_ok : ℕ → ℕ → ℕ → ℕ → Bool
clock_ok h m s ms = ((leb h 23 && leb m 59) && leb s 59) && leb ms 999

abbrev pub time_ok : Parts → Bool
time_ok p = date_ok p.year p.month p.day && clock_ok p.hour p.minute p.second p.milli

-- a number taken apart
unfoldable pub real_parts : ℕ → Parts
real_parts t = record {
  year = t / 10 ^ 13;
  month = t / 10 ^ 11 % 100;
  day = t / 10 ^ 9 % 100;
  hour = t / 10 ^ 7 % 100;
  minute = t / 10 ^ 5 % 100;
  second = t / 10 ^ 3 % 100;
  milli = t % 1000;
}

unfoldable pub real_time : ℕ → Bool
real_time t = time_ok (real_parts t)
