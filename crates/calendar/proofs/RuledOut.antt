-- For the public function: wrong answers that its promise rules out, as a table of what is given
-- and what is then wrong. Assumes nothing.
use Prim.Native.Nat.{ℕ}
use mathlib.Core.Path.{refl}
use mathlib.Core.Bool.{Bool, true, false}
use mathlib.Core.List.{List, [], ◌∷◌}
use Rattle.terms.specs.RuledOut.{Row, ◌never◌, ◌only◌, Kept, RulesOut, ruled, bools}
use Rattle.calendar.specs.Calendar.{leap, days_in, real_parts, real_time}
use Rattle.calendar.proofs.is_real.Reads as is_real
use Rattle.calendar.proofs.is_real.Kinds as is-real-kinds

-- IS_REAL: a time, and whether it is real
abbrev pub is_real_wrong : List (Row ℕ Bool)
is_real_wrong =
    20260121093000000 only true  -- not refused: a test that refuses everything is wrong here
    ∷ 20261301093000000 never true  -- month 13 taken
    ∷ 20260021093000000 never true  -- month 0 taken
    ∷ 20260431093000000 never true  -- 31 April taken
    ∷ 20260100093000000 never true  -- day 0 taken
    ∷ 20260731093000000 never false  -- 31 July refused
    ∷ 21000229093000000 never true  -- 29 February taken in 2100: every fourth year leap
    ∷ 20000229093000000 never false  -- and refused in 2000: no full century leap
    ∷ 20260121240000000 never true  -- hour 24 taken
    ∷ 20260121096000000 never true  -- minute 60 taken
    ∷ 20260121095960000 never true  -- second 60 taken
    ∷ 19991231235959999 never true  -- year 1999 taken
    ∷ 99991231235959999 only true  -- the last moment, 9999
    ∷ 100000101000000000 never true  -- year 10,000 taken
    ∷ 0 never true
    ∷ 18446744073709551615 never true  -- the largest number: a date that a cast to 32 bits cuts
    ∷ []

pub is_real_rules_out : RulesOut (Kept _ is-real-kinds.ps is-real-kinds.r is_real.Post) (λ c. c.args.0) (λ c. c.result) is_real_wrong
unfolding leap days_in real_parts real_time
is_real_rules_out = ruled bools real_time (λ c p. p) _ refl
