-- Each number of `measure_of` and `judge_of` from the facts that lead to it, and the same by cases.
use Rattle.std.specs.Prelude.{ℕ, ◌≡◌, true, false, List}
use Rattle.std.proofs.Common.{⊎_elim, arith}
use Rattle.terms.specs.Cases.{two}
use Rattle.calendar.specs.Calendar.{real_time}
use Rattle.rules.specs.declared.Kind.{Kind}
use Rattle.rules.specs.Fields.{fields_ok, judge_of}
use Rattle.rules.specs.Outcomes.{j_fine, j_time, j_field, Judged}

module _ (k : Kind) (time : ℕ) (b : List ℕ) where
  pub judge_time : real_time time ≡ false → judge_of k time b ≡ 7
  unfolding judge_of
  judge_time r = simp r

  module _ (r : real_time time ≡ true) where
    pub judge_field : fields_ok k b ≡ false → judge_of k time b ≡ 6
    unfolding judge_of
    judge_field f = simp (r, f)

    pub judge_fine : fields_ok k b ≡ true → judge_of k time b ≡ 0
    unfolding judge_of
    judge_fine f = simp (r, f)

pub judged : (k : Kind) (time : ℕ) (b : List ℕ) → Judged k time b (judge_of k time b)
judged k time b =
    ⊎_elim (λ r.
    ⊎_elim (λ f. j_fine (judge_fine k time b r f) r f) (λ f. j_field (judge_field k time b r f) r f)
    (two (fields_ok k b)))
    (λ r. j_time (judge_time k time b r) r)
    (two (real_time time))

-- THE LAWS THAT LAYERS ABOVE USE: no check here asks for more bytes

not_1 : (k : Kind) (time : ℕ) (b : List ℕ) (m : ℕ) → Judged k time b m → m ≡ 1 → ⊥
not_1 k time b m (j_time e r) h = omega arith
not_1 k time b m (j_field e r f) h = omega arith
not_1 k time b m (j_fine e r f) h = omega arith

pub judge_not_more : (k : Kind) (time : ℕ) (b : List ℕ) → judge_of k time b ≡ 1 → ⊥
judge_not_more k time b e = not_1 k time b (judge_of k time b) (judged k time b) e
