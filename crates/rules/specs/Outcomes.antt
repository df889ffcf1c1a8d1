-- Each number of `measure_of` and `judge_of` from the facts that lead to it, and the same by cases.
use Rattle.std.specs.Prelude.{ℕ, ◌<◌, ◌≤◌, ◌≡◌, true, false, List}
use Rattle.std.proofs.Common.{⊎_elim, arith}
use borrow.Author.Tests.{lt-ltb, le-ltb}
use Rattle.terms.specs.Cases.{two, less}
use Rattle.calendar.specs.Calendar.{real_time}
use Rattle.rules.specs.declared.Kind.{Kind}
use Rattle.rules.specs.Table.{known, suits, measure_of}
use Rattle.rules.specs.Fields.{fields_ok, judge_of}

module _ (k : Kind) (n : ℕ) where
  pub measure_type : known k ≡ false → measure_of k n ≡ 2
  unfolding measure_of
  measure_type h = simp h

  module _ (h : known k ≡ true) where
    pub measure_long : 8164 < n → measure_of k n ≡ 3
    unfolding measure_of
    measure_long l = simp (h, lt-ltb _ _ l)

    module _ (l : n ≤ 8164) where
      pub measure_length : suits k n ≡ false → measure_of k n ≡ 4
      unfolding measure_of
      measure_length m = simp (h, le-ltb _ _ l, m)

      pub measure_fine : suits k n ≡ true → measure_of k n ≡ 0
      unfolding measure_of
      measure_fine m = simp (h, le-ltb _ _ l, m)

-- which facts stand behind a number m of measureOf k n
pub data Measured (k : Kind) (n m : ℕ) : Type 0 where
  m_type : m ≡ 2 → known k ≡ false → Measured k n m
  m_long : m ≡ 3 → known k ≡ true → 8164 < n → Measured k n m
  m_length : m ≡ 4 → known k ≡ true → n ≤ 8164 → suits k n ≡ false → Measured k n m
  m_fine : m ≡ 0 → known k ≡ true → n ≤ 8164 → suits k n ≡ true → Measured k n m

pub measured : (k : Kind) (n : ℕ) → Measured k n (measure_of k n)
measured k n =
    ⊎_elim (λ h.
    ⊎_elim (λ l. m_long (measure_long k n h l) h l) (λ l.
    ⊎_elim (λ m. m_fine (measure_fine k n h l m) h l m) (λ m. m_length (measure_length k n h l m) h l m)
    (two (suits k n)))
    (less 8164 n))
    (λ h. m_type (measure_type k n h) h)
    (two (known k))

-- which facts stand behind a number m of judgeOf k time b
pub data Judged (k : Kind) (time : ℕ) (b : List ℕ) (m : ℕ) : Type 0 where
  j_time : m ≡ 7 → real_time time ≡ false → Judged k time b m
  j_field : m ≡ 6 → real_time time ≡ true → fields_ok k b ≡ false → Judged k time b m
  j_fine : m ≡ 0 → real_time time ≡ true → fields_ok k b ≡ true → Judged k time b m

never_1 : (k : Kind) (n m : ℕ) → Measured k n m → m ≡ 1 → ⊥
never_1 k n m (m_type e a) h = omega arith
never_1 k n m (m_long e a b) h = omega arith
never_1 k n m (m_length e a b c) h = omega arith
never_1 k n m (m_fine e a b c) h = omega arith

pub measure_not_more : (k : Kind) (n : ℕ) → measure_of k n ≡ 1 → ⊥
measure_not_more k n e = never_1 k n (measure_of k n) (measured k n) e

-- equal arguments, equal numbers
pub measure_same : (k l : Kind) (m n : ℕ) → k ≡ l → m ≡ n → measure_of k m ≡ measure_of l n
measure_same k l m n p q = cc

pub judge_same : (k l : Kind) (t u : ℕ) (a b : List ℕ) → k ≡ l → t ≡ u → a ≡ b → judge_of k t a ≡ judge_of l u b
judge_same k l t u a b p q r = cc
