-- What the checks 2, 3 and 4 leave: a type of the table, a body of at most 8,164 bytes, a
-- length that suits.
use Rattle.std.specs.Prelude.{ℕ, ◌≤◌, ◌≡◌, true}
use Rattle.std.proofs.Common.{arith}
use Rattle.rules.specs.declared.Kind.{Kind}
use Rattle.rules.specs.Table.{known, suits, measure_of}
use Rattle.rules.specs.Outcomes.{Measured, m_type, m_long, m_length, m_fine, measured}

pub record LengthFits (k : Kind) (n : ℕ) : Type 0 where
  pub is : known k ≡ true
  pub small : n ≤ 8164
  pub suit : suits k n ≡ true

fits_of : (k : Kind) (n m : ℕ) → Measured k n m → m ≡ 0 → LengthFits k n
fits_of k n m (m_type e a) z = absurd (omega arith)
fits_of k n m (m_long e a b) z = absurd (omega arith)
fits_of k n m (m_length e a b c) z = absurd (omega arith)
fits_of k n m (m_fine e a b c) z = record { is = a; small = b; suit = c }

pub fits : (k : Kind) (n : ℕ) → measure_of k n ≡ 0 → LengthFits k n
fits k n z = fits_of k n (measure_of k n) (measured k n) z
