-- Each answer of opening and of a step from the facts that lead to it.
use Rattle.std.specs.Prelude.{ℕ, ◌+◌, ◌<◌, ◌≤◌, ◌≡◌, true, false, List, [], ◌∷◌, length}
use Rattle.std.proofs.Common.{sym, ◌∙◌, arith}
use Rattle.std.proofs.Math.Logic.{⊎_elim}
use Rattle.std.proofs.Math.Dec.{eqb}
use borrow.Author.Tests.{lt-ltb, le-ltb, eq-eqb, ne_eqb}
use Rattle.terms.specs.Paper.{answer, refusal, one_number}
use Rattle.terms.specs.Cases.{two, less}
use Rattle.terms.specs.Letters.{spelled}
use Rattle.octets.specs.Octets.{be}
use Rattle.rules.specs.declared.Kind.TheVariants.{M102}
use Rattle.rules.specs.Table.{measure_of}
use Rattle.rules.specs.Fields.{fields_ok}
use Rattle.rules.specs.Outcomes.{Measured, m_type, m_long, m_length, m_fine, measured}
use Rattle.rules.specs.Meaning.{length_says, unsaid}
use Rattle.entries.specs.Reader.{open_of, size_in, stands, entry_at, step_of, place_after}

module _ (b : List ℕ) where
  pub open_long : 8164 < length b → open_of b ≡ 3
  unfolding open_of
  open_long l = simp (lt-ltb _ _ l)

  module _ (l : length b ≤ 8164) where
    pub open_length : length b < 73 → open_of b ≡ 4
    unfolding open_of
    open_length s = simp (le-ltb _ _ l, lt-ltb _ _ s)

    module _ (s : 73 ≤ length b) where
      pub open_field : fields_ok M102 b ≡ false → open_of b ≡ 6
      unfolding open_of
      open_field f = simp (le-ltb _ _ l, le-ltb _ _ s, f)

      pub open_fine : fields_ok M102 b ≡ true → open_of b ≡ 0
      unfolding open_of
      open_fine f = simp (le-ltb _ _ l, le-ltb _ _ s, f)

pub not_le : {m n : ℕ} → (m ≤ n → ⊥) → n < m
not_le {m} {n} f = ⊎_elim (λ (l : n < m). l) (λ (g : m ≤ n). absurd (f g)) (less n m)

-- `measure_of` answers 2, 3, 4: for M102 the first is never due, and the others are opening's
refused : (b : List ℕ) (m : ℕ) → Measured M102 (length b) m → (m ≡ 0 → ⊥) → m ≡ open_of b
refused b m (m_type e k) n = let z : ◌≡◌ {A = ℕ} 0 1 = cc in absurd (omega arith)
refused b m (m_long e k l) n = e ∙ sym (open_long b l)
refused b m (m_length e k l s) n = e ∙ sym (open_length b l (not_le (unsaid (length_says M102 (length b)) s)))
refused b m (m_fine e k l s) n = absurd (n e)

pub open_measured : (b : List ℕ) (m : ℕ) → m ≡ measure_of M102 (length b) → (m ≡ 0 → ⊥) → m ≡ open_of b
open_measured b m e n = e ∙ refused b (measure_of M102 (length b)) (measured M102 (length b)) (λ z. n (e ∙ z))

suited : (n m : ℕ) → Measured M102 n m → m ≡ 0 → (n ≤ 8164) × (73 ≤ n)
suited n m (m_type e k) z = absurd (omega arith)
suited n m (m_long e k l) z = absurd (omega arith)
suited n m (m_length e k l s) z = absurd (omega arith)
suited n m (m_fine e k l s) z = (l, (length_says M102 n).0 s)

-- a length that they pass
pub suited_length : (n : ℕ) → measure_of M102 n ≡ 0 → (n ≤ 8164) × (73 ≤ n)
suited_length n e = suited n (measure_of M102 n) (measured M102 n) e

module _ (b : List ℕ) (p : ℕ) where
  pub step_done : stands b p ≡ true → step_of b p ≡ entry_at b p
  unfolding step_of
  step_done h = simp h

  pub step_20 : stands b p ≡ false → step_of b p ≡ refusal 20
  unfolding step_of
  step_20 h = simp h

  pub after_done : stands b p ≡ true → place_after b p ≡ p + size_in b
  unfolding place_after
  after_done h = simp h

  pub after_20 : stands b p ≡ false → place_after b p ≡ p
  unfolding place_after
  after_20 h = simp h

  pub entry_short : be 5 10 b ≡ spelled "MD001" → entry_at b p ≡ answer 0 (be 2 p b ∷ be 8 (p + 2) b ∷ [])
  unfolding entry_at
  entry_short e = simp (eq-eqb _ _ e)

  pub entry_long : (be 5 10 b ≡ spelled "MD001" → ⊥) → entry_at b p ≡ answer 0 (be 2 p b ∷ be 8 (p + 2) b ∷ be 8 (p + 10) b ∷ be 1 (p + 18) b ∷ [])
  unfolding entry_at
  entry_long e = simp (ne_eqb _ _ e)

  pub entry_number : (entry_at b p).number ≡ 0
  unfolding entry_at
  entry_number = ⊎_elim (λ (t : eqb (be 5 10 b) (spelled "MD001") ≡ true). simp t) (λ (f : eqb (be 5 10 b) (spelled "MD001") ≡ false). simp f) (two (eqb (be 5 10 b) (spelled "MD001")))

  -- beside any refusal the place stays
  pub stays : ((step_of b p).number ≡ 0 → ⊥) → place_after b p ≡ p
  stays n =
      ⊎_elim (λ (t : stands b p ≡ true). absurd (n (one_number (step_done t) ∙ entry_number))) (λ (f : stands b p ≡ false). after_20 f) (two (stands b p))
