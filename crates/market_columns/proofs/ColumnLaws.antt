-- Laws of columns: sameness of texts, and each kind by its number.
use Rattle.std.specs.Prelude.{ℕ, ◌≡◌, true, not, ◌||◌, List, eqb, length}
use Rattle.std.proofs.Math.Path.{refl}
use Rattle.std.proofs.Common.{arith}
use Rattle.market_columns.specs.Numbers.{spaces, number_in}
use Rattle.market_columns.specs.Columns.{Column, K, S, N, C, U, kind_of, decimals_of, constant_of, alike, blank, column_ok}

-- EACH KIND BY ITS NUMBER

module _ (x : List ℕ) where
  pub ok_constant : (c : Column) → kind_of c ≡ 0 → column_ok c x ≡ alike (constant_of c) x
  unfolding column_ok
  ok_constant (K t) e = refl
  ok_constant (S n) e = absurd (omega arith)
  ok_constant (N n d) e = absurd (omega arith)
  ok_constant (C n) e = absurd (omega arith)
  ok_constant (U n) e = absurd (omega arith)

  pub ok_blank : (c : Column) → kind_of c ≡ 1 → column_ok c x ≡ blank x
  unfolding column_ok
  ok_blank (K t) e = absurd (omega arith)
  ok_blank (S n) e = refl
  ok_blank (N n d) e = absurd (omega arith)
  ok_blank (C n) e = absurd (omega arith)
  ok_blank (U n) e = absurd (omega arith)

  pub ok_number : (c : Column) → kind_of c ≡ 2 → column_ok c x ≡ not (eqb (length (number_in (decimals_of c) x).values) 0)
  unfolding column_ok
  ok_number (K t) e = absurd (omega arith)
  ok_number (S n) e = absurd (omega arith)
  ok_number (N n d) e = refl
  ok_number (C n) e = absurd (omega arith)
  ok_number (U n) e = absurd (omega arith)

  pub ok_text : (c : Column) → kind_of c ≡ 3 → column_ok c x ≡ (eqb (spaces x) 0 || blank x)
  unfolding column_ok
  ok_text (K t) e = absurd (omega arith)
  ok_text (S n) e = absurd (omega arith)
  ok_text (N n d) e = absurd (omega arith)
  ok_text (C n) e = refl
  ok_text (U n) e = absurd (omega arith)

  pub ok_name : (c : Column) → (kind_of c ≡ 0 → ⊥) → (kind_of c ≡ 1 → ⊥) → (kind_of c ≡ 2 → ⊥) → (kind_of c ≡ 3 → ⊥) → column_ok c x ≡ true
  unfolding column_ok
  ok_name (K t) a b c d = absurd (a refl)
  ok_name (S n) a b c d = absurd (b refl)
  ok_name (N n q) a b c d = absurd (c refl)
  ok_name (C n) a b c d = absurd (d refl)
  ok_name (U n) a b c d = refl
