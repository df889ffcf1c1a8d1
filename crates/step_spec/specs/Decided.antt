-- A check that bytes to come may decide: what its 0, its 1 and its refusal say. And the four such
-- checks of reading.
use Rattle.std.specs.Prelude.{ℕ, ◌≡◌, true, ◌⊎◌}
use mathlib.Core.List.{List, [], ◌∷◌, ◌++◌}
use Rattle.std.proofs.Math.ListN.{drop}
use Rattle.terms.specs.Checks.{or_else}
use Rattle.step_tags.specs.Table.{among, types}
use Rattle.step_spec.specs.Pieces.{SOH}
use Rattle.step_spec.specs.Frame.{length_tag, front, window, length_check}

-- WHAT A CHECK SAYS, where c answers 0, 1 or N of bytes that begin with s, and P is what it
-- asks of them
pub record Decides (N : ℕ) (c : List ℕ → ℕ) (P : List ℕ → Type 0) (s : List ℕ) : Type 0 where
  pub no_0 : N ≡ 0 → ⊥
  pub no_1 : N ≡ 1 → ⊥
  pub range : (c s ≡ 0) ⊎ ((c s ≡ 1) ⊎ (c s ≡ N))
  pub passes : (t : List ℕ) → c (s ++ t) ≡ 0 → P (s ++ t)
  pub passed : (t : List ℕ) → P (s ++ t) → c (s ++ t) ≡ 0
  pub stays : (t : List ℕ) → (c s ≡ 1 → ⊥) → c (s ++ t) ≡ c s
  pub mends : c s ≡ 1 → (t : List ℕ) × P (s ++ t)

abbrev pub length_part : List ℕ → ℕ
length_part s = or_else (front 24 length_tag (drop 11 s)) (length_check (window s))

-- a type of the seven and SOH, with some bytes behind what is there
pub record Kinded (y : List ℕ) : Type 0 where
  pub type : ℕ
  pub more : List ℕ
  pub known : among type types ≡ true
  pub text : y ++ more ≡ type ∷ SOH ∷ []
