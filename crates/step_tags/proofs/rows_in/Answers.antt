-- `rows_in`: in an arm the type is known, and the table computes; what is no type has no rows.
-- Assumes nothing.
use Prim.Native.Nat.{ℕ, ◌<◌, ◌≤◌}
use native.Mathlib.Omega.{arith}
use mathlib.Core.Logic.{⊎_elim}
use mathlib.Core.Bool.{false}
use Rattle.terms.specs.Cases.{same}
use mathlib.Core.Path.{◌≡◌}
use borrow.Author.Tests.{ne_eqb}
use Rattle.std.specs.Prelude.{Some, None, eqb}
use Rattle.step_tags.specs.Papers.{set_of}
use Rattle.step_tags.specs.Masks.{mask_of}
use Rattle.step_tags.specs.Table.{has, needs, among, row_at, rows}
use Rattle.step_tags.proofs.rows_in.Goals as goal

-- 0 and 1 have the same rows
rows_48 : (k : ℕ) → 48 ≤ k → k < 50 → Some (record { has = 0x2007F; needs = 0x27 }) ≡ set_of k
unfolding mask_of needs has among row_at rows
rows_48 k l h = ⊎_elim (λ (e : k ≡ 48). rw e) (λ (n : k ≡ 48 → ⊥). let e : k ≡ 49 = omega (arith, l, h, n) in rw e) (same k 48)

no_rows : (k : ℕ) → ((48 ≤ k → 53 < k) × (k ≡ 65 → ⊥)) → None ≡ set_of k
unfolding among
no_rows k h = rw (ne_eqb k 65 h.1, off 53 (omega arith) (omega arith), off 48 (omega arith) (omega arith), off 49 (omega arith) (omega arith), off 50 (omega arith) (omega arith), off 51 (omega arith) (omega arith), off 52 (omega arith) (omega arith))
  where
    off : (i : ℕ) → 48 ≤ i → i ≤ 53 → eqb k i ≡ false
    off i l u = ne_eqb k i (λ e. omega (arith, h.0 (omega (arith, e)), e))

pub returns-in-65 : goal.returns-in-65
unfolding mask_of needs has among row_at rows
returns-in-65 c = rw c.in-65.is

pub returns-in-53 : goal.returns-in-53
unfolding mask_of needs has among row_at rows
returns-in-53 c = rw c.in-53.is

pub returns-in-50 : goal.returns-in-50
unfolding mask_of needs has among row_at rows
returns-in-50 c = rw c.in-50.is

pub returns-in-51 : goal.returns-in-51
unfolding mask_of needs has among row_at rows
returns-in-51 c = rw c.in-51.is

pub returns-in-52 : goal.returns-in-52
unfolding mask_of needs has among row_at rows
returns-in-52 c = rw c.in-52.is

pub returns-in-48 : goal.returns-in-48
returns-in-48 c = rows_48 _ (omega arith) (omega arith)

pub returns-in_default : goal.returns-in_default
returns-in_default c = no_rows _ (λ l. omega (arith, l), λ e. omega (arith, e))

pub returns-in_default-2 : goal.returns-in_default-2
returns-in_default-2 c = no_rows _ (λ l. omega (arith, l), λ e. omega (arith, e))
