-- A stretch of places counted round: the map without them, and they alone.
-- Assumes nothing.
use mathlib.Core.Path.{◌≡◌, sym, ap, ap₂, ◌∙◌}
use Prim.Native.Nat.{ℕ, ◌+◌, ◌-◌, ◌*◌, ◌/◌, ◌%◌, ◌^◌, ◌≤◌, ◌<◌}
use native.Mathlib.Nat.{mod-le, mod-lt, lt_of_le_of_lt, add-zero}
use native.Mathlib.Decide.{dec_lt}
use native.Mathlib.Omega.{arith}
use lib.Pow.{split, pow_pos, shr_le}
use Rattle.tick_map.specs.Bits.{bit}
use Rattle.tick_map.specs.Ring.{rotated, laid, without, only}
use Rattle.tick_map.proofs.Laws.{bit_low, bit_high}
use Rattle.tick_map.proofs.Digits.{bit_shr, bit_above}
use Rattle.tick_map.proofs.Ring.{bit_mod, rotated_lt, rotated_bit}
use Rattle.tick_map.proofs.Rotated.{rotated_ext, rotated_laid}

-- ---- the map without a stretch

module _ (s k m : ℕ) (h : m < 2 ^ 256) where
  kept : ℕ
  kept = rotated s m / 2 ^ k * 2 ^ k

  kept_lt : kept < 2 ^ 256
  unfolding kept
  kept_lt = lt_of_le_of_lt (omega (arith, split (rotated s m) k)) (rotated_lt s m h)

  kept_in : (i : ℕ) → i < k → bit kept i ≡ 0
  unfolding kept
  kept_in i l = ap (λ (x : ℕ). bit x i) (sym (add-zero _)) ∙ bit_low (rotated s m / 2 ^ k) 0 k i l ∙ bit_above 0 i (pow_pos 0) (omega arith)

  kept_out : (i : ℕ) → k ≤ i → bit kept i ≡ bit (rotated s m) i
  unfolding kept
  kept_out i l =
      let j = i - k in
      let e : i ≡ k + j = omega arith in
      ap₂ bit (sym (add-zero _)) e ∙ bit_high (rotated s m / 2 ^ k) k j (pow_pos k) ∙ bit_shr (rotated s m) k j ∙ ap (bit (rotated s m)) (sym e)

  pub without_lt : without s k m < 2 ^ 256
  unfolding without kept
  without_lt = rotated_lt (256 - s % 256) kept kept_lt

  -- round from s it reads as the map does, with the k lowest digits clear
  pub without_read : rotated s (without s k m) ≡ rotated s m / 2 ^ k * 2 ^ k
  unfolding without kept
  without_read = rotated_laid s kept kept_lt

  pub without_in : (i : ℕ) → i < 256 → i < k → bit (without s k m) ((s + i) % 256) ≡ 0
  unfolding kept
  without_in i l b = sym (rotated_bit s (without s k m) without_lt i l) ∙ ap (λ (x : ℕ). bit x i) without_read ∙ kept_in i b

  pub without_out : (i : ℕ) → i < 256 → k ≤ i → bit (without s k m) ((s + i) % 256) ≡ bit m ((s + i) % 256)
  unfolding kept
  without_out i l b =
      sym (rotated_bit s (without s k m) without_lt i l) ∙ ap (λ (x : ℕ). bit x i) without_read ∙ kept_out i b ∙ rotated_bit s m h i l

-- the two laws fix the map
pub without_is : (s k m r : ℕ) → m < 2 ^ 256 → r < 2 ^ 256
    → ((i : ℕ) → i < 256 → i < k → bit r ((s + i) % 256) ≡ 0)
    → ((i : ℕ) → i < 256 → k ≤ i → bit r ((s + i) % 256) ≡ bit m ((s + i) % 256))
    → r ≡ without s k m
without_is s k m r hm hr clear keep =
    rotated_ext s r (without s k m) hr (without_lt s k m hm)
    (λ i l. elim (dec_lt i k) [
      | yes b ↦ clear i l b ∙ sym (without_in s k m hm i l b)
      | no b ↦ keep i l (omega arith) ∙ sym (without_out s k m hm i l (omega arith))
    ])

-- read from behind the stretch, what is left is what was read from s, shifted down
module _ (s k m : ℕ) (h : m < 2 ^ 256) (most : k ≤ 256) where
  down : ℕ
  down = rotated s m / 2 ^ k

  down_lt : down < 2 ^ 256
  unfolding down
  down_lt = lt_of_le_of_lt (shr_le (rotated s m) k) (rotated_lt s m h)

  -- digit j of it, at its place
  down_bit : (i j : ℕ) → j < 256 → (k + j) % 256 ≡ i % 256 → bit (laid (s + k) down) ((s + i) % 256) ≡ bit (rotated s m) (k + j)
  unfolding down
  down_bit i j b e =
      let g : (s + k + j) % 256 ≡ (s + i) % 256 = omega arith in
      ap (bit (laid (s + k) down)) (sym g) ∙ sym (rotated_bit (s + k) (laid (s + k) down) (rotated_lt (256 - (s + k) % 256) down down_lt) j b)
      ∙ ap (λ (x : ℕ). bit x j) (rotated_laid (s + k) down down_lt) ∙ bit_shr (rotated s m) k j

  pub without_down : without s k m ≡ laid (s + k) (rotated s m / 2 ^ k)
  unfolding down
  without_down = sym (without_is s k m (laid (s + k) down) h (rotated_lt (256 - (s + k) % 256) down down_lt) clear keep)
    where
      clear : (i : ℕ) → i < 256 → i < k → bit (laid (s + k) down) ((s + i) % 256) ≡ 0
      clear i l b = down_bit i (i + (256 - k)) (omega arith) (omega arith) ∙ bit_above 256 (k + (i + (256 - k))) (rotated_lt s m h) (omega arith)

      keep : (i : ℕ) → i < 256 → k ≤ i → bit (laid (s + k) down) ((s + i) % 256) ≡ bit m ((s + i) % 256)
      keep i l b =
          let e : k + (i - k) ≡ i = omega arith in
          down_bit i (i - k) (omega arith) (omega arith) ∙ ap (bit (rotated s m)) e ∙ rotated_bit s m h i l

-- the k places from s alone
module _ (s k m : ℕ) (h : m < 2 ^ 256) where
  pub only_lt : only s k m < 2 ^ 256
  unfolding only
  only_lt = rotated_lt (256 - s % 256) _ (lt_of_le_of_lt (mod-le (rotated s m) (2 ^ k)) (rotated_lt s m h))

  pub only_read : rotated s (only s k m) ≡ rotated s m % 2 ^ k
  unfolding only
  only_read = rotated_laid s _ (lt_of_le_of_lt (mod-le (rotated s m) (2 ^ k)) (rotated_lt s m h))

  only_at : (i : ℕ) → i < 256 → bit (only s k m) ((s + i) % 256) ≡ bit (rotated s m % 2 ^ k) i
  only_at i l = sym (rotated_bit s (only s k m) only_lt i l) ∙ ap (λ (x : ℕ). bit x i) only_read

  pub only_in : (i : ℕ) → i < 256 → i < k → bit (only s k m) ((s + i) % 256) ≡ bit m ((s + i) % 256)
  only_in i l b = only_at i l ∙ bit_mod (rotated s m) k i b ∙ rotated_bit s m h i l

  pub only_out : (i : ℕ) → i < 256 → k ≤ i → bit (only s k m) ((s + i) % 256) ≡ 0
  only_out i l b = only_at i l ∙ bit_above k i (mod-lt _ (pow_pos k)) b

  -- the two laws fix it
  pub only_is : (r : ℕ) → r < 2 ^ 256
      → ((i : ℕ) → i < 256 → i < k → bit r ((s + i) % 256) ≡ bit m ((s + i) % 256))
      → ((i : ℕ) → i < 256 → k ≤ i → bit r ((s + i) % 256) ≡ 0)
      → r ≡ only s k m
  only_is r hr keep clear =
      rotated_ext s r (only s k m) hr only_lt
      (λ i l. elim (dec_lt i k) [
        | yes b ↦ keep i l b ∙ sym (only_in i l b)
        | no b ↦ clear i l (omega arith) ∙ sym (only_out i l (omega arith))
      ])
