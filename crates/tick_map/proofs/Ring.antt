-- A map whose places do not move, read round from a place: its digits, its count, its scans.
-- Assumes nothing.
use mathlib.Core.Path.{◌≡◌, sym, ap, ◌∙◌, subst}
use Prim.Native.Nat.{ℕ, ◌+◌, ◌-◌, ◌*◌, ◌/◌, ◌%◌, ◌^◌, ◌≤◌, ◌<◌}
use native.Mathlib.Nat.{mod-lt}
use native.Mathlib.Decide.{dec_lt}
use native.Mathlib.Omega.{arith}
use lib.Arith.{digits_lt}
use lib.Count.{ones, ones_cat}
use lib.Pow.{split, shr_lt, pow_pos, pow-add}
use Rattle.tick_map.specs.Bits.{bit}
use Rattle.tick_map.specs.Ring.{rotated}
use Rattle.tick_map.proofs.Laws.{bit_low, bit_high}
use Rattle.tick_map.proofs.Digits.{bit_shr}

-- the low digits alone
pub bit_mod : (m k i : ℕ) → i < k → bit (m % 2 ^ k) i ≡ bit m i
bit_mod m k i h = sym (ap (λ (x : ℕ). bit x i) (sym (split m k)) ∙ bit_low (m / 2 ^ k) (m % 2 ^ k) k i h)

-- ---- digits read round

module _ (s m : ℕ) (hm : m < 2 ^ 256) where
  pub top_lt : m / 2 ^ (s % 256) < 2 ^ (256 - s % 256)
  top_lt =
      let width : 256 - s % 256 + s % 256 ≡ 256 = omega arith in
      shr_lt (256 - s % 256) (s % 256) (subst (λ (x : ℕ). m < 2 ^ x) (sym width) hm)

  pub rotated_lt : rotated s m < 2 ^ 256
  unfolding rotated
  rotated_lt =
      let e : s % 256 + (256 - s % 256) ≡ 256 = omega arith in
      subst (λ (x : ℕ). (m % 2 ^ (s % 256)) * 2 ^ (256 - s % 256) + m / 2 ^ (s % 256) < 2 ^ x) e
      (subst (λ (x : ℕ). (m % 2 ^ (s % 256)) * 2 ^ (256 - s % 256) + m / 2 ^ (s % 256) < x) (sym (pow-add 2 (s % 256) (256 - s % 256)))
      (digits_lt (mod-lt m (pow_pos (s % 256))) top_lt))

  -- digit i stands at place s + i, counted round
  pub rotated_bit : (i : ℕ) → i < 256 → bit (rotated s m) i ≡ bit m ((s + i) % 256)
  unfolding rotated
  rotated_bit i h = elim (dec_lt i (256 - s % 256)) [ yes l ↦ before l | no g ↦ round (omega arith) ]
    where
      before : i < 256 - s % 256 → bit ((m % 2 ^ (s % 256)) * 2 ^ (256 - s % 256) + m / 2 ^ (s % 256)) i ≡ bit m ((s + i) % 256)
      before l =
          let e : s % 256 + i ≡ (s + i) % 256 = omega arith in
          bit_low (m % 2 ^ (s % 256)) (m / 2 ^ (s % 256)) (256 - s % 256) i l ∙ bit_shr m (s % 256) i ∙ ap (bit m) e

      round : 256 - s % 256 ≤ i → bit ((m % 2 ^ (s % 256)) * 2 ^ (256 - s % 256) + m / 2 ^ (s % 256)) i ≡ bit m ((s + i) % 256)
      round l =
          let j = i - (256 - s % 256) in
          let e : i ≡ 256 - s % 256 + j = omega arith in
          let g : j ≡ (s + i) % 256 = omega arith in
          let b : j < s % 256 = omega arith in
          ap (bit ((m % 2 ^ (s % 256)) * 2 ^ (256 - s % 256) + m / 2 ^ (s % 256))) e ∙ bit_high (m % 2 ^ (s % 256)) (256 - s % 256) j top_lt
          ∙ bit_mod m (s % 256) j b ∙ ap (bit m) g

  -- the count does not change
  pub rotated_ones : ones (rotated s m) ≡ ones m
  unfolding rotated
  rotated_ones =
      omega (arith, ones_cat (256 - s % 256) (m % 2 ^ (s % 256)) (m / 2 ^ (s % 256)) top_lt, ones_cat (s % 256) (m / 2 ^ (s % 256)) (m % 2 ^ (s % 256)) (mod-lt m (pow_pos (s % 256))), ap ones (split m (s % 256)))
