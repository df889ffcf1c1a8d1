-- One bit of a word set or cleared: that bit, and the others. Assumes nothing.
use mathlib.Core.Path.{◌≡◌, ap, ◌∙◌}
use mathlib.Core.Bool.{Bool, true, false}
use Prim.Native.Nat.{ℕ, ◌-◌, ◌/◌, ◌%◌, ◌^◌, ◌<◌, min}
use native.Mathlib.Nat.{lt_of_le_of_lt}
use native.Mathlib.Omega.{arith}
use lib.Bits.{bit_and, and_shr, and_step, and_le_l, or_lt}
use lib.Dec.{eqb}
use lib.Arith.{digits_mod}
use lib.Pow.{pow-lt}
use Rattle.tick_map.specs.Bits.{bit, is_set}
use Rattle.tick_map.proofs.Digits.{bit_lt, bit_pow_same, bit_pow_other, bit_set_same, bit_set_other}
use Rattle.ledger_spec.proofs.Masks.{bit_not}
use Rattle.channels.specs.Index.{with_bit}

min_lt : (x y : ℕ) → x < 2 → y < 2 → min x y < 2
min_lt x y h l = omega arith

bit_and_lem : (a b i : ℕ) → bit (bit_and a b) i ≡ min (bit a i) (bit b i)
bit_and_lem a b i =
    ap (λ (x : ℕ). x % 2) (and_shr a b i ∙ and_step (a / 2 ^ i) (b / 2 ^ i))
    ∙ digits_mod (bit_and (a / 2 ^ i / 2) (b / 2 ^ i / 2)) (min_lt (bit a i) (bit b i) (bit_lt a i) (bit_lt b i))

pub with_here : (on : Bool) (w i : ℕ) → i < 64 → is_set (with_bit on w i) i ≡ on
with_here true w i h = ap (λ (d : ℕ). eqb d 1) (bit_set_same w i)
with_here false w i h =
    let e : bit ((2 ^ 64 - 1) - 2 ^ i) i ≡ 0 = bit_not 64 i (2 ^ i) (pow-lt h) h ∙ ap (λ (x : ℕ). 1 - x) (bit_pow_same i) in
    ap (λ (d : ℕ). eqb d 1) (bit_and_lem w ((2 ^ 64 - 1) - 2 ^ i) i ∙ lowest _ _ e)
  where
    lowest : (x y : ℕ) → y ≡ 0 → min x y ≡ 0
    lowest x y e = omega arith

pub with_else : (on : Bool) (w i j : ℕ) → i < 64 → j < 64 → (j ≡ i → ⊥) → is_set (with_bit on w i) j ≡ is_set w j
with_else true w i j h l n = ap (λ (d : ℕ). eqb d 1) (bit_set_other w i j n)
with_else false w i j h l n =
    let e : bit ((2 ^ 64 - 1) - 2 ^ i) j ≡ 1 = bit_not 64 j (2 ^ i) (pow-lt h) l ∙ ap (λ (x : ℕ). 1 - x) (bit_pow_other i j n) in
    ap (λ (d : ℕ). eqb d 1) (bit_and_lem w ((2 ^ 64 - 1) - 2 ^ i) j ∙ lower _ _ e (bit_lt w j))
  where
    lower : (x y : ℕ) → y ≡ 1 → x < 2 → min x y ≡ x
    lower x y e g = omega arith

pub with_lt : (on : Bool) (w i : ℕ) → w < 2 ^ 32 → i < 32 → with_bit on w i < 2 ^ 32
with_lt true w i h l = or_lt 32 w (2 ^ i) h (pow-lt l)
with_lt false w i h l = lt_of_le_of_lt (and_le_l w ((2 ^ 64 - 1) - 2 ^ i)) h
