-- The number whose w lowest digits are set, and its complement. Assumes nothing.
use mathlib.Core.Path.{◌≡◌, refl, sym, ap, ap₂, ◌∙◌, subst}
use mathlib.Core.Bool.{not}
use Prim.Native.Nat.{ℕ, zero, suc, ◌+◌, ◌-◌, ◌*◌, ◌/◌, ◌%◌, ◌^◌, ◌<◌}
use native.Mathlib.Nat.{le_dest, pow-suc, mod-lt}
use native.Mathlib.Omega.{arith}
use lib.Dec.{eqb}
use lib.Pow.{split, pow_pos, shr_lt, high, ones_split}
use Rattle.tick_map.specs.Bits.{bit}
use Rattle.tick_map.proofs.Laws.{not_parts}

mask_odd : (t : ℕ) → (2 ^ suc t - 1) % 2 ≡ 1
mask_odd t = let e : 2 ^ suc t ≡ 2 ^ t * 2 = pow-suc 2 t in let p : 0 < 2 ^ t = pow_pos t in omega arith

pub mask_bit : (s i : ℕ) → i < s → bit (2 ^ s - 1) i ≡ 1
mask_bit s i h =
    let d = le_dest h in
    let e : s ≡ suc d.0 + i = omega (arith, d.1) in
    let lt : 2 ^ i - 1 < 2 ^ i = (let p : 0 < 2 ^ i = pow_pos i in omega arith) in
    ap (λ (x : ℕ). (2 ^ x - 1) / 2 ^ i % 2) e
    ∙ ap (λ (x : ℕ). x / 2 ^ i % 2) (ones_split (suc d.0) i)
    ∙ ap (λ (x : ℕ). x % 2) (high (2 ^ suc d.0 - 1) i lt) ∙ mask_odd d.0

-- a digit turned
not_odd : (t a : ℕ) → a < 2 ^ suc t → ((2 ^ suc t - 1) - a) % 2 ≡ 1 - a % 2
not_odd t a h = let e : 2 ^ suc t ≡ 2 ^ t * 2 = pow-suc 2 t in omega arith

pub bit_not : (s i m : ℕ) → m < 2 ^ s → i < s → bit ((2 ^ s - 1) - m) i ≡ 1 - bit m i
bit_not s i m h l =
    let d = le_dest l in
    let e : s ≡ suc d.0 + i = omega (arith, d.1) in
    let low : m % 2 ^ i < 2 ^ i = mod-lt _ (pow_pos i) in
    let lt : (2 ^ i - 1) - m % 2 ^ i < 2 ^ i = omega arith in
    let up : m / 2 ^ i < 2 ^ suc d.0 = shr_lt (suc d.0) i (subst (λ (x : ℕ). m < 2 ^ x) e h) in
    let parts : m ≡ (m / 2 ^ i) * 2 ^ i + m % 2 ^ i = sym (split m i) in
    ap₂ (λ (x y : ℕ). ((2 ^ x - 1) - y) / 2 ^ i % 2) e parts
    ∙ ap (λ (x : ℕ). x / 2 ^ i % 2) (not_parts (suc d.0) i up low)
    ∙ ap (λ (x : ℕ). x % 2) (high ((2 ^ suc d.0 - 1) - m / 2 ^ i) i lt) ∙ not_odd d.0 (m / 2 ^ i) up

pub flip : (d : ℕ) → d < 2 → eqb (1 - d) 1 ≡ not (eqb d 1)
flip zero h = refl
flip (suc zero) h = refl
flip (suc (suc d)) h = absurd (over h)
  where
    over : suc (suc d) < 2 → ⊥
    over q = omega arith
