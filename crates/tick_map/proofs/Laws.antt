-- Laws of digits that `lib.Count`, `lib.Bits` and `lib.Pow` lack: digits of a number in two parts,
-- runs and complements. Assumes nothing.
use mathlib.Core.Path.{◌≡◌, refl, sym, ap, ap₂, ◌∙◌, subst}
use mathlib.Core.Logic.{◌⊎◌, inl, inr}
use Prim.Native.Nat.{ℕ, zero, suc, ◌+◌, ◌-◌, ◌*◌, ◌/◌, ◌%◌, ◌^◌, ◌≤◌, ◌<◌, zero-le, suc-le-suc}
use native.Mathlib.Nat.{le_of_suc-le-suc, not-suc-le-zero, le_of_eq, le_trans, add-sub_cancel, add-sub_cancel_left, zero-lt-suc, add-zero, add_comm, mul_assoc, mul_comm, mul-add-div_right, mod-lt, pow-suc, le_dest, div-add-mod', zero-mul, div-eq_of_lt}
use native.Mathlib.Omega.{arith}
use native.Mathlib.Numerals.{add-one}
use lib.Arith.{digits_div, digits_mod}
use lib.Pow.{pow_pos, pow-lt, pow-add, shr-shr, high, low, split, ones_split, le_ones}
use lib.Bits.{bit_or, block_odd, or_block, or_zero_r}
use lib.Count.{under, count_trailing_zeros}
use Rattle.tick_map.specs.Bits.{bit, onward, run}

-- ---- a digit of a number in two parts

-- the number divided below its low part
pub shr_low : (a r j i : ℕ) → (a * 2 ^ (j + i) + r) / 2 ^ i ≡ a * 2 ^ j + r / 2 ^ i
shr_low a r j i =
    ap (λ (x : ℕ). (a * x + r) / 2 ^ i) (pow-add 2 j i) ∙ ap (λ (x : ℕ). (x + r) / 2 ^ i) (sym (mul_assoc a (2 ^ j) (2 ^ i)))
    ∙ mul-add-div_right (pow_pos i) (a * 2 ^ j) r

-- and at or above it
pub shr_high : (a k i : ℕ) {r : ℕ} → r < 2 ^ k → (a * 2 ^ k + r) / 2 ^ (k + i) ≡ a / 2 ^ i
shr_high a k i {r} h = sym (shr-shr (a * 2 ^ k + r) k i) ∙ ap (λ (x : ℕ). x / 2 ^ i) (high a k h)

pub bit_low : (a r k i : ℕ) → i < k → bit (a * 2 ^ k + r) i ≡ bit r i
bit_low a r k i h =
    let d = le_dest h in
    let e : k ≡ suc d.0 + i = omega (arith, d.1) in
    ap (λ (x : ℕ). bit (a * 2 ^ x + r) i) e ∙ ap (λ (x : ℕ). x % 2) (shr_low a r (suc d.0) i) ∙ block_odd a d.0 (r / 2 ^ i)

pub bit_high : (a k i : ℕ) {r : ℕ} → r < 2 ^ k → bit (a * 2 ^ k + r) (k + i) ≡ bit a i
bit_high a k i h = ap (λ (x : ℕ). x % 2) (shr_high a k i h)

-- a number without digits from k on is below 2 ^ k
pub lt_of_shr : (v k : ℕ) → v / 2 ^ k ≡ 0 → v < 2 ^ k
lt_of_shr v k e = let t : v / 2 ^ k * 2 ^ k ≡ 0 = ap (λ (x : ℕ). x * 2 ^ k) e ∙ zero-mul (2 ^ k) in omega (arith, split v k, mod-lt v (pow_pos k))

pub parts_lt : {a r : ℕ} (j k : ℕ) → a < 2 ^ j → r < 2 ^ k → a * 2 ^ k + r < 2 ^ (j + k)
parts_lt {a} {r} j k p q =
    subst (λ (x : ℕ). a * 2 ^ k + r < 2 ^ x) (add_comm k j) (lt_of_shr (a * 2 ^ k + r) (k + j) (shr_high a k j q ∙ div-eq_of_lt p))

-- ---- a scan of digits

pub half_lt : {n : ℕ} (k : ℕ) → n < 2 ^ suc k → n / 2 < 2 ^ k
half_lt {n} k h = let e : 2 ^ suc k ≡ 2 ^ k * 2 = pow-suc 2 k in omega arith

-- A scan counts digits from the lowest up until one stops it: `f d t` is `suc t` at a digit d that
-- goes on, and zero at one that stops. `count_trailing_zeros` and `run` are the two scans.
module _ (f : ℕ → ℕ → ℕ) (s : ℕ → ℕ → ℕ) (s-zero : (m : ℕ) → s zero m ≡ zero) (s-suc : (k m : ℕ) → s (suc k) m ≡ f (m % 2) (s k (m / 2)))
    (f-is : (d : ℕ) → ((t : ℕ) → f d t ≡ suc t) ⊎ ((t : ℕ) → f d t ≡ zero)) where
  -- what a scan says of each digit
  pub scan_le : (k m : ℕ) → s k m ≤ k
  scan_le zero m = le_of_eq (s-zero m)
  scan_le (suc k) m =
      le_trans (le_of_eq (s-suc k m))
      (elim (f-is (m % 2)) [ inl on ↦ le_trans (le_of_eq (on _)) (suc-le-suc (scan_le k (m / 2))) | inr off ↦ le_trans (le_of_eq (off _)) zero-le ])

pub onward_is : (d : ℕ) → ((t : ℕ) → onward d t ≡ suc t) ⊎ ((t : ℕ) → onward d t ≡ zero)
onward_is zero = inr (λ t. refl)
onward_is (suc d) = inl (λ t. refl)

pub run_le : (k m : ℕ) → run k m ≤ k
unfolding run
run_le = scan_le onward run (λ m. refl) (λ k m. refl) onward_is

-- ---- the complement: a run of set digits is a run of zeros there

-- the complement of a number in two parts
pub not_parts : {a r : ℕ} (j k : ℕ) → a < 2 ^ j → r < 2 ^ k → (2 ^ (j + k) - 1) - (a * 2 ^ k + r) ≡ ((2 ^ j - 1) - a) * 2 ^ k + ((2 ^ k - 1) - r)
not_parts {a} {r} j k ha hr =
    let u = le_dest (le_ones j ha) in
    let v = le_dest (le_ones k hr) in
    let e : 2 ^ (j + k) - 1 ≡ (u.0 * 2 ^ k + v.0) + (a * 2 ^ k + r) =
    ones_split j k ∙ ap₂ (λ (x y : ℕ). x * 2 ^ k + y) (sym u.1) (sym v.1) ∙ omega arith in
    let p : (2 ^ j - 1) - a ≡ u.0 = ap (λ (x : ℕ). x - a) (sym u.1) ∙ add-sub_cancel_left a u.0 in
    let q : (2 ^ k - 1) - r ≡ v.0 = ap (λ (x : ℕ). x - r) (sym v.1) ∙ add-sub_cancel_left r v.0 in
    ap (λ (x : ℕ). x - (a * 2 ^ k + r)) e ∙ add-sub_cancel _ _ ∙ ap₂ (λ (x y : ℕ). x * 2 ^ k + y) (sym p) (sym q)

flip : (d t : ℕ) → d < 2 → under (1 - d) t ≡ onward d t
flip zero t h = refl
flip (suc zero) t h = refl
flip (suc (suc d)) t h = absurd (not-suc-le-zero (le_of_suc-le-suc (le_of_suc-le-suc h)))

pub trailing_not : (k m : ℕ) → m < 2 ^ k → count_trailing_zeros k ((2 ^ k - 1) - m) ≡ run k m
unfolding count_trailing_zeros run
trailing_not zero m h = refl
trailing_not (suc k) m h =
    let parts : (2 ^ suc k - 1) - m ≡ ((2 ^ k - 1) - m / 2) * 2 + (1 - m % 2) =
    ap₂ (λ (x y : ℕ). (2 ^ x - 1) - y) (sym (add-one k)) (sym (div-add-mod' m 2)) ∙ not_parts k 1 (half_lt k h) (mod-lt m (zero-lt-suc 1)) in
    let b : 1 - m % 2 < 2 = omega arith in
    ap₂ (λ (x y : ℕ). under x (count_trailing_zeros k y))
    (ap (λ (x : ℕ). x % 2) parts ∙ digits_mod ((2 ^ k - 1) - m / 2) b)
    (ap (λ (x : ℕ). x / 2) parts ∙ digits_div ((2 ^ k - 1) - m / 2) b)
    ∙ ap (under (1 - m % 2)) (trailing_not k (m / 2) (half_lt k h))
    ∙ flip (m % 2) (run k (m / 2)) (mod-lt m (zero-lt-suc 1))

-- ---- one digit more, in either part

pub or_low : (a k i : ℕ) {r : ℕ} → r < 2 ^ k → i < k → bit_or (a * 2 ^ k + r) (2 ^ i) ≡ a * 2 ^ k + bit_or r (2 ^ i)
or_low a k i {r} h l =
    let z : 2 ^ i ≡ 0 * 2 ^ k + 2 ^ i = omega arith in
    ap (bit_or (a * 2 ^ k + r)) z ∙ or_block k a 0 r (2 ^ i) h (pow-lt l)
    ∙ ap (λ (x : ℕ). x * 2 ^ k + bit_or r (2 ^ i)) (or_zero_r a)

pub or_high : (a k i : ℕ) {r : ℕ} → r < 2 ^ k → bit_or (a * 2 ^ k + r) (2 ^ (k + i)) ≡ bit_or a (2 ^ i) * 2 ^ k + r
or_high a k i {r} h =
    let z : 2 ^ (k + i) ≡ 2 ^ i * 2 ^ k + 0 = pow-add 2 k i ∙ mul_comm (2 ^ k) (2 ^ i) ∙ sym (add-zero _) in
    ap (bit_or (a * 2 ^ k + r)) z ∙ or_block k a (2 ^ i) r 0 h (pow_pos k)
    ∙ ap (λ (x : ℕ). bit_or a (2 ^ i) * 2 ^ k + x) (or_zero_r r)

-- a digit beyond the k low ones leaves them
pub or_beyond : (k i : ℕ) {m : ℕ} → m < 2 ^ k → k ≤ i → bit_or m (2 ^ i) % 2 ^ k ≡ m
or_beyond k i {m} h l =
    let d = le_dest l in
    let z : m ≡ 0 * 2 ^ k + m = omega arith in
    ap₂ (λ (x y : ℕ). bit_or x (2 ^ y) % 2 ^ k) z (sym d.1) ∙ ap (λ (x : ℕ). x % 2 ^ k) (or_high 0 k d.0 h) ∙ low (bit_or 0 (2 ^ d.0)) k h
