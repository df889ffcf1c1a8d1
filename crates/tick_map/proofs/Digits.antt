-- Digits one by one: what `bit_or`, a shift, a run, the trailing zeros and a count say of each
-- digit. Assumes nothing.
use mathlib.Core.Path.{◌≡◌, refl, sym, ap, ap₂, ◌∙◌, subst}
use mathlib.Core.Logic.{◌⊎◌, inl, inr}
use Prim.Native.Nat.{ℕ, zero, suc, ◌+◌, ◌-◌, ◌*◌, ◌/◌, ◌%◌, ◌^◌, ◌≤◌, ◌<◌, suc-le-suc, min, max}
use native.Mathlib.Nat.{add-zero, lt_of_lt_of_le, suc-add, add_assoc, le_of_suc-le-suc, not-suc-le-zero, zero-lt-suc, zero-add, mod-lt, div-one, div_self, div-eq_of_lt, div-add-mod', pow-suc, le_dest, mul-mod_left, lt_of_le_of_lt}
use native.Mathlib.Decide.{dec_lt}
use native.Mathlib.Omega.{arith}
use native.Mathlib.Numerals.{one-add}
use lib.Arith.{lt-one, digits_mod}
use lib.Pow.{pow_pos, pow_mono, pow-lt, pow-add, shr-shr, shl-shr, shr_le, ones_split, ones_lt}
use lib.Bits.{differ, bit_and, bit_or, bit_xor, and_shr, and_step, or_shr, or_step, xor_shr, xor_step}
use lib.Count.{under, count_trailing_zeros, ones, ones_step}
use Rattle.tick_map.specs.Bits.{bit, onward, run, tally}
use Rattle.tick_map.proofs.Laws.{half_lt, lt_of_shr, bit_high}

two_pos : zero < 2
two_pos = zero-lt-suc 1

pub bit_lt : (m i : ℕ) → bit m i < 2
bit_lt m i = mod-lt (m / 2 ^ i) two_pos

pub bit_zero : (m : ℕ) → bit m 0 ≡ m % 2
bit_zero m = ap (λ (x : ℕ). x % 2) (div-one m)

pub bit_shr : (m k i : ℕ) → bit (m / 2 ^ k) i ≡ bit m (k + i)
bit_shr m k i = ap (λ (x : ℕ). x % 2) (shr-shr m k i)

pub bit_suc : (m i : ℕ) → bit m (suc i) ≡ bit (m / 2) i
bit_suc m i = ap (bit m) (sym (one-add i)) ∙ sym (bit_shr m 1 i)

-- ---- one number by its digits

pub bit_ext : (k a b : ℕ) → a < 2 ^ k → b < 2 ^ k → ((i : ℕ) → i < k → bit a i ≡ bit b i) → a ≡ b
bit_ext zero a b ha hb f = lt-one ha ∙ sym (lt-one hb)
bit_ext (suc k) a b ha hb f =
    sym (div-add-mod' a 2)
    ∙ ap₂ (λ (x y : ℕ). x * 2 + y)
    (bit_ext k (a / 2) (b / 2) (half_lt k ha) (half_lt k hb) (λ i h. sym (bit_suc a i) ∙ f (suc i) (suc-le-suc h) ∙ bit_suc b i))
    (sym (bit_zero a) ∙ f 0 (zero-lt-suc k) ∙ bit_zero b)
    ∙ div-add-mod' b 2

-- no digit is set at or above a number's length
pub bit_above : {m : ℕ} (k i : ℕ) → m < 2 ^ k → k ≤ i → bit m i ≡ 0
bit_above {m} k i h l = ap (λ (x : ℕ). x % 2) (div-eq_of_lt (lt_of_lt_of_le h (pow_mono l)))

-- a number whose digits from j on are all clear is below 2 ^ j
pub lt_of_clear : (m k j : ℕ) → m < 2 ^ k → ((i : ℕ) → j ≤ i → bit m i ≡ 0) → m < 2 ^ j
lt_of_clear m k j h f =
    lt_of_shr m j
    (bit_ext k (m / 2 ^ j) 0 (lt_of_le_of_lt (shr_le m j) h) (pow_pos k)
    (λ i l. bit_shr m j i ∙ f (j + i) (omega arith) ∙ sym (bit_above 0 i (pow_pos 0) (omega arith))))

-- ---- `bit_or`

max_lt : (x y : ℕ) → x < 2 → y < 2 → max x y < 2
max_lt x y h l = omega arith

pub bit_or_lem : (a b i : ℕ) → bit (bit_or a b) i ≡ max (bit a i) (bit b i)
bit_or_lem a b i =
    ap (λ (x : ℕ). x % 2) (or_shr a b i ∙ or_step (a / 2 ^ i) (b / 2 ^ i))
    ∙ digits_mod (bit_or (a / 2 ^ i / 2) (b / 2 ^ i / 2)) (max_lt (bit a i) (bit b i) (bit_lt a i) (bit_lt b i))

-- ---- `bit_and`, `bit_xor`, and a number whose low digits are all set

min_lt : (x y : ℕ) → x < 2 → y < 2 → min x y < 2
min_lt x y h l = omega arith

pub bit_and_lem : (a b i : ℕ) → bit (bit_and a b) i ≡ min (bit a i) (bit b i)
bit_and_lem a b i =
    ap (λ (x : ℕ). x % 2) (and_shr a b i ∙ and_step (a / 2 ^ i) (b / 2 ^ i))
    ∙ digits_mod (bit_and (a / 2 ^ i / 2) (b / 2 ^ i / 2)) (min_lt (bit a i) (bit b i) (bit_lt a i) (bit_lt b i))

differ_lt : (x y : ℕ) → x < 2 → y < 2 → differ x y < 2
differ_lt zero y h l = l
differ_lt (suc x) zero h l = h
differ_lt (suc x) (suc y) h l = differ_lt x y (omega arith) (omega arith)

pub bit_xor_lem : (a b i : ℕ) → bit (bit_xor a b) i ≡ differ (bit a i) (bit b i)
bit_xor_lem a b i =
    ap (λ (x : ℕ). x % 2) (xor_shr a b i ∙ xor_step (a / 2 ^ i) (b / 2 ^ i))
    ∙ digits_mod (bit_xor (a / 2 ^ i / 2) (b / 2 ^ i / 2)) (differ_lt (bit a i) (bit b i) (bit_lt a i) (bit_lt b i))

pub bit_none : (i : ℕ) → bit 0 i ≡ 0
bit_none i = bit_above 0 i (pow_pos 0) (omega arith)

pub bit_all : (k i : ℕ) → i < k → bit (2 ^ k - 1) i ≡ 1
bit_all k i h =
    let d = le_dest h in
    let e : k ≡ suc d.0 + i = omega (arith, d.1) in
    ap (λ (x : ℕ). bit (2 ^ x - 1) i) e ∙ ap₂ bit (ones_split (suc d.0) i) (sym (add-zero i))
    ∙ bit_high (2 ^ suc d.0 - 1) i 0 (ones_lt i) ∙ bit_zero (2 ^ suc d.0 - 1) ∙ odd d.0
  where
    odd : (n : ℕ) → (2 ^ suc n - 1) % 2 ≡ 1
    odd n = omega (arith, pow-suc 2 n, pow_pos n)

pub bit_all_out : (k i : ℕ) → k ≤ i → bit (2 ^ k - 1) i ≡ 0
bit_all_out k i h = bit_above k i (ones_lt k) h

pub bit_pow_same : (i : ℕ) → bit (2 ^ i) i ≡ 1
bit_pow_same i = ap (λ (x : ℕ). x % 2) (div_self (pow_pos i))

pub bit_pow_other : (i j : ℕ) → (j ≡ i → ⊥) → bit (2 ^ i) j ≡ 0
bit_pow_other i j n = elim (dec_lt j i) [ yes l ↦ below l | no g ↦ above (omega arith) ]
  where
    above : i < j → bit (2 ^ i) j ≡ 0
    above h = ap (λ (x : ℕ). x % 2) (div-eq_of_lt (pow-lt h))

    below : j < i → bit (2 ^ i) j ≡ 0
    below h =
        let d = le_dest h in
        let e : i ≡ suc d.0 + j = omega (arith, d.1) in
        ap (λ (x : ℕ). x / 2 ^ j % 2) (ap (λ (x : ℕ). 2 ^ x) e ∙ pow-add 2 (suc d.0) j)
        ∙ ap (λ (x : ℕ). x % 2) (shl-shr (2 ^ suc d.0) j ∙ pow-suc 2 d.0) ∙ mul-mod_left (2 ^ d.0) 2

pub bit_set_same : (m i : ℕ) → bit (bit_or m (2 ^ i)) i ≡ 1
bit_set_same m i = bit_or_lem m (2 ^ i) i ∙ omega (arith, bit_pow_same i, bit_lt m i)

pub bit_set_other : (m i j : ℕ) → (j ≡ i → ⊥) → bit (bit_or m (2 ^ i)) j ≡ bit m j
bit_set_other m i j n = bit_or_lem m (2 ^ i) j ∙ omega (arith, bit_pow_other i j n)

-- ---- a scan: every digit that it passes has the value that goes on, and the one where it
-- stops has not
module _ (on : ℕ) (f s : ℕ → ℕ → ℕ) (s-zero : (m : ℕ) → s zero m ≡ zero) (s-suc : (k m : ℕ) → s (suc k) m ≡ f (m % 2) (s k (m / 2)))
    (f-is : (d : ℕ) → d < 2 → ((d ≡ on) × ((t : ℕ) → f d t ≡ suc t)) ⊎ ((d ≡ 1 - on) × ((t : ℕ) → f d t ≡ zero))) where
  pub scan_passed : (k m i : ℕ) → i < s k m → bit m i ≡ on
  scan_passed zero m i h = absurd (not-suc-le-zero (subst (λ (x : ℕ). i < x) (s-zero m) h))
  scan_passed (suc k) m zero h =
      elim (f-is (m % 2) (mod-lt m two_pos)) [
        | inl p ↦ bit_zero m ∙ p.0
        | inr p ↦ absurd (not-suc-le-zero (subst (λ (x : ℕ). 0 < x) (s-suc k m ∙ p.1 _) h))
      ]
  scan_passed (suc k) m (suc i) h =
      elim (f-is (m % 2) (mod-lt m two_pos)) [
        | inl p ↦ bit_suc m i ∙ scan_passed k (m / 2) i (le_of_suc-le-suc (subst (λ (x : ℕ). suc i < x) (s-suc k m ∙ p.1 _) h))
        | inr p ↦ absurd (not-suc-le-zero (subst (λ (x : ℕ). suc i < x) (s-suc k m ∙ p.1 _) h))
      ]

  pub scan_stopped : (k m : ℕ) → s k m < k → bit m (s k m) ≡ 1 - on
  scan_stopped zero m h = absurd (not-suc-le-zero h)
  scan_stopped (suc k) m h =
      elim (f-is (m % 2) (mod-lt m two_pos)) [
        | inl p ↦ ap (bit m) (s-suc k m ∙ p.1 _) ∙ bit_suc m _ ∙ scan_stopped k (m / 2) (le_of_suc-le-suc (subst (λ (x : ℕ). x < suc k) (s-suc k m ∙ p.1 _) h))
        | inr p ↦ ap (bit m) (s-suc k m ∙ p.1 _) ∙ bit_zero m ∙ p.0
      ]

over_two : (d : ℕ) → suc (suc d) < 2 → ⊥
over_two d h = omega arith

under_is : (d : ℕ) → d < 2 → ((d ≡ 0) × ((t : ℕ) → under d t ≡ suc t)) ⊎ ((d ≡ 1) × ((t : ℕ) → under d t ≡ zero))
under_is zero h = inl (refl, λ t. refl)
under_is (suc zero) h = inr (refl, λ t. refl)
under_is (suc (suc d)) h = absurd (over_two d h)

onward_is : (d : ℕ) → d < 2 → ((d ≡ 1) × ((t : ℕ) → onward d t ≡ suc t)) ⊎ ((d ≡ 0) × ((t : ℕ) → onward d t ≡ zero))
onward_is zero h = inr (refl, λ t. refl)
onward_is (suc zero) h = inl (refl, λ t. refl)
onward_is (suc (suc d)) h = absurd (over_two d h)

pub run_passed : (k m i : ℕ) → i < run k m → bit m i ≡ 1
unfolding run
run_passed = scan_passed 1 onward run (λ m. refl) (λ k m. refl) onward_is

pub run_stopped : (k m : ℕ) → run k m < k → bit m (run k m) ≡ 0
unfolding run
run_stopped = scan_stopped 1 onward run (λ m. refl) (λ k m. refl) onward_is

pub trailing_passed : (k m i : ℕ) → i < count_trailing_zeros k m → bit m i ≡ 0
unfolding count_trailing_zeros
trailing_passed = scan_passed 0 under count_trailing_zeros (λ m. refl) (λ k m. refl) under_is

pub trailing_stopped : (k m : ℕ) → count_trailing_zeros k m < k → bit m (count_trailing_zeros k m) ≡ 1
unfolding count_trailing_zeros
trailing_stopped = scan_stopped 0 under count_trailing_zeros (λ m. refl) (λ k m. refl) under_is

-- ---- counts

pub tally_ext : (k : ℕ) (f g : ℕ → ℕ) → ((i : ℕ) → i < k → f i ≡ g i) → tally f k ≡ tally g k
unfolding tally
tally_ext zero f g h = refl
tally_ext (suc k) f g h =
    ap₂ (λ (x y : ℕ). x + y) (h 0 (zero-lt-suc k)) (tally_ext k (λ i. f (suc i)) (λ i. g (suc i)) (λ i l. h (suc i) (suc-le-suc l)))

ones_zero : ones 0 ≡ 0
unfolding ones
ones_zero = refl

-- the count of ones is the count made digit by digit
pub ones_tally : (k m : ℕ) → m < 2 ^ k → ones m ≡ tally (bit m) k
unfolding tally
ones_tally zero m h = ap ones (lt-one h) ∙ ones_zero
ones_tally (suc k) m h =
    ones_step m
    ∙ ap₂ (λ (x y : ℕ). x + y) (sym (bit_zero m))
    (ones_tally k (m / 2) (half_lt k h) ∙ tally_ext k (bit (m / 2)) (λ i. bit m (suc i)) (λ i l. sym (bit_suc m i)))

-- a count in two runs
pub tally_split : (j k : ℕ) (f : ℕ → ℕ) → tally f (j + k) ≡ tally f j + tally (λ i. f (j + i)) k
unfolding tally
tally_split zero k f = ap (tally f) (zero-add k) ∙ tally_ext k f (λ i. f (0 + i)) (λ i l. ap f (sym (zero-add i))) ∙ sym (zero-add _)
tally_split (suc j) k f =
    ap (tally f) (suc-add j k)
    ∙ ap (λ (x : ℕ). f 0 + x) (tally_split j k (λ i. f (suc i)) ∙ ap (λ (x : ℕ). tally (λ i. f (suc i)) j + x) (tally_ext k (λ i. f (suc (j + i))) (λ i. f (suc j + i)) (λ i l. ap f (sym (suc-add j i)))))
    ∙ sym (add_assoc (f 0) _ _)
