-- A set of rows as one number: the row 0 is the lowest bit.
use Rattle.std.specs.Prelude.{ℕ, zero, suc, ◌+◌, ◌*◌, ◌/◌, ◌%◌, ◌^◌, ◌<◌, ◌≤◌, ◌≡◌, refl, Bool, true, false, eqb}
use Rattle.std.proofs.Common.{sym, ap, ◌∙◌, add-zero, add-suc, suc-add, div-one, pow-suc, arith, shr-shr}
use Rattle.std.proofs.Math.Nat.{zero-div}
use Rattle.terms.specs.Paper.{pick}

-- the places i to i + n - 1 at which f holds, the place i as the lowest bit
unfoldable pub mask_of : (ℕ → Bool) → ℕ → ℕ → ℕ
mask_of f i zero = 0
mask_of f i (suc n) = pick (f i) 1 0 + 2 * mask_of f (suc i) n

-- a bit
abbrev pub is_set : ℕ → ℕ → Bool
is_set m k = eqb (m / 2 ^ k % 2) 1

-- BITS OF A NUMBER, one at a time

pub first_bit : (m : ℕ) → is_set m 0 ≡ eqb (m % 2) 1
first_bit m = ap (λ (x : ℕ). eqb (x % 2) 1) (div-one m)

pub next_bit : (m k : ℕ) → is_set m (suc k) ≡ is_set (m / 2) k
next_bit m k = ap (λ (x : ℕ). eqb (x % 2) 1) (sym (shr-shr m 1 k ∙ ap (λ (j : ℕ). m / 2 ^ j) (suc_of k)))
  where
    suc_of : (k : ℕ) → 1 + k ≡ suc k
    suc_of k = omega arith

low : (b : Bool) (x : ℕ) → (eqb ((pick b 1 0 + 2 * x) % 2) 1 ≡ b) × ((pick b 1 0 + 2 * x) / 2 ≡ x)
low true x = let e : (1 + 2 * x) % 2 ≡ 1 = omega arith in (rw e, omega arith)
low false x = let e : (0 + 2 * x) % 2 ≡ 0 = omega arith in (rw e, omega arith)

-- WHAT A MASK HOLDS

pub mask_has : (f : ℕ → Bool) (i n k : ℕ) → k < n → is_set (mask_of f i n) k ≡ f (i + k)
unfolding mask_of
mask_has f i zero k h = absurd (omega arith)
mask_has f i (suc n) zero h = first_bit (mask_of f i (suc n)) ∙ (low (f i) (mask_of f (suc i) n)).0 ∙ ap f (sym (add-zero i))
mask_has f i (suc n) (suc k) h =
    next_bit (mask_of f i (suc n)) k ∙ ap (λ (m : ℕ). is_set m k) (low (f i) (mask_of f (suc i) n)).1 ∙ mask_has f (suc i) n k (omega arith) ∙ ap f (suc-add i k ∙ sym (add-suc i k))

-- nothing behind its last place
pub mask_ends : (f : ℕ → Bool) (i n k : ℕ) → n ≤ k → is_set (mask_of f i n) k ≡ false
unfolding mask_of
mask_ends f i zero k h = rw (zero-div (2 ^ k))
mask_ends f i (suc n) zero h = absurd (omega arith)
mask_ends f i (suc n) (suc k) h = next_bit (mask_of f i (suc n)) k ∙ ap (λ (m : ℕ). is_set m k) (low (f i) (mask_of f (suc i) n)).1 ∙ mask_ends f (suc i) n k (omega arith)

pub mask_below : (f : ℕ → Bool) (i n : ℕ) → mask_of f i n < 2 ^ n
unfolding mask_of
mask_below f i zero = omega arith
mask_below f i (suc n) = rw (pow-suc 2 n) (bound (f i) (mask_of f (suc i) n) (2 ^ n) (mask_below f (suc i) n))
  where
    bound : (b : Bool) (x p : ℕ) → x < p → pick b 1 0 + 2 * x < p * 2
    bound true x p h = omega arith
    bound false x p h = omega arith

-- where f holds nowhere it is 0
pub mask_none : (f : ℕ → Bool) (i n : ℕ) → ((k : ℕ) → f k ≡ false) → mask_of f i n ≡ 0
unfolding mask_of
mask_none f i zero h = refl
mask_none f i (suc n) h = rw (h i, mask_none f (suc i) n h)
