-- What `least` finds: the least number below n that is so, or n where none is. Assumes nothing.
use mathlib.Core.Path.{◌≡◌, refl, sym, ◌∙◌}
use mathlib.Core.Bool.{Bool, true, false}
use Prim.Native.Nat.{ℕ, zero, suc, ◌≤◌, ◌<◌, suc-le-suc, min}
use native.Mathlib.Nat.{not-suc-le-zero, le_of_suc-le-suc, zero-lt-suc}
use native.Mathlib.Decide.{dec_lt}
use native.Mathlib.Omega.{arith}
use Rattle.terms.specs.Cases.{clash}
use Rattle.terms.specs.Paper.{pick}
use Rattle.ledger_spec.proofs.Tests.{pick_cases}
use Rattle.channels_spec.specs.Table.{least}

pub data Found (so : ℕ → Bool) (n : ℕ) : ℕ → Type 0 where
  at : {k : ℕ} → k < n → so k ≡ true → ((j : ℕ) → j < k → so j ≡ false) → Found so n k
  nowhere : ((j : ℕ) → j < n → so j ≡ false) → Found so n n

none_below : (so : ℕ → Bool) (n : ℕ) → so 0 ≡ false → ((j : ℕ) → j < n → so (suc j) ≡ false) → (j : ℕ) → j < suc n → so j ≡ false
none_below so n e b zero l = e
none_below so n e b (suc j) l = b j (le_of_suc-le-suc l)

up : (so : ℕ → Bool) (n m : ℕ) → so 0 ≡ false → Found (λ k. so (suc k)) n m → Found so (suc n) (suc m)
up so n m e (at l y b) = at (suc-le-suc l) y (none_below so m e b)
up so n m e (nowhere b) = nowhere (none_below so n e b)

pub found : (so : ℕ → Bool) (n : ℕ) → Found so n (least so n)
unfolding least
found so zero = nowhere (λ j l. absurd (not-suc-le-zero l))
found so (suc n) =
    pick_cases (λ m. Found so (suc n) m) (so 0) 0 (suc (least (λ k. so (suc k)) n))
    (λ e. at (zero-lt-suc n) e (λ j l. absurd (not-suc-le-zero l)))
    (λ e. up so n _ e (found (λ k. so (suc k)) n))

-- it is not above any number that is so
first : (so : ℕ → Bool) (n k m : ℕ) → Found so n m → k < n → so k ≡ true → m ≤ k
first so n k m (at l y b) h e = elim (dec_lt k m) [ yes g ↦ absurd (clash e (b k g)) | no g ↦ omega arith ]
first so n k m (nowhere b) h e = absurd (clash e (b k h))

pub least_low : (so : ℕ → Bool) (n k : ℕ) → k < n → so k ≡ true → least so n ≤ k
least_low so n k h e = first so n k _ (found so n) h e

-- what is found below n
pub record Lowest (so : ℕ → Bool) (n k : ℕ) : Type 0 where
  pub within : k < n
  pub is_so : so k ≡ true
  pub lowest : (j : ℕ) → j < k → so j ≡ false

below : (so : ℕ → Bool) (n m : ℕ) → Found so n m → m < n → Lowest so n m
below so n m (at l y b) h = record { within = l; is_so = y; lowest = b }
below so n m (nowhere b) h = absurd (not_less h)
  where
    not_less : {k : ℕ} → k < k → ⊥
    not_less l = omega arith

pub least_is : (so : ℕ → Bool) (n : ℕ) → least so n < n → Lowest so n (least so n)
least_is so n h = below so n _ (found so n) h

-- none is so where nothing is found
absent : (so : ℕ → Bool) (n m : ℕ) → Found so n m → n ≤ m → (j : ℕ) → j < n → so j ≡ false
absent so n m (at l y b) h j g = absurd (crossed l h)
  where
    crossed : {a c : ℕ} → a < c → c ≤ a → ⊥
    crossed p q = omega arith
absent so n m (nowhere b) h j g = b j g

pub least_none : (so : ℕ → Bool) (n : ℕ) → n ≤ least so n → (j : ℕ) → j < n → so j ≡ false
least_none so n h = absent so n _ (found so n) h

-- it is the first that is so, or n where none below n is
pub least_at : (so : ℕ → Bool) (n k : ℕ) → k < n → so k ≡ true → ((j : ℕ) → j < k → so j ≡ false) → least so n ≡ k
least_at so n k l y b =
    let low : least so n ≤ k = least_low so n k l y in
    let f = least_is so n (omega arith) in
    elim (dec_lt (least so n) k) [ yes g ↦ absurd (clash f.is_so (b _ g)) | no g ↦ omega arith ]

pub least_all : (so : ℕ → Bool) (n : ℕ) → ((j : ℕ) → j < n → so j ≡ false) → least so n ≡ n
least_all so n b = nothing_found so n _ (found so n) b
  where
    nothing_found : (so : ℕ → Bool) (n m : ℕ) → Found so n m → ((j : ℕ) → j < n → so j ≡ false) → m ≡ n
    nothing_found so n m (at l y b) c = absurd (clash y (c m l))
    nothing_found so n m (nowhere b) c = refl

-- a scan that passes what is not so, and stops at what is
pub least_scan : (so : ℕ → Bool) (n m : ℕ) → ((j : ℕ) → j < m → j < n → so j ≡ false) → (m < n → so m ≡ true) → min m n ≡ least so n
least_scan so n m passed stopped = elim (dec_lt m n) [
  | yes l ↦ (let e : min m n ≡ m = omega arith in e ∙ sym (least_at so n m l (stopped l) (λ j g. passed j g (omega arith))))
  | no l ↦ (let e : min m n ≡ n = omega arith in e ∙ sym (least_all so n (λ j g. passed j (omega arith) g)))
]

-- what is so of the same numbers is found at the same place
pub least_ext : (f g : ℕ → Bool) (n : ℕ) → ((i : ℕ) → i < n → f i ≡ g i) → least f n ≡ least g n
unfolding least
least_ext f g zero e = refl
least_ext f g (suc n) e = λ i. pick (e 0 (zero-lt-suc n) i) 0 (suc (least_ext (λ k. f (suc k)) (λ k. g (suc k)) n (λ k l. e (suc k) (suc-le-suc l)) i))

pub least_top : (so : ℕ → Bool) (n : ℕ) → least so n ≤ n
least_top so n = top _ (found so n)
  where
    top : (m : ℕ) → Found so n m → m ≤ n
    top m (at l y b) = omega arith
    top m (nowhere b) = omega arith
