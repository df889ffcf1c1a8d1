-- Rows of numbers made place by place, and tests of every place. Assumes nothing.
use Prim.Native.Nat.{ℕ, zero, suc, ◌≤◌, ◌<◌}
use mathlib.Core.Path.{◌≡◌, refl, sym, ap, ap₂, ◌∙◌}
use mathlib.Core.Bool.{Bool, true, false, ◌&&◌}
use mathlib.Core.Logic.{⊎_elim}
use mathlib.Core.List.{List}
use native.Mathlib.Nat.{not-suc-le-zero, le_of_suc-le-suc}
use native.Mathlib.Omega.{arith}
use lib.ListN.{length, get_or}
use lib.Seq.{ext_get_or}
use Rattle.terms.specs.Cases.{two, less, clash}
use Rattle.terms.specs.RuledOut.{split}
use Rattle.month_spec.specs.Page.{tabled, all_below}

-- ---- rows

pub length_tabled : (f : ℕ → ℕ) (n : ℕ) → length (tabled f n) ≡ n
unfolding tabled
length_tabled f zero = refl
length_tabled f (suc n) = ap suc (length_tabled (λ i. f (suc i)) n)

pub get_d_tabled : (f : ℕ → ℕ) (n k : ℕ) → k < n → get_or (tabled f n) k 0 ≡ f k
unfolding tabled
get_d_tabled f zero k h = absurd (not-suc-le-zero h)
get_d_tabled f (suc n) zero h = refl
get_d_tabled f (suc n) (suc k) h = get_d_tabled (λ i. f (suc i)) n k (le_of_suc-le-suc h)

-- a row of n numbers is known by its places
pub is_tabled : (f : ℕ → ℕ) (n : ℕ) (l : List ℕ) → length l ≡ n → ((k : ℕ) → k < n → get_or l k 0 ≡ f k) → l ≡ tabled f n
is_tabled f n l e h =
    ext_get_or 0 l (tabled f n) (e ∙ sym (length_tabled f n)) (λ k lt. let g : k < n = omega (arith, e) in h k g ∙ sym (get_d_tabled f n k g))

pub tabled_same : (f g : ℕ → ℕ) (n : ℕ) → ((k : ℕ) → k < n → f k ≡ g k) → tabled f n ≡ tabled g n
tabled_same f g n h = is_tabled g n (tabled f n) (length_tabled f n) (λ k lt. get_d_tabled f n k lt ∙ h k lt)

-- ---- tests

-- the last number below n + 1 is n
last_one : (k n : ℕ) → k < suc n → (k < n → ⊥) → k ≡ n
last_one k n h f = ⊎_elim (λ (l : k < n). absurd (f l)) (λ (g : n ≤ k). omega arith) (less k n)

pub all_each : (so : ℕ → Bool) (n : ℕ) → all_below so n ≡ true → (k : ℕ) → k < n → so k ≡ true
unfolding all_below
all_each so zero e k h = absurd (not-suc-le-zero h)
all_each so (suc n) e k h =
    let q = split (all_below so n) (so n) e in
    ⊎_elim (λ (l : k < n). all_each so n q.0 k l) (λ (g : n ≤ k). ap so (last_one k n h (λ (l : k < n). omega arith)) ∙ q.1) (less k n)

pub all_made : (so : ℕ → Bool) (n : ℕ) → ((k : ℕ) → k < n → so k ≡ true) → all_below so n ≡ true
unfolding all_below
all_made so zero h = refl
all_made so (suc n) h = rw (all_made so n (λ k l. h k (omega arith)), h n (omega arith))

pub all_broken : (so : ℕ → Bool) (n k : ℕ) → k < n → so k ≡ false → all_below so n ≡ false
all_broken so n k h e = ⊎_elim (λ (t : all_below so n ≡ true). absurd (clash (all_each so n t k h) e)) (λ (f : all_below so n ≡ false). f) (two (all_below so n))

-- a place that is not so
pub record Breaks (so : ℕ → Bool) (n : ℕ) : Type 0 where
  pub at : ℕ
  pub below : at < n
  pub not_so : so at ≡ false

pub not_all : (so : ℕ → Bool) (n : ℕ) → all_below so n ≡ false → Breaks so n
unfolding all_below
not_all so zero e = absurd (clash refl e)
not_all so (suc n) e =
    ⊎_elim
    (λ (t : so n ≡ true).
    let b = not_all so n (⊎_elim (λ (a : all_below so n ≡ true). absurd (clash (rw (a, t)) e)) (λ (f : all_below so n ≡ false). f) (two (all_below so n))) in
    record { at = b.at; below = omega (arith, b.below); not_so = b.not_so })
    (λ (f : so n ≡ false). record { at = n; below = omega arith; not_so = f })
    (two (so n))

-- tests that agree below n
pub all_same : (f g : ℕ → Bool) (n : ℕ) → ((k : ℕ) → k < n → f k ≡ g k) → all_below f n ≡ all_below g n
unfolding all_below
all_same f g zero h = refl
all_same f g (suc n) h = ap₂ (λ (a b : Bool). a && b) (all_same f g n (λ k l. h k (omega arith))) (h n (omega arith))
