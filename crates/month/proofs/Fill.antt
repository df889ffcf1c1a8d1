-- An array filled from the front: what stands at the places filled, and 0 behind them. Assumes
-- nothing.
use Prim.Native.Nat.{ℕ, zero, suc, ◌+◌, ◌≤◌, ◌<◌}
use mathlib.Core.Path.{◌≡◌, refl, sym, ap, ◌∙◌}
use mathlib.Core.Logic.{⊎_elim}
use mathlib.Core.List.{List, [], ◌∷◌}
use native.Mathlib.Omega.{arith}
use lib.Dec.{ltb}
use lib.ListN.{length, get_or, set, length-set, replicate, length-replicate}
use lib.Seq.{get_or-set_same, get_or-set_other}
use borrow.Author.Tests.{lt-ltb, le-ltb}
use Rattle.terms.specs.Cases.{less}
use Rattle.terms.specs.Paper.{pick}
use Rattle.month_spec.specs.Page.{tabled}
use Rattle.month_spec.proofs.Lists.{is_tabled}

pub record Filled (f : ℕ → ℕ) (n k : ℕ) (l : List ℕ) : Type 0 where
  pub size : length l ≡ n
  pub within : k ≤ n
  pub done : (i : ℕ) → i < k → get_or l i 0 ≡ f i
  pub rest : (i : ℕ) → k ≤ i → get_or l i 0 ≡ 0

module _ (f : ℕ → ℕ) (n : ℕ) where
  pub fill_start : (l : List ℕ) → length l ≡ n → ((i : ℕ) → get_or l i 0 ≡ 0) → Filled f n 0 l
  fill_start l e z = record { size = e; within = omega arith; done = λ i h. absurd (omega arith); rest = λ i h. z i }

  pub fill_step : (k : ℕ) (l : List ℕ) (v : ℕ) → Filled f n k l → k < n → v ≡ f k → Filled f n (k + 1) (set l k v)
  fill_step k l v w h e =
      record {
        size = length-set l k v ∙ w.size;
        within = omega arith;
        done = λ i lt.
            ⊎_elim (λ (g : i < k). get_or-set_other l k i v 0 (λ (q : i ≡ k). omega arith) ∙ w.done i g)
            (λ (g : k ≤ i). let q : i ≡ k = omega arith in ap (λ (x : ℕ). get_or (set l k v) x 0) q ∙ get_or-set_same l k v 0 (omega (arith, w.size)) ∙ e ∙ ap f (sym q))
            (less i k);
        rest = λ i g. get_or-set_other l k i v 0 (λ (q : i ≡ k). omega arith) ∙ w.rest i (omega arith);
      }

  -- full
  pub fill_end : (k : ℕ) (l : List ℕ) → Filled f n k l → n ≤ k → l ≡ tabled f n
  fill_end k l w h = is_tabled f n l w.size (λ i lt. w.done i (omega arith))

  -- or left off, and 0 from there on
  pub fill_left : (k m : ℕ) (l : List ℕ) → Filled f n k l → m ≤ k → k ≤ m → l ≡ tabled (λ i. pick (ltb i m) (f i) 0) n
  fill_left k m l w a b =
      is_tabled (λ i. pick (ltb i m) (f i) 0) n l w.size
      (λ i lt.
      ⊎_elim (λ (g : i < m). rw (lt-ltb i m g) (w.done i (omega arith))) (λ (g : m ≤ i). rw (le-ltb i m g) (w.rest i (omega arith))) (less i m))

-- ---- zeros

pub zero_at : (n i : ℕ) → get_or {A = ℕ} (replicate n 0) i 0 ≡ 0
zero_at zero i = refl
zero_at (suc n) zero = refl
zero_at (suc n) (suc i) = zero_at n i

pub zeros_are : (n : ℕ) → replicate {A = ℕ} n 0 ≡ tabled (λ k. 0) n
zeros_are n = is_tabled (λ k. 0) n (replicate {A = ℕ} n 0) (length-replicate n 0) (λ k h. zero_at n k)

-- inside a list the default does not matter
pub any_default : {A : Type 0} (l : List A) (i : ℕ) (d e : A) → i < length l → get_or l i d ≡ get_or l i e
any_default [] i d e h = absurd (omega arith)
any_default (x ∷ l) zero d e h = refl
any_default (x ∷ l) (suc i) d e h = any_default l i d e (omega arith)

pub zeros_long : (n : ℕ) → length (replicate {A = ℕ} n 0) ≡ n
zeros_long n = length-replicate n 0
