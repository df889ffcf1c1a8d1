-- How many digits a number has: what `width_of` means, that there is one such width, and how a
-- loop counts it.
use Rattle.std.specs.Prelude.{ℕ, zero, suc, ◌+◌, ◌/◌, ◌-◌, ◌*◌, ◌<◌, ◌≤◌, ◌^◌, ◌≡◌, refl, max, ◌⊎◌}
use Rattle.std.proofs.Common.{inl, inr, ⊎_elim, add-one, pow-suc, div-lt_iff_lt-mul, le-div_iff_mul-le, le_antisymm, arith, lit<, lit≤, lt-ltb, le-ltb}
use Rattle.std.proofs.Math.Nat.{pow-le-pow_right}
use Rattle.std.proofs.Common.{ap, ◌∙◌, pow_pos}
use Rattle.terms.specs.Cases.{less}
use Rattle.digits.specs.Digits.{width_in, width_of}

-- w is the number of v's digits: v fits w digits, and no fewer
pub record Width (v w : ℕ) : Type 0 where
  pub some : 1 ≤ w
  pub below : v < 10 ^ w
  pub least : (w ≡ 1) ⊎ (10 ^ (w - 1) ≤ v)

pub width_small : (f v : ℕ) → v ≤ 9 → width_in (suc f) v ≡ 1
unfolding width_in
width_small f v h = rw (lt-ltb v 10 (omega arith))

pub width_large : (f v : ℕ) → 9 < v → width_in (suc f) v ≡ width_in f (v / 10) + 1
unfolding width_in
width_large f v h = rw (le-ltb v 10 h)

-- a number that fits f digits: without the last it fits one fewer
pub tenth : (f v : ℕ) → v < 10 ^ suc f → v / 10 < 10 ^ f
tenth f v h = (div-lt_iff_lt-mul (lit< tt)).1 (rw pow-suc at h)

width_more : (v w : ℕ) → 9 < v → Width (v / 10) w → Width v (w + 1)
width_more v w h u =
    record {
      some = omega arith;
      below = rw (add-one w, pow-suc) ((div-lt_iff_lt-mul (lit< tt)).0 u.below);
      least = inr (⊎_elim (λ (e : w ≡ 1). rw e (omega arith)) (λ (l : 10 ^ (w - 1) ≤ v / 10). let e : w + 1 - 1 ≡ suc (w - 1) = omega (arith, u.some) in rw (e, pow-suc) ((le-div_iff_mul-le (lit< tt)).0 l)) u.least);
    }

width_few : (f v : ℕ) → v ≤ 9 → Width v (width_in (suc f) v)
width_few f v h = rw (width_small f v h) (record { some = lit≤ tt; below = omega arith; least = inl refl })

width_in_lem : (f v : ℕ) → v < 10 ^ suc f → Width v (width_in (suc f) v)
width_in_lem zero v h = width_few 0 v (omega arith)
width_in_lem (suc f) v h =
    ⊎_elim (λ (l : 9 < v). rw (width_large (suc f) v l) (width_more v (width_in (suc f) (v / 10)) l (width_in_lem f (v / 10) (tenth (suc f) v h)))) (width_few (suc f) v) (less 9 v)

-- what `width_of` means
pub width_of_lem : (v : ℕ) → v < 10 ^ 20 → Width v (width_of v)
width_of_lem = width_in_lem 19

-- no number of digits is larger than one that v fits
pub width_most : {v w : ℕ} (a : ℕ) → Width v w → 1 ≤ a → v < 10 ^ a → w ≤ a
width_most {v} {w} a u p h =
    ⊎_elim (λ (l : a < w). ⊎_elim (λ (e : w ≡ 1). omega arith) (λ (k : 10 ^ (w - 1) ≤ v). omega (arith, pow-le-pow_right {n = 10} (lit< tt) {i = a} {j = w - 1} (omega arith))) u.least) (λ (l : w ≤ a). l) (less a w)

-- so there is one such number
pub width_one : {v a b : ℕ} → Width v a → Width v b → a ≡ b
width_one {v} {a} {b} p q = le_antisymm (width_most b p q.some q.below) (width_most a q p.some p.below)

-- and each number of w digits, or of any number if w is 1, has this width
pub width_at : (w v : ℕ) → v < 10 ^ 20 → 1 ≤ w → v < 10 ^ w → (w ≡ 1) ⊎ (10 ^ (w - 1) ≤ v) → w ≡ width_of v
width_at w v h some below least = width_one (record { some = some; below = below; least = least }) (width_of_lem v h)

-- one more than the largest power of ten that v, or 1 in place of 0, is not below
pub width_log : (k v : ℕ) → v < 10 ^ 20 → 10 ^ k ≤ max v 1 → max v 1 < 10 * 10 ^ k → k + 1 ≡ width_of v
width_log zero v h low high = width_at 1 v h (omega arith) (omega arith) (inl refl)
width_log (suc k) v h low high =
    let e : suc k + 1 - 1 ≡ suc k = omega arith in
    let p : 10 ^ suc k ≡ 10 ^ k * 10 = pow-suc 10 k in
    let q : 10 ^ (suc k + 1) ≡ 10 ^ suc k * 10 = ap (λ (n : ℕ). 10 ^ n) (add-one (suc k)) ∙ pow-suc 10 (suc k) in
    width_at (suc k + 1) v h (omega arith) (omega (arith, q)) (inr (rw e (omega (arith, p, pow_pos k))))
