-- Deciding by cases: a test holds or fails, a number is below another or not, equal to it or not.
use Rattle.std.specs.Prelude.{ℕ, ◌<◌, ◌≤◌, ◌≡◌, refl, Bool, true, false, ◌&&◌, ◌⊎◌, ltb, eqb}
use Rattle.std.proofs.Common.{inl, inr, ⊎_elim, arith, ltb-true, ltb-false, eqb-true}
use Rattle.std.proofs.lemmas.Bool.{eqb-false}

pub two : (b : Bool) → (b ≡ true) ⊎ (b ≡ false)
two true = inl refl
two false = inr refl

pub less : (a b : ℕ) → (a < b) ⊎ (b ≤ a)
less a b = ⊎_elim (λ t. inl (ltb-true a b t)) (λ f. inr (ltb-false a b f)) (two (ltb a b))

pub same : (a b : ℕ) → (a ≡ b) ⊎ (a ≡ b → ⊥)
same a b = ⊎_elim (λ t. inl (eqb-true a b t)) (λ f. inr (eqb-false a b f)) (two (eqb a b))

pub clash : {b : Bool} → b ≡ true → b ≡ false → ⊥
clash t f = let z : ◌≡◌ {A = ℕ} 0 1 = cc in omega arith

pub and_false : (b : Bool) → (b && false) ≡ false
and_false true = refl
and_false false = refl
