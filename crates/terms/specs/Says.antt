-- A test says a fact: it holds exactly when the fact does. Tests are put together as the facts are.
use Rattle.std.specs.Prelude.{ℕ, ◌<◌, ◌≤◌, ◌≡◌, refl, Bool, true, false, not, ◌&&◌, ◌||◌, ◌⊎◌, ◌↔◌, ltb, leb, eqb}
use Rattle.std.proofs.Common.{inl, inr, ⊎_elim, arith, ltb-true, leb-true, eqb-true, lt-ltb, le-leb, eq-eqb}
use Rattle.std.proofs.lemmas.Bool.{not-true}
use Rattle.terms.specs.Cases.{clash}

abbrev pub Says : Bool → Type 0 → Type 0
Says b P = (b ≡ true) ↔ P

pub says_lt : (x y : ℕ) → Says (ltb x y) (x < y)
says_lt x y = (ltb-true x y, lt-ltb x y)

pub says_le : (x y : ℕ) → Says (leb x y) (x ≤ y)
says_le x y = (leb-true x y, le-leb x y)

pub says_eq : (x y : ℕ) → Says (eqb x y) (x ≡ y)
says_eq x y = (eqb-true x y, eq-eqb x y)

and_both : (a b : Bool) → (a && b) ≡ true → (a ≡ true) × (b ≡ true)
and_both true b h = (refl, h)
and_both false b h = let z : ◌≡◌ {A = ℕ} 0 1 = cc in absurd (omega arith)

and_made : (a b : Bool) → a ≡ true → b ≡ true → (a && b) ≡ true
and_made a b p q = rw (p, q)

not_made : (a : Bool) → (a ≡ true → ⊥) → not a ≡ true
not_made true n = absurd (n refl)
not_made false n = refl

or_either : (a b : Bool) → (a || b) ≡ true → (a ≡ true) ⊎ (b ≡ true)
or_either true b h = inl refl
or_either false b h = inr h

or_left : (a b : Bool) → a ≡ true → (a || b) ≡ true
or_left a b p = rw p

or_right : (a b : Bool) → b ≡ true → (a || b) ≡ true
or_right true b q = refl
or_right false b q = q

-- the test fails exactly when the fact does
pub says_not : {a : Bool} {P : Type 0} → Says a P → Says (not a) (P → ⊥)
says_not {a} {P} p = (λ (h : not a ≡ true) (x : P). clash (p.1 x) (not-true a h), λ (n : P → ⊥). not_made a (λ (h : a ≡ true). n (p.0 h)))

module _ {a b : Bool} {P Q : Type 0} where
  pub says_and : Says a P → Says b Q → Says (a && b) (P × Q)
  says_and p q = (
    λ (h : (a && b) ≡ true). (p.0 (and_both a b h).0, q.0 (and_both a b h).1),
    λ (h : P × Q). and_made a b (p.1 h.0) (q.1 h.1),
  )

  pub says_or : Says a P → Says b Q → Says (a || b) (P ⊎ Q)
  says_or p q = (
    λ (h : (a || b) ≡ true). ⊎_elim (λ (x : a ≡ true). inl (p.0 x)) (λ (y : b ≡ true). inr (q.0 y)) (or_either a b h),
    λ (h : P ⊎ Q). ⊎_elim (λ (x : P). or_left a b (p.1 x)) (λ (y : Q). or_right a b (q.1 y)) h,
  )

-- the fact put otherwise
pub says_as : {a : Bool} {P Q : Type 0} → Says a P → (P → Q) → (Q → P) → Says a Q
says_as p to from = (λ h. to (p.0 h), λ q. p.1 (from q))
