-- Tests as facts: what a conjunction, a complement and a choice by a test say. Assumes nothing.
use mathlib.Core.Path.{◌≡◌, refl, sym, ◌∙◌}
use mathlib.Core.Bool.{Bool, true, false, ◌&&◌}
use Prim.Native.Nat.{ℕ, zero, suc, ◌+◌, ◌-◌, ◌≤◌, ◌<◌}
use native.Mathlib.Decide.{dec_lt}
use native.Mathlib.Omega.{arith}
use borrow.Author.Tests.{lt-ltb, le-ltb}
use lib.Dec.{eqb, ltb}
use Rattle.terms.specs.Cases.{clash}
use Rattle.terms.specs.Paper.{pick}
use Rattle.ledger_spec.specs.Words.{one}

pub both : (a b : Bool) → a && b ≡ true → (a ≡ true) × (b ≡ true)
both true b e = (refl, e)
both false b e = absurd (clash e refl)

-- a test that can't fail has passed, and the other way round
pub true_of : (t : Bool) → (t ≡ false → ⊥) → t ≡ true
true_of true n = refl
true_of false n = absurd (n refl)

pub false_of : (t : Bool) → (t ≡ true → ⊥) → t ≡ false
false_of true n = absurd (n refl)
false_of false n = refl

pub and_false : (b : Bool) → b && false ≡ false
and_false true = refl
and_false false = refl

pub and_true : (b : Bool) → b && true ≡ b
and_true true = refl
and_true false = refl

-- a digit is 0 or 1
over_two : (d : ℕ) → suc (suc d) < 2 → ⊥
over_two d h = omega arith

pub zero_digit : (d : ℕ) → d < 2 → eqb d 1 ≡ false → d ≡ 0
zero_digit zero h e = refl
zero_digit (suc zero) h e = absurd (clash refl e)
zero_digit (suc (suc d)) h e = absurd (over_two d h)

pub one_of : (d : ℕ) → d < 2 → one (eqb d 1) ≡ d
one_of zero h = refl
one_of (suc zero) h = refl
one_of (suc (suc d)) h = absurd (over_two d h)

-- what holds of each way that a test goes holds of the choice
pub pick_cases : {A : Type 0} (P : A → Type 0) (t : Bool) (x y : A) → (t ≡ true → P x) → (t ≡ false → P y) → P (pick t x y)
pick_cases P true x y f g = f refl
pick_cases P false x y f g = g refl

pub pick_true : {A : Type 0} (t : Bool) (x y : A) → t ≡ true → pick t x y ≡ x
pick_true t x y e = simp e

pub pick_false : {A : Type 0} (t : Bool) (x y : A) → t ≡ false → pick t x y ≡ y
pick_false t x y e = simp e

-- a row of checks answers m: a check of another number passed, and the one of m failed
pub skip : (t : Bool) (k rest : ℕ) {m : ℕ} → pick t k rest ≡ m → (k ≡ m → ⊥) → (t ≡ false) × (rest ≡ m)
skip true k rest e n = absurd (n e)
skip false k rest e n = (refl, e)

pub hit : (t : Bool) (k rest : ℕ) → pick t k rest ≡ k → (rest ≡ k → ⊥) → t ≡ true
hit true k rest e n = refl
hit false k rest e n = absurd (n e)

-- two ways to ask whether a range has at most k numbers
pub short_is : (first last k : ℕ) → first ≤ last → ltb (last - first) k ≡ ltb last (first + k)
short_is first last k h = elim (dec_lt last (first + k)) [
  | yes l ↦ (let g : last - first < k = omega arith in lt-ltb _ _ g ∙ sym (lt-ltb _ _ l))
  | no l ↦ (
      let g : k ≤ last - first = omega arith in
      let m : first + k ≤ last = omega arith in
      le-ltb _ _ g ∙ sym (le-ltb _ _ m))
]
