-- Where two parts differ, as the library tells it. Assumes nothing.
use Prim.Native.Nat.{ℕ, zero, suc, ◌+◌, ◌<◌}
use mathlib.Core.Path.{◌≡◌, refl, sym, ap, ◌∙◌}
use mathlib.Core.List.{List, [], ◌∷◌}
use mathlib.Core.Bool.{true}
use native.Mathlib.Omega.{arith}
use lib.ListN.{length}
use lib.Dec.{eqb}
use borrow.Author.Tests.{eqb-true}
use Rattle.std.specs.Prelude.{Option, Some, None}
use Rattle.std.specs.List.{zip, AllWithin, HoldsAt}
use Rattle.std.specs.Option.{MatchOption}
use Rattle.std.specs.Cmp.Lexicographic.{pointwise}
use Rattle.terms.specs.Cases.{clash}
use Rattle.ledger_spec.proofs.Tests.{both}
use Rattle.clean_spec.specs.Clean.{differ_of}
use Rattle.clean_spec.specs.Differ.{cons_same, cons_other}
use Rattle.clean.specs.Papers.{places_of}

-- equal in each place
pub equal_none : (p : ℕ) (a b : List ℕ) → pointwise eqb a b ≡ true → [] ≡ differ_of p a b
unfolding differ_of
equal_none p [] [] e = refl
equal_none p [] (y ∷ b) e = absurd (clash e refl)
equal_none p (x ∷ a) [] e = absurd (clash e refl)
equal_none p (x ∷ a) (y ∷ b) e = let q = both (eqb x y) (pointwise eqb a b) e in equal_none (p + 1) a b q.1 ∙ sym (cons_same p x y a b (eqb-true x y q.0))

abbrev pub Alike : ℕ × ℕ → Type 0
Alike x = x.0 ≡ x.1

abbrev pub Apart : ℕ × ℕ → Type 0
Apart x = x.0 ≡ x.1 → ⊥

none_apart : (p : ℕ) (a b : List ℕ) → length a ≡ length b → AllWithin Alike (zip a b) 0 (length (zip a b)) → [] ≡ differ_of p a b
unfolding differ_of
none_apart p [] [] l h = refl
none_apart p [] (y ∷ b) l h = absurd (omega (arith, l))
none_apart p (x ∷ a) [] l h = absurd (omega (arith, l))
none_apart p (x ∷ a) (y ∷ b) l h =
    none_apart (p + 1) a b (omega (arith, l)) (λ k d z g. h (suc k) d (omega arith) (omega (arith, g))) ∙ sym (cons_same p x y a b (h 0 (x, y) (omega arith) (omega arith)))

first_apart : (p i : ℕ) (a b : List ℕ) → length a ≡ length b → i < length (zip a b) → HoldsAt Apart (zip a b) i → AllWithin Alike (zip a b) 0 i → (p + i) ∷ [] ≡ differ_of p a b
first_apart p i [] [] l f y h = absurd (omega (arith, f))
first_apart p i [] (y ∷ b) l f y' h = absurd (omega (arith, l))
first_apart p i (x ∷ a) [] l f y' h = absurd (omega (arith, l))
first_apart p zero (x ∷ a) (y ∷ b) l f n h = ap (λ (k : ℕ). k ∷ []) (omega arith) ∙ sym (cons_other p x y a b (n (x, y)))
first_apart p (suc i) (x ∷ a) (y ∷ b) l f n h =
    ap (λ (k : ℕ). k ∷ []) (omega arith)
    ∙ first_apart (p + 1) i a b (omega (arith, l)) (omega (arith, f)) (λ d. n d) (λ k d z g. h (suc k) d (omega arith) (omega (arith, g)))
    ∙ sym (cons_same p x y a b (h 0 (x, y) (omega arith) (omega arith)))

pub found_place : (a b : List ℕ) (r : Option ℕ) → length a ≡ length b → MatchOption r (AllWithin Alike (zip a b) 0 (length (zip a b))) (λ i. (i < length (zip a b)) × HoldsAt Apart (zip a b) i × AllWithin Alike (zip a b) 0 i) → places_of r ≡ differ_of 0 a b
found_place a b None l h = none_apart 0 a b l h
found_place a b (Some i) l h = ap (λ (k : ℕ). k ∷ []) (omega arith) ∙ first_apart 0 i a b l h.0 h.1 h.2
