-- The pieces that std's `split` gives, and the first of them that begins `52=`. Assumes nothing.
use Rattle.std.specs.Prelude.{ℕ, ◌≤◌, ◌≡◌, refl, Bool, true, false, ◌&&◌, List, [], ◌∷◌, ◌++◌, ◌⊎◌, Option, Some, None, eqb, length, drop}
use Rattle.std.specs.List.{starts_with, slice_split, onto_first, find}
use Rattle.std.specs.Option.{MatchOption}
use Rattle.std.proofs.lemmas.Option.{MatchOption-at_some, MatchOption-at_none}
use Rattle.std.proofs.Common.{sym, ap, ◌∙◌, inl, inr, ⊎_elim, eqb-true}
use borrow.Author.Tests.{eq-eqb, ne_eqb}
use Rattle.terms.specs.Cases.{two, clash, and_false}
use Rattle.step_tags.specs.Forms.{is_unreal}
use Rattle.step_spec.specs.Pieces.{SOH, on_first, pieces}
use Rattle.step_spec.specs.Fields.{begins52, unreal_in}
use Rattle.step_spec.specs.FieldLaws.{long_52}

abbrev pub cut : List ℕ → List (List ℕ)
cut = slice_split (λ (x : ℕ). eqb x SOH)

-- the pieces, and an empty one behind the last SOH
abbrev Ends : List (List ℕ) → List (List ℕ) → Type 0
Ends a b = (a ≡ b) ⊎ (a ≡ b ++ ([] ∷ []))

onto : (x : ℕ) (a b : List (List ℕ)) → Ends a b → Ends (onto_first x a) (on_first x b)
unfolding on_first
onto x a [] (inl e) = inl (rw e)
onto x a [] (inr e) = inl (rw e)
onto x a (p ∷ ps) (inl e) = inl (rw e)
onto x a (p ∷ ps) (inr e) = inr (rw e)

cut_is : (s : List ℕ) → Ends (cut s) (pieces s)
unfolding pieces
cut_is [] = inr refl
cut_is (x ∷ xs) =
    ⊎_elim (λ (t : eqb x SOH ≡ true). rw t (⊎_elim (λ (e : cut xs ≡ pieces xs). inl (ap (λ (l : List (List ℕ)). [] ∷ l) e)) (λ (e : cut xs ≡ pieces xs ++ ([] ∷ [])). inr (ap (λ (l : List (List ℕ)). [] ∷ l) e)) (cut_is xs)))
    (λ (f : eqb x SOH ≡ false). rw f (onto x (cut xs) (pieces xs) (cut_is xs)))
    (two (eqb x SOH))

unreal_last : (ps : List (List ℕ)) → unreal_in (ps ++ ([] ∷ [])) ≡ unreal_in ps
unfolding unreal_in
unreal_last [] = refl
unreal_last (p ∷ ps) = rw (unreal_last ps)

unreal_cut : (s : List ℕ) → unreal_in (cut s) ≡ unreal_in (pieces s)
unreal_cut s = ⊎_elim (λ (e : cut s ≡ pieces s). ap unreal_in e) (λ (e : cut s ≡ pieces s ++ ([] ∷ [])). ap unreal_in e ∙ unreal_last (pieces s)) (cut_is s)

-- `52=` in front
abbrev pub test : List ℕ → Bool
test p = starts_with eqb p (53 ∷ 50 ∷ 61 ∷ [])

flip : (a b : ℕ) → eqb a b ≡ eqb b a
flip a b = ⊎_elim (λ (t : eqb a b ≡ true). rw (t, eq-eqb b a (sym (eqb-true a b t)))) (λ (f : eqb a b ≡ false). rw (f, ne_eqb b a (λ e. clash (eq-eqb a b (sym e)) f))) (two (eqb a b))

test_is : (p : List ℕ) → test p ≡ begins52 p
test_is [] = refl
test_is (x ∷ []) = by_cases (eqb 53 x) (eqb x 53)
  where
    by_cases : (a b : Bool) → (a && false) ≡ ((b && false) && false)
    by_cases a b = rw (and_false a, and_false b)
test_is (x ∷ y ∷ []) = by_cases (eqb 53 x) (eqb 50 y) (eqb x 53 && eqb y 50)
  where
    by_cases : (a b c : Bool) → (a && (b && false)) ≡ (c && false)
    by_cases a b c = rw (and_false b, and_false a, and_false c)
test_is (x ∷ y ∷ z ∷ p) = rw (flip 53 x, flip 50 y, flip 61 z) (grouped (eqb x 53) (eqb y 50) (eqb z 61))
  where
    grouped : (a b c : Bool) → (a && (b && (c && true))) ≡ ((a && b) && c)
    grouped true true true = refl
    grouped true true false = refl
    grouped true false c = refl
    grouped false b c = refl

-- what is found decides
unreal_found : (ps : List (List ℕ)) → MatchOption (find test ps) (false ≡ unreal_in ps) (λ (t : List ℕ). (3 ≤ length t) × (is_unreal (drop 3 t) ≡ unreal_in ps))
unfolding unreal_in
unreal_found [] = refl
unreal_found (p ∷ ps) =
    ⊎_elim (λ (t : test p ≡ true). let b = sym (test_is p) ∙ t in rw (t, b) (long_52 p b, refl))
    (λ (f : test p ≡ false). let b = sym (test_is p) ∙ f in rw (f, b) (unreal_found ps))
    (two (test p))

pub unreal_some : {r : Option (List ℕ)} (t s : List ℕ) → r ≡ Some t → r ≡ find test (cut s) → (3 ≤ length t) × (is_unreal (drop 3 t) ≡ unreal_in (pieces s))
unreal_some t s i e = rw (← unreal_cut s) (MatchOption-at_some _ _ t (sym e ∙ i) (unreal_found (cut s)))

pub unreal_none : {r : Option (List ℕ)} (s : List ℕ) → r ≡ None → r ≡ find test (cut s) → false ≡ unreal_in (pieces s)
unreal_none s i e = rw (← unreal_cut s) (MatchOption-at_none _ _ (sym e ∙ i) (unreal_found (cut s)))
