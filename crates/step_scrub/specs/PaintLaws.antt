-- What painting leaves: the pieces, their tags, and all that reading judges.
use Prim.Native.Nat.{ℕ, suc, ◌<◌}
use Rattle.std.specs.Prelude.{◌≡◌, refl, Bool, true, false, not, ◌&&◌, eqb, take, drop}
use Rattle.std.proofs.Common.{ap, ◌∙◌, arith, take_at, drop_at}
use mathlib.Core.List.{List, [], ◌∷◌, ◌++◌, append_assoc}
use Rattle.std.proofs.Math.Logic.{⊎_elim}
use Rattle.std.proofs.Math.ListN.{length, length-append}
use borrow.Author.Tests.{eq-eqb, not-true}
use Rattle.terms.specs.Cases.{two}
use Rattle.digits.specs.Laws.{both}
use Rattle.step_spec.specs.Pieces.{SOH, until_of, pieces, closed}
use Rattle.step_spec.specs.PieceLaws.{until_here, until_on, pieces_cut, closed_cut}
use Rattle.step_scrub.specs.Scrubbed.{paint_all, painted}

-- A DELIMITER THAT IS NOT THERE

unfoldable pub lacks : ℕ → List ℕ → Bool
lacks b [] = true
lacks b (x ∷ xs) = not (eqb x b) && lacks b xs

lacks_cons : (b x : ℕ) (xs : List ℕ) → lacks b (x ∷ xs) ≡ true → (eqb x b ≡ false) × (lacks b xs ≡ true)
unfolding lacks
lacks_cons b x xs h = let p = both (not (eqb x b)) (lacks b xs) h in (not-true (eqb x b) p.0, p.1)

pub lacks_until : (b : ℕ) (s t : List ℕ) → lacks b s ≡ true → until_of b (s ++ (b ∷ t)) ≡ length s
lacks_until b [] t h = until_here b b t (eq-eqb b b refl)
lacks_until b (x ∷ xs) t h = let p = lacks_cons b x xs h in until_on b x (xs ++ (b ∷ t)) p.0 ∙ ap suc (lacks_until b xs t p.1)

pub lacks_append : (b : ℕ) (s t : List ℕ) → lacks b s ≡ true → lacks b t ≡ true → lacks b (s ++ t) ≡ true
unfolding lacks
lacks_append b [] t h k = k
lacks_append b (x ∷ xs) t h k = let p = both (not (eqb x b)) (lacks b xs) h in rw (p.0, lacks_append b xs t p.1 k)

-- the bytes before the first delimiter
pub lacks_front : (b : ℕ) (s : List ℕ) → lacks b (take (until_of b s) s) ≡ true
unfolding lacks until_of
lacks_front b [] = refl
lacks_front b (x ∷ xs) = ⊎_elim (λ (t : eqb x b ≡ true). rw t) (λ (f : eqb x b ≡ false). rw (f, f) (lacks_front b xs)) (two (eqb x b))

-- THE PIECES OF WHAT IS PAINTED

module _ (x y : List ℕ) (l : lacks SOH x ≡ true) where
  u_is : until_of SOH (x ++ (SOH ∷ y)) ≡ length x
  u_is = lacks_until SOH x y l

  inside : until_of SOH (x ++ (SOH ∷ y)) < length (x ++ (SOH ∷ y))
  inside = rw u_is (simp length-append (omega arith))

  rest_is : drop (suc (until_of SOH (x ++ (SOH ∷ y)))) (x ++ (SOH ∷ y)) ≡ y
  rest_is =
      let a : x ++ (SOH ∷ y) ≡ (x ++ (SOH ∷ [])) ++ y = simp append_assoc in
      rw u_is (ap (drop (suc (length x))) a ∙ drop_at (x ++ (SOH ∷ [])) y (suc (length x)) (simp length-append (omega arith)))

  pub pieces_joined : pieces (x ++ (SOH ∷ y)) ≡ x ∷ pieces y
  pieces_joined = pieces_cut (x ++ (SOH ∷ y)) inside ∙ rw (rest_is, u_is, take_at x (SOH ∷ y) (length x) refl)

  pub closed_joined : closed (x ++ (SOH ∷ y)) ≡ closed y
  closed_joined = closed_cut (x ++ (SOH ∷ y)) inside ∙ rw rest_is

pub record Kept (t : List ℕ) : Type 0 where
  pub pieces_are : pieces (painted t) ≡ paint_all (pieces t)
  pub closed_is : closed (painted t) ≡ true
