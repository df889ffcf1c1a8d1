-- Laws for later walks: an answer but 1 stays when bytes follow.
use Rattle.std.specs.Prelude.{ℕ, ◌≡◌, true, false, List, [], ◌∷◌, ◌++◌, eqb}
use Rattle.std.proofs.Math.Path.{refl}
use Rattle.std.proofs.Math.Logic.{⊎_elim}
use Rattle.terms.specs.Cases.{two}
use Rattle.step_tags.specs.Table.{among, types}
use Rattle.step_spec.specs.Pieces.{SOH}
use Rattle.step_spec.specs.Frame.{front, kind_check}

pub front_stays : (why : ℕ) (ls s t : List ℕ) → (front why ls s ≡ 1 → ⊥) → front why ls (s ++ t) ≡ front why ls s
unfolding front
front_stays why [] s t h = refl
front_stays why (l ∷ ls) [] t h = absurd (h refl)
front_stays why (l ∷ ls) (x ∷ xs) t h =
    ⊎_elim (λ (e : eqb x l ≡ true). rw e (front_stays why ls xs t (λ (o : front why ls xs ≡ 1). h (rw e o)))) (λ (e : eqb x l ≡ false). rw e) (two (eqb x l))

pub kind_stays : (s t : List ℕ) → (kind_check s ≡ 1 → ⊥) → kind_check (s ++ t) ≡ kind_check s
unfolding kind_check
kind_stays [] t h = absurd (h refl)
kind_stays (x ∷ xs) t h =
    ⊎_elim (λ (e : among x types ≡ true). rw e (front_stays 25 (SOH ∷ []) xs t (λ (o : front 25 (SOH ∷ []) xs ≡ 1). h (rw e o)))) (λ (e : among x types ≡ false). rw e) (two (among x types))
