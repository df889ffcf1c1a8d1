-- `parts_in`: each arm knows its type, and its spans are the callee's; no other type has one.
-- Assumes nothing.
use Rattle.std.proofs.Common.{◌≡◌, refl, ℕ, List, []}
use Rattle.rules.specs.declared.Kind.{Kind}
use Rattle.rules.specs.declared.Kind.TheVariants.{S001, S002, S003, P001, P002, M101, M102, M201, Unknown}
use Rattle.rules.specs.Table.{suits}
use Rattle.private.specs.Private.{private_of}
use Rattle.private.specs.Parts.{suited_spans}
use Rattle.private.specs.PartsLaws.{suited_nothing}
use Rattle.private.proofs.parts_in.Goals as goal

nothing : (k : Kind) (b : List ℕ) → (k ≡ S001 → ⊥) → (k ≡ S002 → ⊥) → (k ≡ P002 → ⊥) → (k ≡ M201 → ⊥) → private_of k b ≡ []
nothing S001 b p q r s = absurd (p refl)
nothing S002 b p q r s = absurd (q refl)
nothing S003 b p q r s = refl
nothing P001 b p q r s = refl
nothing P002 b p q r s = absurd (r refl)
nothing M101 b p q r s = refl
nothing M102 b p q r s = refl
nothing M201 b p q r s = absurd (s refl)
nothing Unknown b p q r s = refl

pub returns-in-S001 : goal.returns-in-S001
unfolding suited_spans suits
returns-in-S001 c = rw c.in-S001.is c.comp_ids.ensures

pub returns-in-S002 : goal.returns-in-S002
unfolding suited_spans suits
returns-in-S002 c = rw c.in-S002.is c.only.ensures

pub returns-in-P002 : goal.returns-in-P002
unfolding suited_spans suits
returns-in-P002 c = rw c.in-P002.is c.only-in-P002.ensures

pub returns-in_default : goal.returns-in_default
returns-in_default c =
    let d = c.in_default in
    suited_nothing _ _ (nothing _ _ d.not-S001 d.not-S002 d.not-P002 d.not-M201)
