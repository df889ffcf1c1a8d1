-- The view of a type by what the types share: those with a tick number, and those with none.
use Rattle.std.specs.Prelude.{◌≡◌, refl, ◌⊎◌, List, ℕ}
use Rattle.std.proofs.Common.{inl, inr}
use Rattle.octets.specs.Octets.{be}
use Rattle.rules.specs.declared.Kind.{Kind}
use Rattle.rules.specs.declared.Kind.TheVariants.{S001, S002, S003, P001, P002, M101, M102, M201, Unknown}
use Rattle.frame_view.specs.View.{viewed, view_of}

pub view_tick : (k : Kind) (b : List ℕ) → (k ≡ P001) ⊎ (k ≡ M201) → viewed k (be 2 1 b) (be 8 3 b) 0 0 0 ≡ view_of k b
unfolding view_of
view_tick k b (inl e) = rw e refl
view_tick k b (inr e) = rw e refl

pub view_blank : (k : Kind) (b : List ℕ) → (k ≡ P001 → ⊥) → (k ≡ P002 → ⊥) → (k ≡ M201 → ⊥) → viewed k 0 0 0 0 0 ≡ view_of k b
unfolding view_of
view_blank S001 b p q r = refl
view_blank S002 b p q r = refl
view_blank S003 b p q r = refl
view_blank P001 b p q r = absurd (p refl)
view_blank P002 b p q r = absurd (q refl)
view_blank M101 b p q r = refl
view_blank M102 b p q r = refl
view_blank M201 b p q r = absurd (r refl)
view_blank Unknown b p q r = refl
