-- Span number i of short rows, a small sum stored, and all spans painted within a buffer.
use Rattle.std.specs.Prelude.{ℕ, zero, suc, ◌≤◌, ◌≡◌, refl, List, [], ◌∷◌}
use Rattle.std.proofs.Common.{sym}
use Rattle.std.proofs.Math.ListN.{length, get_or-eq_default}
use Rattle.private.specs.declared.Span.{Span}
use Rattle.private.specs.Private.{spaces, span_at}

-- behind the last span stands an empty one
pub span_past : (i : ℕ) (ps : List Span) → length ps ≤ i → spaces 0 0 ≡ span_at i ps
span_past i ps h = sym (get_or-eq_default ps (spaces 0 0) h)

-- so do empty ones in place of those that lack
pub one_padded : (i : ℕ) (p n : Span) → n ≡ spaces 0 0 → span_at i (p ∷ n ∷ n ∷ []) ≡ span_at i (p ∷ [])
one_padded zero p n e = refl
one_padded (suc zero) p n e = e
one_padded (suc (suc zero)) p n e = e
one_padded (suc (suc (suc i))) p n e = refl

pub two_padded : (i : ℕ) (p q n : Span) → n ≡ spaces 0 0 → span_at i (p ∷ q ∷ n ∷ []) ≡ span_at i (p ∷ q ∷ [])
two_padded zero p q n e = refl
two_padded (suc zero) p q n e = refl
two_padded (suc (suc zero)) p q n e = e
two_padded (suc (suc (suc i))) p q n e = refl
