-- The spans that are told one by one, from number 0 up to the first empty one, are exactly the
-- private bytes of a body, and lie within it.
use Rattle.std.specs.Prelude.{ℕ, zero, suc, ◌+◌, ◌<◌, ◌≤◌, ◌≡◌, refl, true, List, [], ◌∷◌, length}
use Rattle.std.proofs.Common.{inl, inr, ⊎_elim, arith}
use Rattle.rules.specs.declared.Kind.{Kind}
use Rattle.rules.specs.Table.{suits}
use Rattle.private.specs.declared.Span.{Span}
use Rattle.private.specs.Private.{private_of, span_at}
use Rattle.private.specs.Paint.{Inside, within_at}
use Rattle.private.specs.PrivateLaws.{private_within}
use Rattle.private.proofs.PrivateLaws.{private_is}
use Rattle.private.proofs.Full.{Full, full}
use Rattle.private.specs.Cover.{In, Covers}

-- a byte lies in one of the spans exactly where it lies in one that is told
told_from : (ps : List Span) (j : ℕ) → Inside ps j → (i : ℕ) × In ps i j
told_from [] j h = absurd h
told_from (p ∷ ps) j h =
    ⊎_elim (λ (x : (p.place ≤ j) × (j < p.place + p.len)). (0, x)) (λ (x : Inside ps j). let r = told_from ps j x in (suc r.0, r.1)) h

told_to : (ps : List Span) (i j : ℕ) → In ps i j → Inside ps j
told_to [] i j h = absurd (omega (arith, h.1))
told_to (p ∷ ps) zero j h = inl h
told_to (p ∷ ps) (suc i) j h = inr (told_to ps i j h)

ends : (ps : List Span) (i m : ℕ) → Full ps → i ≤ m → (span_at i ps).len ≡ 0 → (span_at m ps).len ≡ 0
ends [] i m f l e = refl
ends (p ∷ []) zero zero f l e = e
ends (p ∷ []) zero (suc m) f l e = refl
ends (p ∷ []) (suc i) zero f l e = absurd (omega arith)
ends (p ∷ []) (suc i) (suc m) f l e = refl
ends (p ∷ q ∷ ps) zero m f l e = absurd (omega (arith, f.0, e))
ends (p ∷ q ∷ ps) (suc i) zero f l e = absurd (omega arith)
ends (p ∷ q ∷ ps) (suc i) (suc m) f l e = ends (q ∷ ps) i m f.1 (omega arith) e

pub spans_cover : (k : Kind) (b : List ℕ) → suits k (length b) ≡ true → Covers k b
spans_cover k b h =
    record {
      exactly = λ j. (λ p. told_from (private_of k b) j ((private_is k b j).1 p), λ t. (private_is k b j).0 (told_to (private_of k b) t.0 j t.1));
      within = λ i. within_at (length b) i (private_of k b) (private_within k b h);
      ends_there = λ i m. ends (private_of k b) i m (full k b);
    }
