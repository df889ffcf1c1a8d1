-- One span more painted, with the sum that goes with it. Assumes nothing.
use Prim.Native.Nat.{ℕ, ◌+◌, ◌≤◌}
use mathlib.Core.Path.{◌≡◌, sym, ap, ◌∙◌}
use mathlib.Core.Bool.{true}
use mathlib.Core.List.{List}
use native.Mathlib.Omega.{arith}
use lib.ListN.{length, take, drop, length-drop}
use lib.Seq.{length-take-le, take_all}
use Rattle.octets.specs.Octets.{laid, sum8, sum_after}
use Rattle.octets.proofs.Sums.{sum_after_part}
use Rattle.rules.specs.declared.Kind.{Kind}
use Rattle.rules.specs.Table.{suits}
use Rattle.private.specs.declared.Span.{Span}
use Rattle.private.specs.Private.{private_of, span_at}
use Rattle.private.specs.Parts.{suited_spans}
use Rattle.private.specs.PartsLaws.{suited_is}
use Rattle.private.specs.Scrub.{painted}
use Rattle.private.specs.Within.{body_in, span_painted}
use Rattle.private.proofs.Spans.{start, now_long, one_more_of, fits_of}

module _ (k : Kind) (n : ℕ) (d : List ℕ) (h : 24 + n ≤ length d) (m : suits k n ≡ true) where
  -- what is told of the body is all of its private spans
  pub told_all : (ps : List Span) → ps ≡ suited_spans k (body_in n d) → ps ≡ private_of k (body_in n d)
  told_all ps e = e ∙ suited_is k (body_in n d) (rw (length-take-le n (drop 24 d) (rw (length-drop 24 d) (omega arith))) m)

  -- the buffer after i spans, and its sum
  abbrev pub Painted : ℕ → List ℕ → ℕ → Type 0
  Painted i e w = (e ≡ laid 24 (painted (take i (private_of k (body_in n d))) (body_in n d)) d) × (w ≡ sum8 (take (24 + n) e))

  pub at_start : (w : ℕ) → w ≡ sum8 (take (24 + n) d) → Painted 0 d w
  at_start w s = (sym (start k n d h m), s)

  module _ (i : ℕ) (p : Span) (e : List ℕ) (w : ℕ) (r : p ≡ span_at i (private_of k (body_in n d))) (so : Painted i e w) where
    pub room_for : 24 + (p.place + p.len) ≤ length e
    room_for = omega (arith, fits_of k n d h m i e so.0 p r, now_long k n d h m i e so.0)

    pub painted_on : (e' : List ℕ) (w' : ℕ) → e' ≡ span_painted p e → w' ≡ sum_after w (take p.len (drop (24 + p.place) e)) p.fill → Painted (i + 1) e' w'
    painted_on e' w' x y =
        let f = fits_of k n d h m i e so.0 p r in
        let l = now_long k n d h m i e so.0 in (
          x ∙ one_more_of k n d h m i e so.0 p r,
          y ∙ sum_after_part e (24 + n) (24 + p.place) p.len p.fill w (omega (arith, f)) (omega (arith, l)) so.1 ∙ ap (λ (z : List ℕ). sum8 (take (24 + n) z)) (sym x),
        )

  -- after as many as there are, all are painted
  pub painted_all : (i : ℕ) (e : List ℕ) (w : ℕ) (ps : List Span) → ps ≡ private_of k (body_in n d) → length ps ≤ i → Painted i e w
      → (e ≡ laid 24 (painted (private_of k (body_in n d)) (body_in n d)) d) × (w ≡ sum8 (take (24 + n) e))
  painted_all i e w ps r l so =
      let all : take i (private_of k (body_in n d)) ≡ private_of k (body_in n d) = take_all i (private_of k (body_in n d)) (rw (← r) l) in
      (so.0 ∙ ap (λ (qs : List Span). laid 24 (painted qs (body_in n d)) d) all, so.1)
