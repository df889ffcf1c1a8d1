-- `paint_span`: the part that is painted has the span's bytes. Assumes nothing.
use native.Mathlib.Omega.{arith}
use Prim.Native.Nat.{ℕ, ◌+◌, ◌-◌}
use mathlib.Core.Path.{◌≡◌, ap, ◌∙◌}
use mathlib.Core.List.{List}
use lib.ListN.{take, drop, replicate}
use lib.Seq.{take-take}
use Rattle.octets.specs.Octets.{laid, sum_after}
use Rattle.private.specs.declared.Span.{Span}
use Rattle.private.specs.Within.{span_painted}
use Rattle.scrub.proofs.Parts.{filled}
use Rattle.scrub.proofs.paint_span.Goals as goal

part_is : (p : Span) (d : List ℕ) → laid (24 + p.place) (replicate (24 + p.place + p.len - (24 + p.place)) p.fill) d ≡ span_painted p d
part_is p d =
    let l : 24 + p.place + p.len - (24 + p.place) ≡ p.len = omega arith in
    ap (λ (k : ℕ). laid (24 + p.place) (replicate k p.fill) d) l

-- the bytes lent are the span's
lent_is : (p : Span) (d : List ℕ) → take p.len (take (24 + p.place + p.len - (24 + p.place)) (drop (24 + p.place) d)) ≡ take p.len (drop (24 + p.place) d)
lent_is p d = take-take p.len (24 + p.place + p.len - (24 + p.place)) (drop (24 + p.place) d) (omega arith)

pub returns : goal.returns
returns c =
    let a = c.args in
    let from = 24 + a.s.place in (
      filled from (from + a.s.len) a.s.fill a.buf.now _ (omega arith) (omega (arith, c.requires)) c.fill.ensures ∙ part_is _ _,
      c.sum_after-w.ensures ∙ ap (λ (l : List ℕ). sum_after a.v l a.s.fill) (lent_is a.s a.buf.now),
    )
