-- `repaint`: all spans are painted, and the sum that goes with them is stored. Assumes nothing.
use native.Mathlib.Omega.{arith}
use Prim.Native.Nat.{ℕ, ◌+◌}
use mathlib.Core.Path.{ap, ◌∙◌}
use mathlib.Core.List.{List}
use lib.ListN.{take, drop}
use Rattle.private.proofs.Spans.{small_kept}
use Rattle.scrub.proofs.repaint.Goals as goal

pub store_sum-requires : goal.store_sum-requires
store_sum-requires c =
    let p = c in
    let s = p in
    let a = s.args in
    let small = small_kept a.kind a.n a.buf.now (omega arith) s.requires.1.0 s.requires.1.1.1 in
    (omega arith, (p.paint_all-w.ensures.1, ap (λ (x : List ℕ). take 3 (drop (24 + a.n) x)) p.paint_all-w.ensures.0 ∙ small))
