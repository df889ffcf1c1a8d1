-- `store_sum`: the sum is one byte, and the three before it are 0 already. Assumes nothing.
use native.Mathlib.Omega.{arith}
use Prim.Native.Nat.{◌+◌}
use mathlib.Core.Path.{sym, ◌∙◌}
use Rattle.octets.specs.Overlays.{laid_one}
use Rattle.private.proofs.Spans.{summed_last}
use Rattle.scrub.proofs.store_sum.Goals as goal

pub returns : goal.returns
returns c =
    let a = c.args in
    sym (laid_one (a.n + 3) a.v a.buf.now (omega arith)) ∙ summed_last a.n a.v a.buf.now (omega arith) c.requires.1.0 c.requires.1.1
