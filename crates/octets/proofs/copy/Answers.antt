-- One byte more. Assumes nothing.
use Rattle.std.proofs.Common.{sym, arith}
use Rattle.octets.specs.Overlays.{laid_nil, laid_more}
use Rattle.octets.proofs.copy.Goals as goal

pub loop-i-init : goal.loop-i-init
loop-i-init c = sym (laid_nil _ _)

pub loop-i-preserved : goal.loop-i-preserved
loop-i-preserved c = laid_more _ _ _ _ _ (omega arith) (omega arith) c.loop-i.invariant
