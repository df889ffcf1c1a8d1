-- Digits are laid from the last on. Assumes nothing.
use Rattle.std.proofs.Common.{arith}
use Rattle.octets.specs.Overlays.{laid_step, laid_none}
use Rattle.digits.specs.Laws.{decimal_last, decimal_none, length_decimal}
use Rattle.digits.proofs.store_digits.Goals as goal

pub loop-k-preserved : goal.loop-k-preserved
loop-k-preserved c = laid_step _ _ _ _ _ _ _ (decimal_last _ _ (omega arith)) (length_decimal _ _) (omega arith) c.loop-k.invariant

pub returns : goal.returns
returns c = laid_none _ _ _ _ (decimal_none _ _ (omega arith)) c.loop-k.invariant
