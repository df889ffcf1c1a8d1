-- `width`: one more than the logarithm. Assumes nothing.
use Rattle.std.proofs.Common.{arith}
use Rattle.digits.specs.Widths.{width_log}
use Rattle.digits.proofs.width.Goals as goal

pub returns : goal.returns
returns c = width_log _ _ (omega arith) (omega arith) (omega arith)
