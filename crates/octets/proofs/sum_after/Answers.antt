-- `sum_after`: by the sum of the bytes and their number. Assumes nothing.
use Rattle.std.proofs.Common.{arith}
use Rattle.octets.proofs.Sums.{sum_after_is}
use Rattle.octets.proofs.sum_after.Goals as goal

pub returns : goal.returns
returns c = rw (c.sum.ensures, c.part.ensures) (sum_after_is _ _ _ (omega arith))
