-- The invariant: the places filled are sums, and each fits. Assumes nothing.
use Rattle.month.specs.State.{sum_in, sum_fits_in}
use Rattle.month.proofs.Fill.{Filled}
use Rattle.month.proofs.Loops.{Passed}
use Rattle.month.proofs.summed.Given as goal

abbrev pub invariant-loop-k : goal.invariant-loop-k
invariant-loop-k l = Filled (sum_in l.sums l.figures) 192 l.k l.next × Passed (sum_fits_in l.sums l.figures) 192 l.k
