-- `store_digits`: what is left of the number, laid over what stands there now, gives what is to be.
-- Assumes nothing.
use Rattle.std.proofs.Common.{◌≡◌}
use Rattle.octets.specs.Octets.{laid}
use Rattle.digits.specs.Digits.{decimal_of}
use Rattle.digits.proofs.store_digits.Given as goal

abbrev pub invariant-loop-k : goal.invariant-loop-k
invariant-loop-k l = laid l.at (decimal_of l.k l.x) l.d ≡ laid l.at (decimal_of l.n l.v) l.initial.d
