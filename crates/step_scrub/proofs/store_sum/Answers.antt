-- `store_sum`. Assumes nothing.
use Rattle.digits.specs.Laws.{length_decimal}
use Rattle.octets.specs.Papers.{laid_there}
use lib.ListN.{length}
use borrow.Author.Tests.{le-leb}
use mathlib.Core.Path.{◌∙◌}
use Prim.Native.Nat.{◌+◌}
use native.Mathlib.Omega.{arith}
use Rattle.step_scrub.proofs.store_sum.Goals as goal

pub returns : goal.returns
returns c = let a = c.args in c.put_digits.ensures.1 ∙ laid_there (a.n + 3) 3 _ a.buf.now (length_decimal 3 _) (le-leb (a.n + 3 + 3) (length a.buf.now) (omega arith))
