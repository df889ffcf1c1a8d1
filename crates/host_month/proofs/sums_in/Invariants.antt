-- The invariant: the places filled are sums. The measure is what is left. Assumes nothing.
use Prim.Native.Nat.{ℕ, ◌+◌, ◌-◌, min}
use mathlib.Core.Path.{◌≡◌, refl, sym, ap, ◌∙◌}
use lib.ListN.{get_or}
use borrow.Author.Rules.{rules}
use Rattle.month.proofs.Fill.{Filled, fill_start, fill_step, fill_end, zero_at, zeros_long}
use Rattle.host_month.specs.Words.{sums_in}
use Rattle.host_month.proofs.sums_in.Given as goal

abbrev pub invariant-loop-k : goal.invariant-loop-k
invariant-loop-k l = Filled (λ j. get_or l.words (34 + j) 0) 192 l.k l.sums

abbrev pub decreases-loop-k : goal.decreases-loop-k
decreases-loop-k l = 192 - l.k
