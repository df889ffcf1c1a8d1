-- The invariant: the sums so far are laid. The measure is what is left. Assumes nothing.
use Prim.Native.Nat.{ℕ, ◌+◌, ◌-◌, min}
use mathlib.Core.Path.{◌≡◌, refl, sym, ap, ◌∙◌}
use lib.ListN.{get_or}
use borrow.Author.Rules.{rules}
use Rattle.host_month.proofs.WordLaws.{Laying, laying_start, laying_step, laying_end}
use Rattle.host_month.proofs.laid.Given as goal

abbrev pub invariant-loop-k : goal.invariant-loop-k
invariant-loop-k l = Laying l.initial.words l.sums l.k l.words

abbrev pub decreases-loop-k : goal.decreases-loop-k
decreases-loop-k l = 192 - l.k
