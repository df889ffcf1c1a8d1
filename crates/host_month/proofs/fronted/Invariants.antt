-- The invariant: the places filled are channels. The measure is what is left. Assumes nothing.
use Prim.Native.Nat.{ℕ, ◌+◌, ◌-◌, min}
use mathlib.Core.Path.{◌≡◌, refl, sym, ap, ◌∙◌}
use lib.ListN.{get_or}
use borrow.Author.Rules.{rules}
use Rattle.month.proofs.Fill.{Filled, fill_start, fill_step, zero_at, zeros_long}
use Rattle.host_month.proofs.WordLaws.{fronted_of}
use Rattle.host_month.proofs.fronted.Given as goal

abbrev pub invariant-loop-i : goal.invariant-loop-i
invariant-loop-i l = Filled (λ j. get_or l.channels j 0) 226 l.i l.words

abbrev pub decreases-loop-i : goal.decreases-loop-i
decreases-loop-i l = 32 - l.i
