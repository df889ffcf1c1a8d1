-- The invariant: the places filled are channels. The measure is what is left. Assumes nothing.
use Prim.Native.Nat.{ℕ, ◌+◌, ◌-◌, min}
use mathlib.Core.Path.{◌≡◌, refl, sym, ap, ◌∙◌}
use lib.ListN.{get_or}
use borrow.Author.Rules.{rules}
use Rattle.month.proofs.Fill.{Filled, fill_start, fill_step, fill_end, zero_at, zeros_long}
use Rattle.host_month.specs.Words.{channels_in}
use Rattle.host_month.proofs.channels_in.Given as goal

abbrev pub invariant-loop-i : goal.invariant-loop-i
invariant-loop-i l = Filled (λ j. min (get_or l.words j 0) 65535) 32 l.i l.channels

abbrev pub decreases-loop-i : goal.decreases-loop-i
decreases-loop-i l = 32 - l.i
