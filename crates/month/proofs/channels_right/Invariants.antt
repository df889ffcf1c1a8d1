-- The invariant: every place passed is right. Assumes nothing.
use Rattle.month_spec.specs.Page.{place_right}
use Rattle.month.proofs.Loops.{Passed}
use Rattle.month.proofs.channels_right.Given as goal

abbrev pub invariant-loop-i : goal.invariant-loop-i
invariant-loop-i l = Passed (place_right l.channels l.named) 32 l.i
