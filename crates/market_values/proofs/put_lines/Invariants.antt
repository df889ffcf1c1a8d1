-- `put_lines`. The invariant: what is left of the lines, laid over what stands there now, gives
-- what is to be (`PutLeft`). The measure is the bytes left. Assumes nothing.
use Rattle.std.proofs.Common.{◌≡◌, ◌-◌, length}
use Rattle.octets.specs.Octets.{laid}
use Rattle.market_spec.specs.LinesValues.{lines_text}
use Rattle.market_spec.specs.FileBytes.{values_given}
use Rattle.market_values.specs.Writing.{PutLeft}
use Rattle.market_values.proofs.put_lines.Given as goal

abbrev pub invariant-loop-p : goal.invariant-loop-p
invariant-loop-p l = (length l.out ≡ length l.initial.out) × PutLeft l.s l.p l.a l.out (laid 82 (lines_text (values_given l.s).lines) l.initial.out)

abbrev pub decreases-loop-p : goal.decreases-loop-p
decreases-loop-p l = length l.s - l.p
