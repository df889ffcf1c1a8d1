-- `judge_lines`. The invariant: what is left gives the same answer, and counts on (`JudgeLeft`).
-- The measure is the bytes left. Assumes nothing.
use Rattle.std.proofs.Common.{◌-◌, length}
use Rattle.market_values.specs.Writing.{JudgeLeft}
use Rattle.market_values.proofs.judge_lines.Given as goal

abbrev pub invariant-loop-p : goal.invariant-loop-p
invariant-loop-p l = JudgeLeft l.s l.p l.lines l.size

abbrev pub decreases-loop-p : goal.decreases-loop-p
decreases-loop-p l = length l.s - l.p
