-- `tail_at`. The invariant: what is left of the marks gives the same answer. Assumes nothing.
use Rattle.std.proofs.Common.{◌≡◌, ◌≤◌, ◌+◌, length, drop}
use Rattle.market_spec.specs.File.{tail_fault, marks}
use Rattle.market.proofs.tail_at.Given as goal

abbrev pub invariant-loop-i : goal.invariant-loop-i
invariant-loop-i l = (l.at + l.i ≤ length l.s) × (tail_fault (drop l.i marks) (l.at + l.i) l.s ≡ tail_fault marks l.at l.s)
