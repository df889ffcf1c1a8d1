-- `said`. The invariant: the bytes passed are digits, and v is what they say. Assumes nothing.
use Rattle.std.proofs.Common.{◌≡◌, true, take}
use Rattle.digits.specs.Digits.{all_digits, said_by}
use Rattle.digits.proofs.said.Given as goal

abbrev pub invariant-loop-b : goal.invariant-loop-b
invariant-loop-b l = (all_digits (take l.b-index l.b-items) ≡ true) × (l.v ≡ said_by (take l.b-index l.b-items))
