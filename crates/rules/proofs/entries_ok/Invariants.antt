-- `entries_ok`. The invariant: the i entries passed are right. Assumes nothing.
use Rattle.std.proofs.Common.{◌≡◌, true}
use Rattle.rules.specs.Fields.{entries_ok}
use Rattle.rules.proofs.entries_ok.Given as goal

abbrev pub invariant-loop-i : goal.invariant-loop-i
invariant-loop-i l = entries_ok l.i l.w l.b ≡ true
