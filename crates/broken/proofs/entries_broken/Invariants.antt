-- `entries_broken`. The invariant: the entries passed hold. Assumes nothing.
use Rattle.std.proofs.Common.{◌≡◌, true}
use Rattle.rules.specs.Fields.{entries_ok}
use Rattle.broken.proofs.entries_broken.Given as goal

abbrev pub invariant-loop-i : goal.invariant-loop-i
invariant-loop-i l = entries_ok l.i l.w l.b ≡ true
