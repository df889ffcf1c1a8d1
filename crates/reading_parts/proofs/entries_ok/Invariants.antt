-- `entries_ok`. The invariant: the entries passed are right. Assumes nothing.
use Rattle.std.proofs.Common.{◌≡◌, true, ◌++◌, take, drop}
use Rattle.rules.specs.Fields.{entries_ok}
use Rattle.reading_parts.proofs.entries_ok.Given as goal

abbrev pub invariant-loop-i : goal.invariant-loop-i
invariant-loop-i l = entries_ok l.i l.w (take l.len (drop 24 (l.first ++ l.second))) ≡ true
