-- The invariant: the places passed have fresh rows. Assumes nothing.
use Rattle.month.proofs.PassLaws.{Opened}
use Rattle.month.proofs.Named.fresh_rows.Given as goal

abbrev pub invariant-loop-j : goal.invariant-loop-j
invariant-loop-j l = Opened l.self.channels l.self.count l.j l.rows
