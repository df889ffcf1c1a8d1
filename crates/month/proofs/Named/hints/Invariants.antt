-- The invariant: the low byte of each channel passed has a named place. Assumes nothing.
use Rattle.month.specs.Naming.{Hints}
use Rattle.month.proofs.Named.hints.Given as goal

abbrev pub invariant-loop-j : goal.invariant-loop-j
invariant-loop-j l = Hints l.self.channels l.self.count l.j l.places
