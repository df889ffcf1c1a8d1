-- The invariant: the channels so far are named, and what is left answers what all do (`Begun`).
-- Assumes nothing.
use Rattle.std.proofs.Common.{◌≡◌}
use Rattle.month.proofs.StartLaws.{Begun}
use Rattle.month.proofs.Named.of.Given as goal

abbrev pub invariant-loop-channel : goal.invariant-loop-channel
invariant-loop-channel l = Begun l.channels l.names.channels l.names.count × (l.names.count ≡ l.channel-index)
