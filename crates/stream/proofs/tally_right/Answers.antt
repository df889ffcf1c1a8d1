-- `tally_right`: the counts together stay below the place, and the ledger is right.
-- Assumes nothing.
use native.Mathlib.Omega.{arith}
use mathlib.Core.Path.{◌∙◌}
use borrow.Author.Tests.{lt-leb}
use Rattle.stream_spec.specs.StateLaws.{tally_many, tally_own}
use Rattle.stream.proofs.tally_right.Goals as goal

pub returns-then-tally-place : goal.returns-then-tally-place
returns-then-tally-place c = c.ledger_right.ensures ∙ tally_own _ _ (omega (arith, c.if-tally-place.true))

pub returns-else-tally-place : goal.returns-else-tally-place
returns-else-tally-place c = lt-leb _ _ c.if-tally-place.false ∙ tally_many _ _ c.if-tally-place.false
