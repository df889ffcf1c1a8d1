-- `entry_at`: each case by its outcome; the size tells the stream. Assumes nothing.
use Rattle.entries.specs.Outcomes.{entry_short, entry_long}
use Rattle.entries.specs.Places.{size_short, size_long}
use mathlib.Core.Path.{sym}
use Rattle.entries.proofs.entry_at.Goals as goal

pub returns-then-w-eq10 : goal.returns-then-w-eq10
returns-then-w-eq10 c = rw (c.at-kind.ensures, c.at-price.ensures) (sym (entry_short _ _ (size_short _ _ c.requires.0 c.if-w-eq10.true)))

pub returns : goal.returns
returns c = rw (c.at-kind.ensures, c.at-price.ensures, c.at-size.ensures, c.at-position.ensures) (sym (entry_long _ _ (size_long _ _ c.requires.0 c.if-w-eq10.false)))
