-- What the parts promise is the test. Assumes nothing.
use mathlib.Core.Path.{sym, ◌∙◌}
use Rattle.session.specs.Taken.{takes}
use Rattle.session.proofs.Session.takes.Goals as goal

pub returns-then-not-is_other : goal.returns-then-not-is_other
unfolding takes
returns-then-not-is_other c = rw (sym c.is_other.ensures ∙ c.if-not-is_other.true)

pub returns : goal.returns
unfolding takes
returns c = rw (sym c.is_other.ensures ∙ c.if-not-is_other.false, c.is_listening.ensures, c.misnumbered.ensures, c.ended.ensures)
