-- `is_real`: what is no time is not real. Assumes nothing.
use Rattle.step_tags.specs.Laws.{said_real, said_none}
use mathlib.Core.Path.{sym, ◌∙◌}
use Rattle.step_tags.proofs.is_real.Goals as goal

pub returns-in-Some : goal.returns-in-Some
returns-in-Some c = c.is_real.ensures ∙ said_real _ _ (sym c.in-Some.is ∙ c.time_of.ensures)

pub returns-in-None : goal.returns-in-None
returns-in-None c = (said_none _ (sym c.in-None.is ∙ c.time_of.ensures)).1
