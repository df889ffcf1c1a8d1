-- `unreal`. Assumes nothing.
use Rattle.step_tags.specs.Laws.{said_unreal, said_none}
use mathlib.Core.Path.{sym, ◌∙◌}
use Rattle.step_tags.proofs.unreal.Goals as goal

pub returns-in-Some : goal.returns-in-Some
returns-in-Some c = rw c.is_real.ensures (said_unreal _ _ (sym c.in-Some.is ∙ c.time_of.ensures))

pub returns-in-None : goal.returns-in-None
returns-in-None c = (said_none _ (sym c.in-None.is ∙ c.time_of.ensures)).0
