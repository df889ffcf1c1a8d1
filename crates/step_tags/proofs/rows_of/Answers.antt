-- `rows_of`: a type has its rows; what is none has no row. Assumes nothing.
use Rattle.step_tags.specs.Laws.{set_some, set_none}
use mathlib.Core.Path.{sym, ap, ◌∙◌}
use Rattle.step_tags.specs.declared.Rows.{Rows}
use Rattle.step_tags.proofs.rows_of.Goals as goal

pub returns-in-Some : goal.returns-in-Some
returns-in-Some c = ap (λ (r : Rows). r.has) (set_some _ _ (sym c.in-Some.is ∙ c.rows_in.ensures))

pub returns-in-None : goal.returns-in-None
returns-in-None c = sym (set_none _ (sym c.in-None.is ∙ c.rows_in.ensures)).0
