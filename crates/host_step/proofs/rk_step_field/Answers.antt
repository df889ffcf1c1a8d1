-- `rk_step_field`: the field's paper is told. Assumes nothing.
use mathlib.Core.Path.{sym, ◌∙◌}
use native.Mathlib.Omega.{arith}
use Rattle.terms.specs.Paper.{one_number}
use Rattle.host_words.specs.Told.{tells_done, tells_refused}
use Rattle.host_step.proofs.rk_step_field.Goals as goal

pub returns-in-Some : goal.returns-in-Some
returns-in-Some c = tells_done _ _ _ c.in-Some.ensures

pub returns-in-None : goal.returns-in-None
returns-in-None c = tells_refused _ _ _ (c.from.ensures ∙ one_number c.in-None.ensures) (λ z. omega (arith, sym c.from.ensures ∙ z))
