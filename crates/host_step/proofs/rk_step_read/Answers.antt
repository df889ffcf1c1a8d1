-- `rk_step_read`: reading's paper is told. Assumes nothing.
use mathlib.Core.Path.{sym, ◌∙◌}
use Rattle.terms.specs.Paper.{one_number}
use Rattle.step_frame.specs.Papers.{step_pos}
use Rattle.host_words.specs.Told.{tells_done, tells_refused}
use Rattle.host_step.proofs.rk_step_read.Goals as goal

pub returns-in-Ok : goal.returns-in-Ok
returns-in-Ok c = tells_done _ _ _ c.in-Ok.ensures

pub returns-in-Err : goal.returns-in-Err
returns-in-Err c = tells_refused _ _ _ (c.from.ensures ∙ one_number c.in-Err.ensures) (λ z. step_pos c.in-Err.why (sym c.from.ensures ∙ z))
