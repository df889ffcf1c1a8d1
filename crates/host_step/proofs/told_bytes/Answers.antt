-- `told_bytes`: a refusal tells nothing; else the count of bytes is told. Assumes nothing.
use mathlib.Core.Path.{sym, ap, ◌∙◌}
use Rattle.terms.specs.Paper.{one_number}
use Rattle.step_frame.specs.Papers.{step_written_paper, step_pos}
use Rattle.host_words.specs.Told.{tells_done, tells_refused}
use Rattle.host_step.proofs.told_bytes.Goals as goal

pub returns-in-Ok : goal.returns-in-Ok
returns-in-Ok c = tells_done _ _ _ (sym (ap step_written_paper c.in-Ok.is))

pub returns-in-Err : goal.returns-in-Err
returns-in-Err c = tells_refused _ _ _ (c.from.ensures ∙ sym (one_number (ap step_written_paper c.in-Err.is))) (λ z. step_pos c.in-Err.why (sym c.from.ensures ∙ z))
