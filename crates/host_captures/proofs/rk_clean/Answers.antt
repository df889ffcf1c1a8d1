-- `rk_clean`: the cleaner's paper is told, and the buffer is as it left it. Assumes nothing.
use mathlib.Core.Path.{sym, ap, ◌∙◌}
use Rattle.terms.specs.Paper.{one_number}
use Rattle.host_words.specs.Told.{tells_done, tells_why}
use Rattle.clean.specs.Papers.{clean_paper}
use Rattle.host_captures.proofs.rk_clean.Goals as goal

pub returns-in-Ok : goal.returns-in-Ok
returns-in-Ok c = (tells_done _ _ _ (sym (ap clean_paper c.in-Ok.is) ∙ c.clean.ensures.0), c.clean.ensures.1)

pub returns-in-Err : goal.returns-in-Err
returns-in-Err c = (tells_why _ _ c.in-Err.why _ c.from.ensures (one_number (sym (ap clean_paper c.in-Err.is) ∙ c.clean.ensures.0)), c.clean.ensures.1)
