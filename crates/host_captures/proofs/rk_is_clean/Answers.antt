-- `rk_is_clean`: the first place where the capture is not clean, told as 1 and the place or 0 and
-- 0. Assumes nothing.
use mathlib.Core.Path.{sym, ap, ◌∙◌}
use Rattle.clean.specs.Papers.{check_paper}
use Rattle.host_words.specs.Told.{perhaps, retold, tells_done}
use Rattle.host_captures.specs.Captures.{clean_told}
use Rattle.host_captures.proofs.rk_is_clean.Goals as goal

pub returns-in-None : goal.returns-in-None
unfolding clean_told
returns-in-None c = tells_done _ _ _ (ap (retold perhaps) (sym (ap check_paper c.in-None.is) ∙ c.is_clean.ensures))

pub returns-in-Some : goal.returns-in-Some
unfolding clean_told
returns-in-Some c = tells_done _ _ _ (ap (retold perhaps) (sym (ap check_paper c.in-Some.is) ∙ c.is_clean.ensures))
