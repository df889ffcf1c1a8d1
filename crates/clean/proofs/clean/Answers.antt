-- `clean`: either the cleaned capture does not fit, or the pass wrote it all. Assumes nothing.
use mathlib.Core.Path.{sym, ◌∙◌}
use Rattle.clean.specs.Answers.{clean_done}
use Rattle.clean_spec.specs.Answers.{clean_full}
use Rattle.clean.proofs.clean.Goals as goal

pub returns-then-not-takes_all : goal.returns-then-not-takes_all
returns-then-not-takes_all c = clean_full _ _ (sym c.takes_all.ensures ∙ c.if-not-takes_all.true)

pub returns : goal.returns
returns c = clean_done _ _ c.pass.ensures.0 _ _ (sym c.takes_all.ensures ∙ c.if-not-takes_all.false) c.pass.ensures.1
