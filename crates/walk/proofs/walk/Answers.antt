-- `walk`: either the records do not fit, or the pass wrote them all. Assumes nothing.
use Rattle.std.proofs.Common.{sym, ◌∙◌}
use Rattle.walk.specs.PassedLaws.{frames_few, walk_done}
use Rattle.walk_spec.specs.WalkLaws.{walk_full}
use Rattle.walk.proofs.walk.Goals as goal

pub returns-then-not-takes_all : goal.returns-then-not-takes_all
returns-then-not-takes_all c = walk_full _ _ _ (sym c.takes_all.ensures ∙ c.if-not-takes_all.true) c.opened.ensures

pub overflow_sub-result : goal.overflow_sub-result
overflow_sub-result c = frames_few _ _ c.pass-done.ensures.0

pub returns : goal.returns
returns c = walk_done _ _ c.pass-done.ensures.0 _ _ (sym c.takes_all.ensures ∙ c.if-not-takes_all.false) c.pass-done.ensures.1
