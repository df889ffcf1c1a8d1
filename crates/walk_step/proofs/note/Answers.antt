-- `note`: with room the record is laid, without it nothing is. Assumes nothing.
use mathlib.Core.Path.{sym}
use Rattle.walk_spec.specs.Tables.{noted_put, noted_full}
use Rattle.walk_step.proofs.note.Goals as goal

pub returns-then-k-out : goal.returns-then-k-out
returns-then-k-out c = noted_put _ _ _ _ c.if-k-out.true c.put.ensures.1

pub returns-else-k-out : goal.returns-else-k-out
returns-else-k-out c = sym (noted_full _ _ _ c.if-k-out.false)
