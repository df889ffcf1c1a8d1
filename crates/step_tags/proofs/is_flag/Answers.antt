-- `is_flag`. Assumes nothing.
use Rattle.step_tags.specs.Forms.{is_flag}
use borrow.Author.Tests.{ne_eqb, eq-eqb}
use Rattle.step_tags.proofs.is_flag.Goals as goal

pub returns-then-v-eq1 : goal.returns-then-v-eq1
unfolding is_flag
returns-then-v-eq1 c = rw (eq-eqb _ 1 c.if-v-eq1.true)

pub returns-else-v-eq1 : goal.returns-else-v-eq1
unfolding is_flag
returns-else-v-eq1 c = rw (ne_eqb _ 1 c.if-v-eq1.false)
