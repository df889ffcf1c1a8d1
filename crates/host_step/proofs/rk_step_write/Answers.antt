-- `rk_step_write`: the writer's paper is told, and the buffer is as it left it. Assumes nothing.
use Rattle.host_words.specs.Told.{tells_as}
use Rattle.host_step.proofs.rk_step_write.Goals as goal

pub returns : goal.returns
returns c = let e = c.write-written.ensures in (tells_as e.0 c.told_bytes.ensures, e.1)
