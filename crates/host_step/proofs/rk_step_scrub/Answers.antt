-- `rk_step_scrub`: the scrubber's paper is told, and the frame is as it left it. Assumes nothing.
use Rattle.host_words.specs.Told.{tells_as}
use Rattle.host_step.proofs.rk_step_scrub.Goals as goal

pub returns : goal.returns
returns c = let e = c.scrub-scrubbed.ensures in (tells_as e.0 c.told_bytes.ensures, e.1)
