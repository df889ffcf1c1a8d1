-- `is_complete`: the needed rows are among those seen. Assumes nothing.
use Rattle.step_spec.specs.Seen.{complete_is}
use Rattle.step_frame.proofs.is_complete.Goals as goal

pub returns : goal.returns
returns c = rw c.needed_by-need.ensures (complete_is _ _)
