-- `whole_at`: the number in a part is the number there. Assumes nothing.
use Rattle.std.proofs.Common.{arith}
use Rattle.octets.specs.Std.{be_part}
use Rattle.octets.proofs.whole_at.Goals as goal

pub returns : goal.returns
returns g c = be_part _ _ _ _ _ (omega arith) c.copy_from_slice.ensures.after
