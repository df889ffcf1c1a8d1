-- Zeros are zeros; and nothing is named. Assumes nothing.
use Rattle.std.proofs.Common.{refl}
use Rattle.month.proofs.Fill.{zeros_are}
use Rattle.month.proofs.Named.none.Goals as goal

pub returns : goal.returns
returns c = (zeros_are 32, refl)
