-- Zeros are zeros. Assumes nothing.
use Rattle.std.proofs.Common.{List, ℕ, ap}
use Rattle.month.specs.State.{no_figures, empty_with}
use Rattle.month.proofs.Fill.{zeros_are}
use Rattle.month.proofs.empty.Goals as goal

pub returns : goal.returns
unfolding empty_with no_figures
returns c = ap (λ (l : List ℕ). record { channels = c.args.names.channels; named = c.args.names.count; taken = 0; sums = l }) (zeros_are 192)
