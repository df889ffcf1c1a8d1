-- Assumes nothing.
use Rattle.std.proofs.Common.{◌∙◌, rules}
use Rattle.month.proofs.Loops.{sums_told}
use Rattle.month.proofs.sums_right.Goals as goal

pub returns : goal.returns
returns c = c.all_zero.ensures ∙ sums_told c.args.sums c.args.named (search rules) c.requires
