-- `sum_of`: the sums of both shares, added. Assumes nothing.
use Rattle.reading_parts.specs.PartLaws.{sum_both}
use Rattle.reading_parts.proofs.sum_of.Goals as goal

pub returns : goal.returns
returns c = sum_both _ _ _ _ c.args.first.now c.args.second.now c.saturating_sub-rest.ensures c.sum.ensures c.sum-2.ensures
