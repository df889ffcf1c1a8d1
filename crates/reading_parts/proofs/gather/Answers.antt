-- `gather`: each part's share is laid where the one before it ends. Assumes nothing.
use Rattle.reading_parts.specs.PartLaws.{gathered}
use Rattle.reading_parts.proofs.gather.Goals as goal

pub returns : goal.returns
returns c = gathered _ _ _ _ _ _ _ c.min-a.ensures c.min-b.ensures c.lay.ensures.1 c.lay-2.ensures.1
