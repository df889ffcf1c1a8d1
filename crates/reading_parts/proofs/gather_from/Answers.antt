-- `gather_from`: each part from its own place on. Assumes nothing.
use Rattle.reading_parts.specs.PartLaws.{gathers_from}
use Rattle.reading_parts.proofs.gather_from.Goals as goal

pub returns : goal.returns
returns c = gathers_from c.args.at _ _ c.args.first.now c.args.second.now _ _ _ c.min-a.ensures c.min-b.ensures c.gather.ensures
