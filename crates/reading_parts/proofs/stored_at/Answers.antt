-- `stored_at`: the four bytes are there, and laid together. Assumes nothing.
use Rattle.std.proofs.Common.{◌∙◌}
use Rattle.reading_parts.specs.PartLaws.{gathered_number}
use Rattle.reading_parts.proofs.stored_at.Goals as goal

pub returns : goal.returns
returns c = c.at.ensures ∙ gathered_number _ _ _ _ c.gather_from.ensures c.requires
