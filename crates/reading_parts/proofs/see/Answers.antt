-- `see`: what the first part tells stays; so does that bytes are missing. Assumes nothing.
use Rattle.std.proofs.Common.{◌∙◌}
use Rattle.reading_parts.specs.PartLaws.{tells_all}
use Rattle.reading_parts.proofs.see.Goals as goal

pub returns-then-is_told : goal.returns-then-is_told
returns-then-is_told c = c.see-seen.ensures ∙ tells_all _ _ _ c.is_told.ensures c.if-is_told.true
