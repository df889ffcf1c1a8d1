-- `see_across`: the header is laid together. Assumes nothing.
use Rattle.std.proofs.Common.{ap, ◌∙◌}
use Rattle.reading.specs.Seen.{seen_number}
use Rattle.reading_parts.specs.PartLaws.{front_of, tells_all}
use Rattle.reading_parts.proofs.see_across.Goals as goal

pub is_told-requires : goal.is_told-requires
is_told-requires c = (front_of _ _ _ _ c.gather-m.ensures, ap seen_number c.see-seen.ensures)

pub returns-then-is_told : goal.returns-then-is_told
returns-then-is_told c = c.see-seen.ensures ∙ tells_all _ _ _ c.is_told.ensures c.if-is_told.true
