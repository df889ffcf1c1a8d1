-- `see_wide`: the first bytes are laid together. Assumes nothing.
use Rattle.std.proofs.Common.{ap, ◌∙◌}
use Rattle.reading.specs.Seen.{seen_number}
use Rattle.reading_parts.specs.PartLaws.{front_of, long_frame, tells_all, tells_lack}
use Rattle.reading_parts.proofs.see_wide.Goals as goal

pub is_told-requires : goal.is_told-requires
is_told-requires c = (front_of _ _ _ _ c.gather-m.ensures, ap seen_number c.see-seen.ensures)

pub returns-then-is_told : goal.returns-then-is_told
returns-then-is_told c = c.see-seen.ensures ∙ tells_all _ _ _ c.is_told.ensures c.if-is_told.true

pub see_long-requires : goal.see_long-requires
see_long-requires c =
    let t = tells_lack _ _ _ c.is_told.ensures c.if-is_told.false in
    long_frame _ _ c.gather-m.ensures.same t.0 t.1
