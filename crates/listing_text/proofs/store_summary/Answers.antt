-- `store_summary`: five words with their numbers, each laid just behind the one before, where there
-- is room for it. Assumes nothing.
use Rattle.listing_text.specs.Text.{space, frames, refused, named, summary_of}
use Rattle.record.specs.Stored.{stored_both}
use Rattle.listing_text.proofs.store_summary.Goals as goal

pub returns : goal.returns
unfolding summary_of
returns c =
    let s = c.args.s in
    rw (← c.value.ensures, ← c.value-2.ensures)
    (stored_both {bs = named frames s.frames space} c.store_named-a.ensures
    (stored_both {bs = named refused s.refused space} c.store_named-b.ensures
    (stored_both c.store_named-c.ensures
    (stored_both c.store_named-e.ensures
    c.store_named.ensures))))
