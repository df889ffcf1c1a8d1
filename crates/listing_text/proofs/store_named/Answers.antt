-- `store_named`: the word, and the column just behind it. Assumes nothing.
use Rattle.std.proofs.Common.{refl, arith}
use Rattle.record.specs.Stored.{stored_copied, stored_both}
use Rattle.listing_text.specs.Columns.{Room, room_first, room_behind}
use Rattle.listing_text.specs.Text.{column, named}
use Rattle.listing_text.proofs.store_named.Goals as goal
use Rattle.listing_text.proofs.store_named.Goals.{Start}

-- room for the word alone
first : (c : goal.Start) → Room c.args.at c.args.word.now c.args.d.now
unfolding named
first c = room_first (column c.args.v c.args.behind) c.requires

pub slice_bounds-copy_from_slice-end : goal.slice_bounds-copy_from_slice-end
slice_bounds-copy_from_slice-end c = omega (arith, (first (goal.at.slice_bounds-copy_from_slice-end c).Start).fits)

pub store_column-requires : goal.store_column-requires
unfolding named
store_column-requires c =
    room_behind (stored_copied _ _ _ _ _ c.copy_from_slice.ensures.after refl (first (goal.at.store_column-requires c).Start).fits) c.requires

pub returns : goal.returns
unfolding named
returns c = stored_both (stored_copied _ _ _ _ _ c.copy_from_slice.ensures.after refl (first (goal.at.returns c).Start).fits) c.store_column.ensures
