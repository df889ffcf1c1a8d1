-- `store_columns`: four columns, each laid just behind the one before, where there is room for it.
-- Assumes nothing.
use Rattle.listing_text.specs.Text.{first_columns}
use Rattle.record.specs.Stored.{stored_both}
use Rattle.listing_text.proofs.store_columns.Goals as goal

pub returns : goal.returns
unfolding first_columns
returns c =
    rw (← c.value.ensures) (stored_both c.store_column-a.ensures (stored_both c.store_type-b.ensures (stored_both c.store_column-c.ensures c.store_column.ensures)))
