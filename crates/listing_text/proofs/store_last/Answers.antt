-- `store_last`: four columns, each laid just behind the one before, where there is room for it.
-- Assumes nothing.
use Rattle.listing_text.specs.Text.{last_columns}
use Rattle.record.specs.Stored.{stored_both}
use Rattle.listing_text.proofs.store_last.Goals as goal

pub returns : goal.returns
unfolding last_columns
returns c =
    rw (← c.value.ensures, ← c.value-2.ensures, ← c.value-3.ensures, ← c.value-4.ensures)
    (stored_both c.store_column-a.ensures (stored_both c.store_column-b.ensures (stored_both c.store_column-c.ensures c.store_column.ensures)))
