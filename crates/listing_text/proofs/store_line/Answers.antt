-- `store_line`: the first columns, and the others just behind them. Assumes nothing.
use Rattle.listing_text.specs.Text.{line_of}
use Rattle.record.specs.Stored.{stored_both}
use Rattle.listing_text.proofs.store_line.Goals as goal

pub returns : goal.returns
unfolding line_of
returns c = let p = c in stored_both c.store_columns-a.ensures c.store_last.ensures
