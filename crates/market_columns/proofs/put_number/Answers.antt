-- `put_number`: the amount's test, the room, then `store_number`. Assumes nothing.
use borrow.Author.Tests.{leb-true}
use mathlib.Core.Path.{sym}
use Rattle.market_columns.specs.NumberLaws.{fits_number}
use Rattle.market_columns.proofs.put_number.Goals as goal

pub store_number-requires : goal.store_number-requires
store_number-requires c = (fits_number _ _ _ _ (sym c.if-not-number_fits.ensures), leb-true _ _ (sym c.if-not-has_room.ensures))
