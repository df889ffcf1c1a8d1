-- `put_summary`: 138 bytes have room for every last line; it stands there, and is laid on from
-- there. Assumes nothing.
use Rattle.std.proofs.Common.{arith}
use Rattle.record.specs.Stored.{room_on, laid_on}
use Rattle.listing_text.specs.Lengths.{summary_most}
use Rattle.listing_text.proofs.put_summary.Goals as goal

pub store_summary-n-requires : goal.store_summary-n-requires
store_summary-n-requires c = record { fits = omega (arith, summary_most c.args.s (omega arith) (omega arith) (omega arith) (omega arith) (omega arith)) }

pub returns : goal.returns
returns c = (room_on c.store_summary-n.ensures _ _ _ c.lay.ensures.0, laid_on c.store_summary-n.ensures _ _ _ c.lay.ensures.1)
