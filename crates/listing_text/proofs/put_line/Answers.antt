-- `put_line`: 127 bytes have room for every line; it stands there, and is laid on from there.
-- Assumes nothing.
use Rattle.std.proofs.Common.{arith}
use Rattle.record.specs.Fields.{Fits}
use Rattle.record.specs.Stored.{room_on, laid_on}
use Rattle.listing_text.specs.Lengths.{line_most}
use Rattle.listing_text.proofs.put_line.Goals as goal

pub store_line-n-requires : goal.store_line-n-requires
store_line-n-requires c =
    let r = c.args.r in
    let f : Fits r = record { place = omega arith; msg_type_holds = omega arith; answer = omega arith; seq = omega arith; tick = omega arith; channel = omega arith; body_len = omega arith; floor = omega arith; top = omega arith } in
    record { fits = omega (arith, line_most r f) }

pub returns : goal.returns
returns c = (room_on c.store_line-n.ensures _ _ _ c.lay.ensures.0, laid_on c.store_line-n.ensures _ _ _ c.lay.ensures.1)
