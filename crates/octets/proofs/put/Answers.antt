-- `put`: without room the answer is 8 and the buffer keeps its bytes; else zeros are laid, and
-- behind them the low bytes of eight. Assumes nothing.
use Rattle.std.proofs.Common.{◌∙◌, sym, arith, leb-true}
use Rattle.octets.specs.Numerals.{length_digits}
use Rattle.octets.specs.Papers.{lacks_room, has_room}
use Rattle.octets.specs.Std.{low_laid}
use Rattle.octets.proofs.put.Goals as goal

pub returns-then-not-has_room : goal.returns-then-not-has_room
returns-then-not-has_room c = lacks_room _ _ _ _ _ (length_digits 256 _ _) c.has_room.ensures c.if-not-has_room.true

pub returns : goal.returns
returns c =
    has_room _ _ _ _ _ (length_digits 256 _ _) c.has_room.ensures _ c.if-not-has_room.false
    (low_laid _ _ _ _ _ _ _ _ c.saturating_sub-zeros.ensures (omega arith) (leb-true _ _ (sym c.has_room.ensures ∙ c.if-not-has_room.false)) (c.fill.ensures.after (λ y h. h)) c.to_be_bytes.ensures c.copy_from_slice.ensures.after)
