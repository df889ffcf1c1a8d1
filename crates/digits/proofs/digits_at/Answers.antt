-- `digits_at`: where the bytes can say a number, `said` does the work. Assumes nothing.
use Rattle.std.proofs.Common.{◌∙◌, sym}
use Rattle.digits.specs.Texts.{digits_there, digits_lack}
use Rattle.digits.proofs.digits_at.Goals as goal

pub returns-then-not-n-has_room : goal.returns-then-not-n-has_room
returns-then-not-n-has_room c = sym (digits_lack _ _ _ (rw c.has_room.ensures at c.if-not-n-has_room.true))

pub returns : goal.returns
returns c = c.said.ensures ∙ sym (digits_there _ _ _ (rw c.has_room.ensures at c.if-not-n-has_room.false))
