-- `lay`: without room the answer is 8 and the buffer keeps its bytes; else `copy` does the work.
-- Assumes nothing.
use Rattle.std.proofs.Common.{refl}
use Rattle.octets.specs.Papers.{lacks_room, has_room}
use Rattle.octets.proofs.lay.Goals as goal

pub returns-then-not-has_room : goal.returns-then-not-has_room
returns-then-not-has_room c = lacks_room _ _ _ _ _ refl c.has_room.ensures c.if-not-has_room.true

pub returns : goal.returns
returns c = has_room _ _ _ _ _ refl c.has_room.ensures _ c.if-not-has_room.false c.copy.ensures
