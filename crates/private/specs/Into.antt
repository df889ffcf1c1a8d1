-- Scrubbing of the frame at the front of s into another buffer: what it answers and leaves there.
use Rattle.std.specs.Prelude.{ℕ, ◌+◌, List, take}
use Rattle.terms.specs.Paper.{Paper, pick}
use Rattle.octets.specs.Papers.{room_for, laid_if_room}
use Rattle.frame_spec.specs.Frame.{body_length, read_of, reads}
use Rattle.private.specs.Scrub.{scrubbed}

-- the frame's own bytes
abbrev pub frame_in : List ℕ → List ℕ
frame_in s = take (28 + body_length s) s

-- how many bytes that frame has; or reading's refusal; or 8 where a buffer of len bytes has no room
-- for it from `to` on
unfoldable pub into_answer : List ℕ → ℕ → ℕ → Paper
into_answer s to len = pick (reads s) (room_for to (28 + body_length s) len) (read_of s)

-- the buffer then: the scrubbed frame laid there, every other byte as it was; beside a
-- refusal, all of them
unfoldable pub into_leaves : List ℕ → ℕ → List ℕ → List ℕ
into_leaves s to d = pick (reads s) (laid_if_room to (scrubbed (frame_in s)) d) d
