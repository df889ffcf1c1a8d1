-- A message, the bytes of its frame, and what writing it answers and leaves.
use Rattle.std.specs.Prelude.{ℕ, ◌+◌, List, [], ◌∷◌, ◌++◌, length, leb, eqb}
use Rattle.terms.specs.Paper.{Paper, answer, refusal, pick}
use Rattle.octets.specs.Octets.{bytes_of, sum8, laid}
use Rattle.rules.specs.Table.{kind_of, measure_of}
use Rattle.rules.specs.Fields.{judge_of}
use Rattle.frame_spec.specs.Frame.{msg_type, sending_time, msg_seq_num, body, checked}

-- a message: the fields that writing does not work out (document 01, Frame, paragraph 1)
pub record Message : Type 0 where
  pub type : ℕ
  pub time : ℕ
  pub seq : ℕ
  pub content : List ℕ

abbrev pub message : ℕ → ℕ → ℕ → List ℕ → Message
message t time q b = record { type = t; time = time; seq = q; content = b }

-- the message that the frame at the front of s holds
abbrev pub message_of : List ℕ → Message
message_of s = message (msg_type s) (sending_time s) (msg_seq_num s) (body s)

-- header and body
unfoldable pub plain_of : Message → List ℕ
plain_of m = (((bytes_of 4 m.type ++ bytes_of 8 m.time) ++ bytes_of 8 m.seq) ++ bytes_of 4 (length m.content)) ++ m.content

-- header and body, then their one-byte sum in four bytes (document 01, Frame, paragraph 2)
unfoldable pub frame_of : Message → List ℕ
frame_of m = plain_of m ++ bytes_of 4 (sum8 (plain_of m))

-- writing's checks in their order, into so much room: 2, 3, 4, 7, 6, 8
-- (document 01, Numbers, paragraph 2; 7 by CR 6)
unfoldable pub write_of : Message → ℕ → Paper
write_of m room =
    checked (measure_of (kind_of m.type) (length m.content))
    (checked (judge_of (kind_of m.type) m.time m.content)
    (pick (leb (28 + length m.content) room) (answer 0 ((28 + length m.content) ∷ [])) (refusal 8)))

-- the buffer after writing: a refusal changes no byte, success none past the frame
-- (document 01, Numbers, paragraph 2)
unfoldable pub left_of : Message → List ℕ → List ℕ
left_of m out = pick (eqb (write_of m (length out)).number 0) (laid 0 (frame_of m) out) out
