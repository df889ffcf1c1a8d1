-- What the bytes at the front are to a session: of a frame that reads, its type, MsgSeqNum and, of
-- a logon, HeartBtInt; else reading's own refusal.
use Rattle.std.specs.Prelude.{ℕ, ◌+◌, ◌≡◌, refl, Bool, true, false, List, Option}
use Rattle.std.specs.Bool.{then_some}
use Rattle.std.specs.Option.{unwrap_or}
use Rattle.terms.specs.Paper.{pick}
use Rattle.octets.specs.Octets.{be}
use Rattle.rules.specs.Table.{kind_of}
use Rattle.rules.specs.declared.Kind.{Kind}
use Rattle.rules.specs.declared.Kind.TheVariants.{S001, S002, S003, P001, P002, M101, M102, M201, Unknown}
use Rattle.frame_spec.specs.Frame.{msg_type, msg_seq_num, body_length, read_of, reads}
use Rattle.session_spec.specs.Faults.{fault_numbered}
use Rattle.session_spec.specs.Table.{Event, Logon, Logout, Other, Faulty}

-- a logon, a logout, any other. (A frame that reads has a type of the table.)
abbrev pub by_kind : Kind → ℕ → ℕ → Event
by_kind S001 number heart = Logon number heart
by_kind S002 number heart = Logout number
by_kind S003 number heart = Other number
by_kind P001 number heart = Other number
by_kind P002 number heart = Other number
by_kind M101 number heart = Other number
by_kind M102 number heart = Other number
by_kind M201 number heart = Other number
by_kind Unknown number heart = Other number

-- HeartBtInt: 2 bytes at 64 of a logon's body, which stands behind a header of 24
abbrev pub heart_bt_int : List ℕ → ℕ
heart_bt_int s = be 2 (24 + 64) s

unfoldable pub event_in : List ℕ → Event
event_in s = pick (reads s) (by_kind (kind_of (msg_type s)) (msg_seq_num s) (heart_bt_int s)) (Faulty (fault_numbered (read_of s).number))

-- the frame's length: header, body and CheckSum; 0 where none reads
unfoldable pub length_in : List ℕ → ℕ
length_in s = pick (reads s) (28 + body_length s) 0

-- the same where 0 is no length
abbrev pub length_if : List ℕ → Option ℕ
length_if s = then_some (reads s) (28 + body_length s)

pub length_or_0 : (s : List ℕ) → unwrap_or (length_if s) 0 ≡ length_in s
unfolding length_in
length_or_0 s = by_cases (reads s)
  where
    by_cases : (b : Bool) → unwrap_or (then_some b (28 + body_length s)) 0 ≡ pick b (28 + body_length s) 0
    by_cases true = refl
    by_cases false = refl
