-- docs/SESSION.md, the table of states: a line a cell. CR 12.
use Rattle.std.specs.Prelude.{ℕ, ◌*◌, Bool, true, false}
use Rattle.session_spec.specs.Faults.{Fault, fault_number}

pub data State : Type 0 where
  new : State
  waiting : State
  active : State
  leaving : State
  over : State

-- what is to be sent: nothing, a logon, a logout, a heartbeat, a resend request
pub data Kind : Type 0 where
  none : Kind
  S001 : Kind
  S002 : Kind
  S003 : Kind
  P002 : Kind

-- the host begins, lets time pass, leaves, asks for a resend; a frame was read: a logon (with its
-- HeartBtInt), a logout, any other; a frame was refused by reading
pub data Event : Type 0 where
  Begin : Event
  Time : Event
  Leave : Event
  Ask : Event
  Logon : (number heart : ℕ) → Event
  Logout : (number : ℕ) → Event
  Other : (number : ℕ) → Event
  Faulty : (why : Fault) → Event

pub data Cell : Type 0 where
  refuse : ℕ → Cell  -- answered so, and nothing moves
  does : Kind → State → Cell  -- this is sent, and this is the next state
  beats : Cell  -- dead: over; due: send S003
  watches : Cell  -- dead: over
  dies : Cell  -- the line is called dead: over

-- THE TABLE
abbrev pub row_of : State → Event → Cell
row_of new Begin = does S001 waiting
row_of new Time = does none new
row_of new Leave = refuse 30
row_of new Ask = refuse 30
row_of new (Logon number heart) = refuse 33
row_of new (Logout number) = does none over
row_of new (Other number) = refuse 30
row_of new (Faulty why) = refuse (fault_number why)
row_of waiting Begin = refuse 33
row_of waiting Time = does none waiting
row_of waiting Leave = refuse 30
row_of waiting Ask = refuse 30
row_of waiting (Logon number heart) = does none active
row_of waiting (Logout number) = does none over
row_of waiting (Other number) = refuse 30
row_of waiting (Faulty why) = refuse (fault_number why)
row_of active Begin = refuse 33
row_of active Time = beats
row_of active Leave = does S002 leaving
row_of active Ask = does P002 active
row_of active (Logon number heart) = refuse 33
row_of active (Logout number) = does S002 over
row_of active (Other number) = does none active
row_of active (Faulty why) = refuse (fault_number why)
row_of leaving Begin = refuse 33
row_of leaving Time = watches
row_of leaving Leave = refuse 32
row_of leaving Ask = refuse 32
row_of leaving (Logon number heart) = refuse 33
row_of leaving (Logout number) = does none over
row_of leaving (Other number) = does none leaving
row_of leaving (Faulty why) = refuse (fault_number why)
row_of over Begin = refuse 32
row_of over Time = does none over
row_of over Leave = refuse 32
row_of over Ask = refuse 32
row_of over (Logon number heart) = refuse 32
row_of over (Logout number) = refuse 32
row_of over (Other number) = refuse 32
row_of over (Faulty why) = refuse (fault_number why)

-- ---- what events and kinds are

abbrev pub is_frame : Event → Bool
is_frame Begin = false
is_frame Time = false
is_frame Leave = false
is_frame Ask = false
is_frame (Logon number heart) = true
is_frame (Logout number) = true
is_frame (Other number) = true
is_frame (Faulty why) = false

-- the MsgSeqNum of a frame
abbrev pub seq_of : Event → ℕ
seq_of Begin = 0
seq_of Time = 0
seq_of Leave = 0
seq_of Ask = 0
seq_of (Logon number heart) = number
seq_of (Logout number) = number
seq_of (Other number) = number
seq_of (Faulty why) = 0

-- the host wants to send
abbrev pub is_ours : Event → Bool
is_ours Begin = true
is_ours Time = false
is_ours Leave = true
is_ours Ask = true
is_ours (Logon number heart) = false
is_ours (Logout number) = false
is_ours (Other number) = false
is_ours (Faulty why) = false

-- the interval after a logon was taken: its HeartBtInt, in milliseconds; else as it was
abbrev pub agreed : Event → ℕ → ℕ
agreed Begin was = was
agreed Time was = was
agreed Leave was = was
agreed Ask was = was
agreed (Logon number heart) was = heart * 1000
agreed (Logout number) was = was
agreed (Other number) was = was
agreed (Faulty why) was = was

abbrev pub sends : Kind → Bool
sends none = false
sends S001 = true
sends S002 = true
sends S003 = true
sends P002 = true
