-- When a call is answered 0, and when 13 and 30 to 33: for every session, sound or not. In plain
-- words over the session's numbers: none of the definition's own tests (Calls.antt) stands here.
use Rattle.std.specs.Prelude.{◌≡◌, ◌⊎◌, Bool, true, false, ◌&&◌, ◌||◌, ℕ, ◌-◌, ◌*◌, ◌≤◌, ◌<◌, max}
use Rattle.session_spec.specs.Table.{State, new, waiting, active, leaving, over, Kind, none, S003, Event, Begin, Time, Leave, Ask, Logon, Logout, Other, Faulty, Cell, refuse, does, beats, watches, dies}
use Rattle.session_spec.specs.Words.{is_logon}
use Rattle.session_spec.specs.Calls.{Line, last_number, Answer}

-- ======== The state rules: STATES.md

-- before our logon both counters are 1; until its answer 2 and 1; then both are at least 2, and 3
-- where our logout is sent
abbrev pub Counters : State → ℕ → ℕ → Type 0
Counters new out into = (out ≡ 1) × (into ≡ 1)
Counters waiting out into = (out ≡ 2) × (into ≡ 1)
Counters active out into = (2 ≤ out) × (2 ≤ into)
Counters leaving out into = (3 ≤ out) × (2 ≤ into)
Counters over out into = (1 ≤ out) × (1 ≤ into)

pub record Rules (l : Line) : Type 0 where
  pub sent_past : l.sent ≤ l.last
  pub heard_past : l.heard ≤ l.last
  pub counters : Counters l.state l.sending l.expecting

-- ======== Times

-- behind the logon answer, more than two intervals since the last frame taken
pub record Dead (l : Line) (now : ℕ) : Type 0 where
  pub listens : (l.state ≡ active) ⊎ (l.state ≡ leaving)
  pub silent : 2 * l.interval < max l.last now - l.heard

-- an active line that is not dead, at least one interval since our last message
pub record BeatDue (l : Line) (now : ℕ) : Type 0 where
  pub is_active_holds : l.state ≡ active
  pub alive : max l.last now - l.heard ≤ 2 * l.interval
  pub due : l.interval ≤ max l.last now - l.sent

-- ======== What is too early, again, or too late

-- "before the logon answer"
abbrev pub unanswered : State → Bool
unanswered new = true
unanswered waiting = true
unanswered active = false
unanswered leaving = false
unanswered over = false

-- "anything but logon or logout"
abbrev pub talks : Event → Bool
talks Begin = false
talks Time = false
talks Leave = true
talks Ask = true
talks (Logon number heart) = false
talks (Logout number) = false
talks (Other number) = true
talks (Faulty why) = false

-- "a second logon": ours again, or one that answers none of ours
abbrev pub is_begin : Event → Bool
is_begin Begin = true
is_begin Time = false
is_begin Leave = false
is_begin Ask = false
is_begin (Logon number heart) = false
is_begin (Logout number) = false
is_begin (Other number) = false
is_begin (Faulty why) = false

abbrev pub begun : State → Bool
begun new = false
begun waiting = true
begun active = true
begun leaving = true
begun over = false

abbrev pub unasked : State → Bool
unasked new = true
unasked waiting = false
unasked active = true
unasked leaving = true
unasked over = false

abbrev pub second : State → Event → Bool
second s e = (is_begin e && begun s) || (is_logon e && unasked s)

-- "session over": to us behind our logout, to all but time at the end
abbrev pub wants : Event → Bool
wants Begin = false
wants Time = false
wants Leave = true
wants Ask = true
wants (Logon number heart) = false
wants (Logout number) = false
wants (Other number) = false
wants (Faulty why) = false

abbrev pub is_move : Event → Bool
is_move Begin = true
is_move Time = false
is_move Leave = true
is_move Ask = true
is_move (Logon number heart) = true
is_move (Logout number) = true
is_move (Other number) = true
is_move (Faulty why) = false

abbrev pub is_faulty : Event → Bool
is_faulty Begin = false
is_faulty Time = false
is_faulty Leave = false
is_faulty Ask = false
is_faulty (Logon number heart) = false
is_faulty (Logout number) = false
is_faulty (Other number) = false
is_faulty (Faulty why) = true

abbrev pub is_leaving : State → Bool
is_leaving new = false
is_leaving waiting = false
is_leaving active = false
is_leaving leaving = true
is_leaving over = false

abbrev pub is_over : State → Bool
is_over new = false
is_over waiting = false
is_over active = false
is_over leaving = false
is_over over = true

abbrev pub closed : State → Event → Bool
closed s e = (is_leaving s && wants e) || (is_over s && is_move e)

abbrev pub early : Line → Event → Bool
early l e = unanswered l.state && talks e

-- ======== Numbers and counters

-- a frame, and its MsgSeqNum is not the expected one
abbrev pub WrongNumber : Line → Event → Type 0
WrongNumber l Begin = ⊥
WrongNumber l Time = ⊥
WrongNumber l Leave = ⊥
WrongNumber l Ask = ⊥
WrongNumber l (Logon number heart) = number ≡ l.expecting → ⊥
WrongNumber l (Logout number) = number ≡ l.expecting → ⊥
WrongNumber l (Other number) = number ≡ l.expecting → ⊥
WrongNumber l (Faulty why) = ⊥

-- a message is to be sent: the host's own, the answer to a logout, a heartbeat that is due
abbrev pub ToSend : Line → ℕ → Event → Type 0
ToSend l now Begin = Unit
ToSend l now Time = BeatDue l now
ToSend l now Leave = Unit
ToSend l now Ask = Unit
ToSend l now (Logon number heart) = ⊥
ToSend l now (Logout number) = l.state ≡ active
ToSend l now (Other number) = ⊥
ToSend l now (Faulty why) = ⊥

abbrev pub IsFrame : Event → Type 0
IsFrame Begin = ⊥
IsFrame Time = ⊥
IsFrame Leave = ⊥
IsFrame Ask = ⊥
IsFrame (Logon number heart) = Unit
IsFrame (Logout number) = Unit
IsFrame (Other number) = Unit
IsFrame (Faulty why) = ⊥

-- any call but time on a dead line; or the counter that the call would use is at its last number
pub data Stopped (l : Line) (now : ℕ) (e : Event) : Type 0 where
  line_dead : is_move e ≡ true → Dead l now → Stopped l now e
  none_to_send : ToSend l now e → last_number ≤ l.sending → Stopped l now e
  none_to_take : IsFrame e → last_number ≤ l.expecting → Stopped l now e

-- ======== The answers, in the order 13, reading's own, 30, 31, 32, 33

pub record Given30 (l : Line) (now : ℕ) (e : Event) : Type 0 where
  pub rules : Rules l
  pub too_early : early l e ≡ true

pub record Given31 (l : Line) (now : ℕ) (e : Event) : Type 0 where
  pub rules : Rules l
  pub not_early : early l e ≡ false
  pub wrong_number : WrongNumber l e

pub record Given32 (l : Line) (now : ℕ) (e : Event) : Type 0 where
  pub rules : Rules l
  pub not_early : early l e ≡ false
  pub in_order : WrongNumber l e → ⊥
  pub at_end : Stopped l now e ⊎ (closed l.state e ≡ true)

pub record Given33 (l : Line) (now : ℕ) (e : Event) : Type 0 where
  pub rules : Rules l
  pub not_early : early l e ≡ false
  pub in_order : WrongNumber l e → ⊥
  pub going : Stopped l now e → ⊥
  pub again : second l.state e ≡ true

-- answered: nothing of all that, and reading did not refuse it
pub record Given0 (l : Line) (now : ℕ) (e : Event) : Type 0 where
  pub rules : Rules l
  pub is_read : is_faulty e ≡ false
  pub not_early : early l e ≡ false
  pub in_order : WrongNumber l e → ⊥
  pub going : Stopped l now e → ⊥
  pub not_closed : closed l.state e ≡ false
  pub first : second l.state e ≡ false

-- ======== From a cell of the table to the answer

-- this is sent, this is the next state, and the line is called dead or not
pub record Did (k : Kind) (s : State) (dead : Bool) (a : Answer) (next : State) : Type 0 where
  pub number_0 : a.number ≡ 0
  pub kind_is : a.kind ≡ k
  pub dead_is : a.dead ≡ dead
  pub state_is : next ≡ s

pub record Beats (dead due : Type 0) (a : Answer) (next : State) : Type 0 where
  pub where_dead : dead → Did none over true a next
  pub where_due : due → Did S003 active false a next
  pub else_nothing : (dead → ⊥) → (due → ⊥) → Did none active false a next

pub record Watches (dead : Type 0) (a : Answer) (next : State) : Type 0 where
  pub where_dead : dead → Did none over true a next
  pub else_nothing : (dead → ⊥) → Did none leaving false a next

-- what the cell says of a call: of its answer, and of the state behind it
abbrev pub AsCell : (dead due : Type 0) → Answer → State → Cell → Type 0
AsCell dead due a next (refuse n) = a.number ≡ n
AsCell dead due a next (does k s) = Did k s false a next
AsCell dead due a next beats = Beats dead due a next
AsCell dead due a next watches = Watches dead a next
AsCell dead due a next dies = Did none over true a next
