-- The code's types in the words of the table: a case a line.
use Rattle.std.specs.Prelude.{ℕ, ◌≡◌, Option, Some, None, Result, Ok, Err}
use Rattle.terms.specs.Refusals.{number_of}
use Rattle.terms.specs.declared.Refusal.{Refusal}
use Rattle.terms.specs.declared.SessionNumber.{SessionNumber}
use Rattle.session_spec.specs.Faults as faults
use Rattle.session_spec.specs.Table as table
use Rattle.session_spec.specs.Calls as calls
use Rattle.session.specs.declared.State.{State}
use Rattle.session.specs.declared.State.TheVariants.{New, Waiting, Active, Leaving, Over}
use Rattle.session.specs.declared.Kind.{Kind}
use Rattle.session.specs.declared.Kind.TheVariants.{S001, S002, S003, P002}
use Rattle.session.specs.declared.Fault.{Fault}
use Rattle.session.specs.declared.Fault.TheVariants as fault
use Rattle.session.specs.declared.Event.{Event}
use Rattle.session.specs.declared.Event.TheVariants.{Begin, Time, Leave, Ask, Logon, Logout, Other, Faulty}
use Rattle.session.specs.declared.Cell.{Cell}
use Rattle.session.specs.declared.Cell.TheVariants.{Does, Beats, Watches, Dies}
use Rattle.session.specs.declared.Session.{Session}
use Rattle.session.specs.declared.Message.{Message}
use Rattle.session.specs.declared.Outcome.{Outcome}
use Rattle.session.specs.declared.Turn.{Turn}

abbrev pub state_of : State → table.State
state_of New = table.new
state_of Waiting = table.waiting
state_of Active = table.active
state_of Leaving = table.leaving
state_of Over = table.over

abbrev pub kind_of : Option Kind → table.Kind
kind_of None = table.none
kind_of (Some S001) = table.S001
kind_of (Some S002) = table.S002
kind_of (Some S003) = table.S003
kind_of (Some P002) = table.P002

abbrev pub number_or_0 : Option SessionNumber → ℕ
number_or_0 None = 0
number_or_0 (Some n) = n.0

abbrev pub fault_of : Fault → faults.Fault
fault_of fault.More = faults.More
fault_of fault.MsgType = faults.MsgType
fault_of fault.Long = faults.Long
fault_of fault.Length = faults.Length
fault_of fault.Sum = faults.Sum
fault_of fault.Field = faults.Field
fault_of fault.Time = faults.Time

abbrev pub event_of : Event → table.Event
event_of Begin = table.Begin
event_of Time = table.Time
event_of Leave = table.Leave
event_of Ask = table.Ask
event_of (Logon number heart) = table.Logon number.0 heart
event_of (Logout number) = table.Logout number.0
event_of (Other number) = table.Other number.0
event_of (Faulty why) = table.Faulty (fault_of why)

abbrev pub cell_word : Cell → table.Cell
cell_word (Does k s) = table.does (kind_of k) (state_of s)
cell_word Beats = table.beats
cell_word Watches = table.watches
cell_word Dies = table.dies

abbrev pub table_cell : Result Cell Refusal → table.Cell
table_cell (Ok cell) = cell_word cell
table_cell (Err why) = table.refuse (number_of why)

abbrev pub line_of : Session → calls.Line
line_of s =
    record {
      state = state_of s.state;
      sending = s.sending.0;
      expecting = s.expecting.0;
      last = s.last;
      sent = s.sent;
      heard = s.heard;
      interval = s.interval;
    }

-- what a turn tells the host
abbrev pub sent_kind : Option Message → table.Kind
sent_kind None = table.none
sent_kind (Some m) = kind_of (Some m.kind)

abbrev pub sent_number : Option Message → ℕ
sent_number None = 0
sent_number (Some m) = m.number.0

abbrev pub answer_of : Result Outcome Refusal → calls.Answer
answer_of (Ok o) = record { number = 0; kind = sent_kind o.message; seq = sent_number o.message; dead = o.dead }
answer_of (Err why) = calls.refused (number_of why)

abbrev pub said_of : Turn → calls.Answer
said_of t = answer_of t.answer

-- a call's cell behind all checks: it is that of the table and refused by none, or the refusal is
-- the first that is due
abbrev pub Judged : Result Cell Refusal → calls.Line → ℕ → table.Event → Type 0
Judged (Ok cell) l t e = (cell_word cell ≡ calls.cell_of l t e) × (0 ≡ calls.own_number l t e (calls.cell_of l t e))
Judged (Err why) l t e = number_of why ≡ calls.own_number l t e (calls.cell_of l t e)
