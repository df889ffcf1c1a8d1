-- For each public function: two answers that its promise allows are equal. A turn is told from its
-- words, case by case. Assumes nothing.
use mathlib.Core.Path.{◌≡◌, refl, sym, ap, ap₂, ◌∙◌}
use Prim.Native.Nat.{ℕ}
use Rattle.terms.specs.OneAnswer.{OneAnswer}
use Rattle.terms.specs.Counters.{session_of}
use Rattle.terms.proofs.Verdicts.{verdict_one}
use Rattle.terms.specs.declared.Refusal.{Refusal}
use Rattle.terms.specs.Refusals.{number_of, refusal_of, refusal_pos}
use Rattle.terms.proofs.Refusals.{refusal_back}
use Rattle.terms.specs.Paper.{pick}
use Rattle.std.specs.Prelude.{Option, Some, None, Result, Ok, Err}
use lib.Dec.{eqb}
use borrow.Author.Tests.{ne_eqb}
use Rattle.session_spec.specs.Faults as faults
use Rattle.session_spec.specs.Table as table
use Rattle.session_spec.specs.Calls as calls
use Rattle.session.specs.Papers.{state_of, kind_of, fault_of, event_of, sent_kind, sent_number, answer_of, line_of, said_of}
use Rattle.session.specs.declared.State.{State}
use Rattle.session.specs.declared.State.TheVariants.{New, Waiting, Active, Leaving, Over}
use Rattle.session.specs.declared.Kind.{Kind}
use Rattle.session.specs.declared.Kind.TheVariants.{S001, S002, S003, P002}
use Rattle.session.specs.declared.Fault.{Fault}
use Rattle.session.specs.declared.Fault.TheVariants as fault
use Rattle.session.specs.declared.Event.{Event}
use Rattle.session.specs.declared.Event.TheVariants.{Begin, Time, Leave, Ask, Logon, Logout, Other, Faulty}
use Rattle.session.specs.declared.Session.{Session}
use Rattle.session.specs.declared.Message.{Message}
use Rattle.session.specs.declared.Outcome.{Outcome}
use Rattle.session.specs.declared.Turn.{Turn}
use Rattle.session.specs.declared.Arrival.{Arrival}
use Rattle.session.specs.declared.Told.{Told}
use Rattle.session.proofs.RefusalFromFault.from.Reads as refusal
use Rattle.session.proofs.RefusalFromFault.from.Kinds as refusal-kinds
use Rattle.session.proofs.Session.opened.Reads as opened
use Rattle.session.proofs.Session.opened.Kinds as opened-kinds
use Rattle.session.proofs.Session.turn.Reads as turn
use Rattle.session.proofs.Session.turn.Kinds as turn-kinds
use Rattle.session.proofs.Session.may_send.Reads as may-send
use Rattle.session.proofs.Session.may_send.Kinds as may-send-kinds
use Rattle.session.proofs.Session.received.Reads as received
use Rattle.session.proofs.Session.received.Kinds as received-kinds
use Rattle.session.proofs.told_by.Reads as told-by
use Rattle.session.proofs.told_by.Kinds as told-by-kinds

abbrev state_from : table.State → State
state_from table.new = New
state_from table.waiting = Waiting
state_from table.active = Active
state_from table.leaving = Leaving
state_from table.over = Over

state_back : (s : State) → state_from (state_of s) ≡ s
state_back New = refl
state_back Waiting = refl
state_back Active = refl
state_back Leaving = refl
state_back Over = refl

abbrev message_from : table.Kind → ℕ → Option Message
message_from table.none n = None
message_from table.S001 n = Some (record { kind = S001; number = session_of n })
message_from table.S002 n = Some (record { kind = S002; number = session_of n })
message_from table.S003 n = Some (record { kind = S003; number = session_of n })
message_from table.P002 n = Some (record { kind = P002; number = session_of n })

kind_back : (k : Kind) (n : ℕ) → message_from (kind_of (Some k)) n ≡ Some (record { kind = k; number = session_of n })
kind_back S001 n = refl
kind_back S002 n = refl
kind_back S003 n = refl
kind_back P002 n = refl

message_back : (m : Option Message) → message_from (sent_kind m) (sent_number m) ≡ m
message_back None = refl
message_back (Some m) = kind_back m.kind m.number.0

-- a refusal from its number, which 0 is none of
abbrev answer_from : calls.Answer → Result Outcome Refusal
answer_from a = pick (eqb a.number 0) (Ok (record { message = message_from a.kind a.seq; dead = a.dead })) (Err (refusal_of a.number))

answer_back : (r : Result Outcome Refusal) → answer_from (answer_of r) ≡ r
answer_back (Ok o) = rw (message_back o.message)
answer_back (Err why) = rw (ne_eqb (number_of why) 0 (refusal_pos why)) (ap Err (refusal_back why))

abbrev fault_from : faults.Fault → Fault
fault_from faults.More = fault.More
fault_from faults.MsgType = fault.MsgType
fault_from faults.Long = fault.Long
fault_from faults.Length = fault.Length
fault_from faults.Sum = fault.Sum
fault_from faults.Field = fault.Field
fault_from faults.Time = fault.Time

fault_back : (f : Fault) → fault_from (fault_of f) ≡ f
fault_back fault.More = refl
fault_back fault.MsgType = refl
fault_back fault.Long = refl
fault_back fault.Length = refl
fault_back fault.Sum = refl
fault_back fault.Field = refl
fault_back fault.Time = refl

abbrev event_from : table.Event → Event
event_from table.Begin = Begin
event_from table.Time = Time
event_from table.Leave = Leave
event_from table.Ask = Ask
event_from (table.Logon number heart) = Logon (session_of number) heart
event_from (table.Logout number) = Logout (session_of number)
event_from (table.Other number) = Other (session_of number)
event_from (table.Faulty why) = Faulty (fault_from why)

event_back : (e : Event) → event_from (event_of e) ≡ e
event_back Begin = refl
event_back Time = refl
event_back Leave = refl
event_back Ask = refl
event_back (Logon number heart) = refl
event_back (Logout number) = refl
event_back (Other number) = refl
event_back (Faulty why) = ap Faulty (fault_back why)

abbrev told_from : table.Event → Option ℕ → Told
told_from e n = record { event = event_from e; length = n }

told_back : (t : Told) → told_from (event_of t.event) t.length ≡ t
told_back t = rw (event_back t.event)

told_one : (x y : Told) → event_of x.event ≡ event_of y.event → x.length ≡ y.length → x ≡ y
told_one x y p q = sym (told_back x) ∙ ap₂ told_from p q ∙ told_back y

abbrev session_from : calls.Line → Session
session_from l =
    record {
      state = state_from l.state;
      sending = session_of l.sending;
      expecting = session_of l.expecting;
      last = l.last;
      sent = l.sent;
      heard = l.heard;
      interval = l.interval;
    }

session_back : (s : Session) → session_from (line_of s) ≡ s
session_back s = rw (state_back s.state)

pub session_one : (s t : Session) → line_of s ≡ line_of t → s ≡ t
session_one s t e = sym (session_back s) ∙ ap session_from e ∙ session_back t

abbrev turn_from : calls.Answer → calls.Line → Turn
turn_from a l = record { next = session_from l; answer = answer_from a }

turn_back : (t : Turn) → turn_from (said_of t) (line_of t.next) ≡ t
turn_back t = rw (state_back t.next.state, answer_back t.answer)

pub turn_one : (t u : Turn) → said_of t ≡ said_of u → line_of t.next ≡ line_of u.next → t ≡ u
turn_one t u p q = sym (turn_back t) ∙ ap₂ turn_from p q ∙ turn_back u

abbrev arrival_from : Turn → Option ℕ → Arrival
arrival_from t n = record { turn = t; length = n }

pub arrival_one : (x y : Arrival) → said_of x.turn ≡ said_of y.turn → line_of x.turn.next ≡ line_of y.turn.next → x.length ≡ y.length → x ≡ y
arrival_one x y p q r = ap₂ arrival_from (turn_one x.turn y.turn p q) r

pub RefusalFromFault_from_one_answer : OneAnswer _ refusal-kinds.ps refusal-kinds.r refusal.Post
RefusalFromFault_from_one_answer κs a x y s t p q = sym (refusal_back x) ∙ ap refusal_of (p ∙ sym q) ∙ refusal_back y

pub Session-opened-one-answer : OneAnswer _ opened-kinds.ps opened-kinds.r opened.Post
Session-opened-one-answer κs a x y s t p q = session_one x y (p ∙ sym q)

pub Session-turn-one-answer : OneAnswer _ turn-kinds.ps turn-kinds.r turn.Post
Session-turn-one-answer κs a x y s t p q = turn_one x y (p.0 ∙ sym q.0) (p.1 ∙ sym q.1)

pub Session-may-send-one-answer : OneAnswer _ may-send-kinds.ps may-send-kinds.r may-send.Post
Session-may-send-one-answer κs a x y s t p q = verdict_one x y (p ∙ sym q)

pub Session-received-one-answer : OneAnswer _ received-kinds.ps received-kinds.r received.Post
Session-received-one-answer κs a x y s t p q = arrival_one x y (p.0 ∙ sym q.0) (p.1.0 ∙ sym q.1.0) (p.1.1 ∙ sym q.1.1)

pub told_by_one_answer : OneAnswer _ told-by-kinds.ps told-by-kinds.r told-by.Post
told_by_one_answer κs a x y s t p q = told_one x y (p.0 ∙ sym q.0) (p.1 ∙ sym q.1)
