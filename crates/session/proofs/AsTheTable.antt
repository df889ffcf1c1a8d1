-- What the code runs is the table, followed from new on: over the promises of `turn` and `received`
-- themselves. Assumes nothing.
use mathlib.Core.Path.{◌≡◌, refl}
use Rattle.terms.specs.RuledOut as promise
use Rattle.session_spec.specs.Calls.{Answer, opened, answer_to, next_of}
use Rattle.session_spec.specs.Trace.{Call, Calls, no_call, ◌▸◌, after, History, start, ◌▸◌⇒◌, trace}
use Rattle.session.specs.Papers.{event_of, line_of, said_of}
use Rattle.session.specs.Arrivals.{event_in}
use Rattle.session.specs.declared.Session.{Session}
use Rattle.session.proofs.Session.turn.Reads as turn
use Rattle.session.proofs.Session.turn.Kinds as turn-kinds
use Rattle.session.proofs.Session.received.Reads as received
use Rattle.session.proofs.Session.received.Kinds as received-kinds

-- a call of `turn`, and what it is asked
abbrev pub Turned : Type 0
Turned = promise.Call _ turn-kinds.ps turn-kinds.r

abbrev pub asked : Turned → Call
asked c = record { now = c.args.1.0; event = event_of c.args.1.1.0 }

-- a call of `received`: the bytes it is lent are an event
abbrev pub Received : Type 0
Received = promise.Call _ received-kinds.ps received-kinds.r

abbrev pub arrived : Received → Call
arrived c = record { now = c.args.1.0; event = event_in c.args.1.1.0.now }

-- the session s and the history h come of calls of the code on an opened session, each meeting its
-- promise
pub data Ran : Calls → Session → History → Type 0 where
  opening : {s : Session} → line_of s ≡ opened → Ran no_call s start
  one_more : {calls : Calls} {h : History} (c : Turned) → Ran calls c.args.0 h → promise.Kept _ turn-kinds.ps turn-kinds.r turn.Post c
      → Ran (calls ▸ asked c) c.result.next (h ▸ asked c ⇒ said_of c.result)
  one_frame : {calls : Calls} {h : History} (c : Received) → Ran calls c.args.0 h → promise.Kept _ received-kinds.ps received-kinds.r received.Post c
      → Ran (calls ▸ arrived c) c.result.turn.next (h ▸ arrived c ⇒ said_of c.result.turn)

pub record AsTheTable (calls : Calls) (s : Session) (h : History) : Type 0 where
  pub said : h ≡ trace calls
  pub stands : line_of s ≡ after calls

-- one call more
grown : {calls : Calls} {s : Session} {h : History} (call : Call) (a : Answer) (n : Session) → AsTheTable calls s h
    → a ≡ answer_to (line_of s) call.now call.event → line_of n ≡ next_of (line_of s) call.now call.event → AsTheTable (calls ▸ call) n (h ▸ call ⇒ a)
unfolding trace
grown {calls} {s} {h} call a n t p q = record { said = rw (p, t.said, t.stands); stands = rw (q, t.stands) }

-- for every row of calls the answers, and with them the messages to send, are those of the table
pub as_the_table : {calls : Calls} {s : Session} {h : History} → Ran calls s h → AsTheTable calls s h
unfolding trace
as_the_table (opening e) = record { said = refl; stands = e }
as_the_table (one_more c ran p) = grown (asked c) (said_of c.result) c.result.next (as_the_table ran) p.0 p.1
as_the_table (one_frame c ran p) = grown (arrived c) (said_of c.result.turn) c.result.turn.next (as_the_table ran) p.0 p.1.0
