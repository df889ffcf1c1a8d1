-- CR 12, a session, for every row of calls from a new session on, refused ones among them, and for
-- every session that a call is given: each sentence over the promises of the code. Then, as for the
-- other functions of the host, that each answer is a number of the table.
use Rattle.std.specs.Prelude.{ℕ, ◌+◌, ◌*◌, ◌≤◌, ◌≡◌, refl, Bool, true, false, ◌||◌, ◌⊎◌, ◌↔◌, List, [], eqb}
use Rattle.std.proofs.Common.{sym, subst, ◌∙◌}
use Rattle.std.proofs.Math.Path.{ap}
use Rattle.terms.specs.Paper.{Paper, answer, pick}
use Rattle.terms.specs.RuledOut as promise
use Rattle.frame_spec.specs.Frame.{read_of}
use Rattle.session_spec.specs.Faults as fault
use Rattle.session_spec.specs.Table.{State, new, waiting, active, leaving, over, none, S001, S003, Event, Begin, Time, Leave, Ask, Logon, Logout, Other, Faulty, row_of, sends}
use Rattle.session_spec.specs.Calls.{Line, Answer, sound_of, clock_of, dead_at, due_at, resolved, cell_of, number_in, kind_in, misnumbered, gone, spent, own_number, number_to, answer_to, next_of, opened}
use Rattle.session_spec.specs.Words.{accepted, is_logon, stage, interval, count_sent, count_taken, numbers_sent, numbers_taken, one_to, logon_sent, logged_on, logout_sent, called_dead}
use Rattle.session_spec.specs.Statements.{HeartbeatDue, LineDead, reply}
use Rattle.session_spec.specs.Given.{Rules, Dead, BeatDue, WrongNumber, Stopped, Given0, Given30, Given31, Given32, Given33, AsCell}
use Rattle.session_spec.proofs.Outcome.{number_is}
use Rattle.session_spec.proofs.Steps.{rules, rules_test}
use Rattle.session_spec.proofs.Agree.{agrees}
use Rattle.session_spec.proofs.FromCells as cells
use Rattle.session_spec.proofs.Simple as simple
use Rattle.session_spec.proofs.Theorems as theorems
use Rattle.session_spec.proofs.Order as order
use Rattle.session_spec.proofs.Logout as logout
use Rattle.session_spec.proofs.Given as given
use Rattle.session.proofs.AsTheTable as code
use Rattle.session.proofs.Arrived as arrived
use Rattle.session.specs.Arrivals.{event_in, length_in}
use Rattle.session.specs.declared.Session.{Session}
use Rattle.session.specs.Papers.{line_of, said_of}
use Rattle.session.proofs.Session.turn.Reads as turn
use Rattle.session.proofs.Session.turn.Kinds as turn-kinds
use Rattle.session.proofs.Session.received.Reads as received
use Rattle.session.proofs.Session.received.Kinds as received-kinds
use Rattle.session.proofs.Session.opened.Reads as session-opened
use Rattle.session.proofs.Session.opened.Kinds as session-opened-kinds
use Rattle.tick_map.specs.Bits.{Words}
use Rattle.ledger_spec.specs.State.{StateRules}
use Rattle.ledger_spec.specs.Calls.{Renew}
use Rattle.ledger_spec.specs.Trace as ledger-trace
use Rattle.ledger_spec.specs.Answers.{NewSession, OnlyCleared}
use Rattle.ledger_spec.proofs.Answers as answers
use Rattle.ledger.specs.declared.Ledger.{Ledger}
use Rattle.ledger.specs.State.{book_of, cleared}
use Rattle.ledger.specs.Trace.{Promise}
use Rattle.ledger.proofs.Promised as ledgers
use Rattle.host_words.specs.Words.{book_in}
use Rattle.host_ledger.proofs.Promised as host-ledgers
use Rattle.host_ledger.proofs.rk_ledger_renew.Reads as rk-ledger-renew
use Rattle.host_ledger.proofs.rk_ledger_renew.Kinds as rk-ledger-renew-kinds
use Rattle.session_spec.specs.Trace.{Call, Calls, ◌▸◌, after, answer_after, History, start, ◌▸◌⇒◌, trace}
use Rattle.host_session.specs.Words.{words_of, line_in, paper_of, arrival_paper, call_told, arrival_told}
use Rattle.host_session.proofs.Rows as rows
use Rattle.host_session.proofs.rk_session_open.Reads as rk-session-open
use Rattle.host_session.proofs.rk_session_open.Kinds as rk-session-open-kinds
use Rattle.host_session.proofs.rk_session_begin.Reads as rk-session-begin
use Rattle.host_session.proofs.rk_session_begin.Kinds as rk-session-begin-kinds
use Rattle.host_session.proofs.rk_session_time.Reads as rk-session-time
use Rattle.host_session.proofs.rk_session_time.Kinds as rk-session-time-kinds
use Rattle.host_session.proofs.rk_session_leave.Reads as rk-session-leave
use Rattle.host_session.proofs.rk_session_leave.Kinds as rk-session-leave-kinds
use Rattle.host_session.proofs.rk_session_ask.Reads as rk-session-ask
use Rattle.host_session.proofs.rk_session_ask.Kinds as rk-session-ask-kinds
use Rattle.host_session.proofs.rk_session_receive.Reads as rk-session-receive
use Rattle.host_session.proofs.rk_session_receive.Kinds as rk-session-receive-kinds
use Rattle.host_session.proofs.rk_session_may_send.Reads as rk-session-may-send
use Rattle.host_session.proofs.rk_session_may_send.Kinds as rk-session-may-send-kinds
use Rattle.promises_words.specs.Words.{Promises, in_table, Numbered, done, refused, picked, tells_numbered}

-- "FOR EVERY SEQUENCE OF TIMES AND RECEIVED FRAMES THE MESSAGES TO SEND ARE THOSE OF THE SIMPLE
-- TABLE OF STATES": of what the code runs
pub as_the_table : (calls : Calls) (s : Session) (h : History) → code.Ran calls s h → code.AsTheTable calls s h
as_the_table calls s h ran = code.as_the_table ran

-- of the words that a host keeps, and of what it is told
pub host_as_the_table : (calls : Calls) (w : List ℕ) → rows.HostRan calls w → w ≡ words_of (after calls)
host_as_the_table calls w ran = rows.host_as_the_table ran

pub host_told : (calls : Calls) (w : List ℕ) (call : Call) → rows.HostRan calls w → call_told w call.now call.event ≡ paper_of (answer_after calls call)
host_told calls w call ran = rows.host_told ran call

pub host_arrival : (calls : Calls) (w : List ℕ) (time : ℕ) (s : List ℕ) → rows.HostRan calls w
    → arrival_told w time s ≡ arrival_paper (answer_after calls (rows.at time (event_in s))) (length_in s)
host_arrival calls w time s ran = rows.host_arrival ran time s

-- THE OTHER SENTENCES OF CR 12, of every row of calls of the code: the host has seen the history h,
-- and the words (stage, clock, interval, lastSent, lastTaken, countSent, countTaken and so on) are
-- told from it alone: Words.antt of `session_spec`
module _ {calls : Calls} {s : Session} {h : History} (ran : code.Ran calls s h) where
  abbrev of_history : (P : History → Type 0) → P (trace calls) → P h
  of_history P p = subst P (sym (code.as_the_table ran).said) p

  -- "MsgSeqNum from 1 rising by one each way"
  pub numbers_out : numbers_sent h ≡ one_to (count_sent h)
  numbers_out = of_history (λ x. numbers_sent x ≡ one_to (count_sent x)) (simple.numbers_out calls)

  pub numbers_in : numbers_taken h ≡ one_to (count_taken h)
  numbers_in = of_history (λ x. numbers_taken x ≡ one_to (count_taken x)) (simple.numbers_in calls)

  -- the state that the code holds is the one that the history tells, and its rules hold: 13 is
  -- never answered
  pub stage_is : (line_of s).state ≡ stage h
  stage_is = ap (λ (l : Line). l.state) (code.as_the_table ran).stands ∙ of_history (λ x. (after calls).state ≡ stage x) (agrees calls).state_is

  pub rules_kept : Rules (line_of s)
  rules_kept = rules (line_of s) (ap sound_of (code.as_the_table ran).stands ∙ simple.rules_kept calls)

-- the history before the last call, and its answer
abbrev before : History → History
before start = start
before (h ▸ call ⇒ a) = h

abbrev last_answer : Answer → History → Answer
last_answer other start = other
last_answer other (h ▸ call ⇒ a) = a

-- of one more call, answered a
module _ {calls : Calls} {call : Call} {next : Session} {h : History} {a : Answer} (ran : code.Ran (calls ▸ call) next (h ▸ call ⇒ a)) where
  seen : (h ≡ trace calls) × (a ≡ answer_after calls call)
  unfolding trace
  seen = let e = (code.as_the_table ran).said in (ap before e, ap (last_answer a) e)

  of_call : (P : History → Answer → Type 0) → P (trace calls) (answer_after calls call) → P h a
  of_call P p = subst (λ x. P x a) (sym seen.0) (subst (P (trace calls)) (sym seen.1) p)

  -- "logon sent first, nothing else until the logon answer": what is sent is our logon under number
  -- 1, or a logon was taken before
  pub logon_first : sends a.kind ≡ true → ((a.kind ≡ S001) × (a.seq ≡ 1)) ⊎ (logged_on h ≡ true)
  logon_first = of_call (λ x b. sends b.kind ≡ true → ((b.kind ≡ S001) × (b.seq ≡ 1)) ⊎ (logged_on x ≡ true)) (order.logon_first calls call)

  -- and a logon is taken only behind ours
  pub logon_answers_ours : is_logon call.event ≡ true → accepted a ≡ true → logon_sent h ≡ true
  logon_answers_ours = of_call (λ x b. is_logon call.event ≡ true → accepted b ≡ true → logon_sent x ≡ true) (order.logon_answers_ours calls call)

  -- the next message has the next number
  pub next_number : sends a.kind ≡ true → a.seq ≡ count_sent h + 1
  next_number = of_call (λ x b. sends b.kind ≡ true → b.seq ≡ count_sent x + 1) (simple.next_number calls call)

  -- "heartbeat sent when the agreed interval has passed since our last message"
  pub heartbeat_due : (a.kind ≡ S003) ↔ HeartbeatDue h call
  heartbeat_due = of_call (λ x b. (b.kind ≡ S003) ↔ HeartbeatDue x call) (theorems.heartbeat_due calls call)

  -- the agreed interval is 1000 times the HeartBtInt of the logon taken; no other call moves it
  pub agreed_is : (number heart : ℕ) → call.event ≡ Logon number heart → accepted a ≡ true → interval (h ▸ call ⇒ a) ≡ 1000 * heart
  agreed_is number heart e k =
      let logon : Call = record { now = call.now; event = Logon number heart } in
      let same_call : call ≡ logon = λ i. record { now = call.now; event = e i } in
      ap interval (code.as_the_table ran).said ∙ ap (λ (c : Call). interval (trace (calls ▸ c))) same_call
      ∙ cells.agreed_is calls call.now number heart (sym (ap accepted (seen.1 ∙ ap (answer_after calls) same_call)) ∙ k)

  pub agreed_stays : is_logon call.event ≡ false → interval (h ▸ call ⇒ a) ≡ interval h
  agreed_stays e = ap interval (code.as_the_table ran).said ∙ cells.agreed_stays calls call e ∙ sym (ap interval seen.0)

  -- "the line called dead when more than two intervals pass with nothing received", and once
  pub dead_exactly : (a.dead ≡ true) ↔ LineDead h call
  dead_exactly = of_call (λ x b. (b.dead ≡ true) ↔ LineDead x call) (theorems.dead_exactly calls call)

  pub dead_once : called_dead h ≡ true → a.dead ≡ true → ⊥
  dead_once = of_call (λ x b. called_dead x ≡ true → b.dead ≡ true → ⊥) (order.dead_once calls call)

  -- "logout answered by logout, nothing sent after ours"
  pub logout_answered : (n : ℕ) → call.event ≡ Logout n → accepted a ≡ true → a.kind ≡ reply (stage h)
  logout_answered n e k =
      let same_answer : a ≡ answer_to (after calls) call.now (Logout n) = seen.1 ∙ ap (answer_to (after calls) call.now) e in
      ap (λ (b : Answer). b.kind) same_answer ∙ logout.logout_answered calls call.now n (sym (ap accepted same_answer) ∙ k)
      ∙ ap (λ (x : History). reply (stage x)) (sym seen.0)

  pub silent_after_ours : logout_sent h ≡ true → sends a.kind ≡ false
  silent_after_ours = of_call (λ x b. logout_sent x ≡ true → sends b.kind ≡ false) (order.silent_after_ours calls call)

  pub silent_when_over : stage h ≡ over → sends a.kind ≡ false
  silent_when_over = of_call (λ x b. stage x ≡ over → sends b.kind ≡ false) (order.silent_when_over calls call)

  -- "a logout in place of the logon answer ends the session with nothing sent": nor by any later
  -- call (`silent_when_over`)
  pub ended_unsent : (n : ℕ) → call.event ≡ Logout n → stage h ≡ waiting → accepted a ≡ true → (a.kind ≡ none) × (stage (h ▸ call ⇒ a) ≡ over)
  ended_unsent n e w k =
      let out : Call = record { now = call.now; event = Logout n } in
      let same_call : call ≡ out = λ i. record { now = call.now; event = e i } in
      let same_answer : a ≡ answer_after calls out = seen.1 ∙ ap (answer_after calls) same_call in
      let q = logout.ended_unsent calls call.now n (sym (ap stage seen.0) ∙ w) (sym (ap accepted same_answer) ∙ k) in
      (ap (λ (b : Answer). b.kind) same_answer ∙ q.unsent, ap stage (code.as_the_table ran).said ∙ ap (λ (c : Call). stage (trace (calls ▸ c))) same_call ∙ q.ended)

-- AND OF EVERY SESSION that a program passes in, sound or not: one call of the code, by `turn` or
-- by `received`, as its promise allows it
pub data Called : Session → Call → Session → Answer → Type 0 where
  by_turn : (c : code.Turned) → promise.Kept _ turn-kinds.ps turn-kinds.r turn.Post c → Called c.args.0 (code.asked c) c.result.next (said_of c.result)
  by_frame : (c : code.Received) → promise.Kept _ received-kinds.ps received-kinds.r received.Post c
      → Called c.args.0 (code.arrived c) c.result.turn.next (said_of c.result.turn)

answered_so : {s next : Session} {call : Call} {a : Answer} → Called s call next a
    → (a ≡ answer_to (line_of s) call.now call.event) × (line_of next ≡ next_of (line_of s) call.now call.event)
answered_so (by_turn c p) = (p.0, p.1)
answered_so (by_frame c p) = (p.0, p.1.0)

module _ {s next : Session} {call : Call} {a : Answer} (called : Called s call next a) where
  abbrev l : Line
  l = line_of s

  abbrev t : ℕ
  t = call.now

  abbrev e : Event
  e = call.event

  of_answer : (P : Answer → Type 0) → P (answer_to l t e) → P a
  of_answer P p = subst P (sym (answered_so called).0) p

  -- a call is answered 0 exactly where no refusal is given
  pub given_0 : (a.number ≡ 0) ↔ Given0 l t e
  given_0 = of_answer (λ b. (b.number ≡ 0) ↔ Given0 l t e) (given.given_0 l t e)

  -- "Refusals: reading's own first, then 30 .., 31 .., 32 .., 33": in this order, and before all of
  -- them 13
  pub given_13 : (a.number ≡ 13) ↔ (Rules l → ⊥)
  given_13 = of_answer (λ b. (b.number ≡ 13) ↔ (Rules l → ⊥)) (given.given_13 l t e)

  pub own_first : Rules l → (why : fault.Fault) → e ≡ Faulty why → a.number ≡ fault.fault_number why
  own_first r why f =
      ap (λ (b : Answer). b.number) ((answered_so called).0 ∙ ap (answer_to l t) f) ∙ number_is l t (Faulty why) ∙ given.own_first l t why (rules_test l r)

  pub given_30 : (a.number ≡ 30) ↔ Given30 l t e
  given_30 = of_answer (λ b. (b.number ≡ 30) ↔ Given30 l t e) (given.given_30 l t e)

  pub given_31 : (a.number ≡ 31) ↔ Given31 l t e
  given_31 = of_answer (λ b. (b.number ≡ 31) ↔ Given31 l t e) (given.given_31 l t e)

  pub given_32 : (a.number ≡ 32) ↔ Given32 l t e
  given_32 = of_answer (λ b. (b.number ≡ 32) ↔ Given32 l t e) (given.given_32 l t e)

  pub given_33 : (a.number ≡ 33) ↔ Given33 l t e
  given_33 = of_answer (λ b. (b.number ≡ 33) ↔ Given33 l t e) (given.given_33 l t e)

  -- ".. none of them moves the state or the counters", nor a time; nothing is sent, and the line is
  -- not called dead
  pub refused_moves_nothing : (a.number ≡ 0 → ⊥) → (line_of next ≡ l) × ((a.kind ≡ none) × (a.dead ≡ false))
  refused_moves_nothing p =
      let q = simple.refused_moves_nothing l t e (λ z. p (ap (λ (b : Answer). b.number) (answered_so called).0 ∙ z)) in
      ((answered_so called).1 ∙ q.same, (ap (λ (b : Answer). b.kind) (answered_so called).0 ∙ q.unsent, ap (λ (b : Answer). b.dead) (answered_so called).0 ∙ q.undead))

  -- FROM THE TABLE'S CELL: the number, the message and the next state, where the frame's number is
  -- right, the line not dead, and a number left
  pub from_cell : Rules l → (WrongNumber l e → ⊥) → (Stopped l t e → ⊥) → AsCell (Dead l t) (BeatDue l t) a (line_of next).state (row_of l.state e)
  from_cell r right going =
      of_answer (λ b. AsCell (Dead l t) (BeatDue l t) b (line_of next).state (row_of l.state e))
      (subst (λ (n : Line). AsCell (Dead l t) (BeatDue l t) (answer_to l t e) n.state (row_of l.state e)) (sym (answered_so called).1) (cells.from_cell l t e r right going))

  -- and behind a row of calls: the cell of the stage that the history tells
  pub from_stage : {calls : Calls} {h : History} → code.Ran calls s h → (WrongNumber l e → ⊥) → (Stopped l t e → ⊥)
      → AsCell (Dead l t) (BeatDue l t) a (line_of next).state (row_of (stage h) e)
  from_stage ran right going =
      subst (λ (x : State). AsCell (Dead l t) (BeatDue l t) a (line_of next).state (row_of x e)) (stage_is ran) (from_cell (rules_kept ran) right going)

-- "a time before the last one counts as the last one": it is answered as that one, and leaves the
-- same session
pub time_back : {s x y : Session} {back on : Call} {a b : Answer} → Called s back x a → Called s on y b → back.event ≡ on.event → back.now ≤ (line_of s).last
    → on.now ≡ (line_of s).last → (a ≡ b) × (line_of x ≡ line_of y)
time_back {s} {x} {y} {back} {on} p q e h z =
    let k = simple.time_back (line_of s) back.now back.event h in
    let n : (line_of s).last ≡ on.now = sym z in (
      (answered_so p).0 ∙ k.0 ∙ (λ i. answer_to (line_of s) (n i) (e i)) ∙ sym (answered_so q).0,
      (answered_so p).1 ∙ k.1 ∙ (λ i. next_of (line_of s) (n i) (e i)) ∙ sym (answered_so q).1,
    )

-- bytes that reading refuses are answered reading's own number, whatever the state
pub received_own : (c : code.Received) → promise.Kept _ received-kinds.ps received-kinds.r received.Post c → Rules (line_of c.args.0)
    → ((read_of c.args.1.1.0.now).number ≡ 0 → ⊥) → (said_of c.result.turn).number ≡ (read_of c.args.1.1.0.now).number
received_own c p r n =
    let l = line_of c.args.0 in
    let bytes = c.args.1.1.0.now in
    ap (λ (b : Answer). b.number) p.0 ∙ number_is l c.args.1.0 (event_in bytes) ∙ arrived.received_own l c.args.1.0 bytes (rules_test l r) n

-- "A NEW SESSION STARTS BOTH COUNTERS AT 1": what opening one gives, of the code
pub new_session_counters : Promises _ session-opened-kinds.ps session-opened-kinds.r session-opened.Post (λ κs a x s. ((line_of x).sending ≡ 1) × ((line_of x).expecting ≡ 1))
unfolding opened
new_session_counters κs a x s p = (ap (λ (l : Line). l.sending) p, ap (λ (l : Line). l.expecting) p)

-- and of the words that a host keeps
pub host_new_session_counters : Promises _ rk-session-open-kinds.ps rk-session-open-kinds.r rk-session-open.Post (λ κs a x s. ((line_in s.0.now).sending ≡ 1) × ((line_in s.0.now).expecting ≡ 1))
unfolding opened
host_new_session_counters κs a x s p =
    let e : line_in s.0.now ≡ opened = ap line_in p.1 ∙ rows.words_back opened in
    (ap (λ (l : Line). l.sending) e, ap (λ (l : Line). l.expecting) e)

-- ".. CLEARS A PENDING RESEND REQUEST AND KEEPS ALL ELSE IN THE TICK LEDGERS": the very ledger with
-- nothing pending, of the code
pub new_session : (l next : Ledger) (paper : Paper) → Words l.map.words → Promise l Renew next paper → StateRules (book_of l)
    → (paper ≡ answer 0 []) × (next ≡ cleared l)
new_session = ledgers.new_session

-- of the nine words that a host keeps: the ledger that they stand for is the same but for its
-- pending request, which is nothing
pub host_new_session : Promises _ rk-ledger-renew-kinds.ps rk-ledger-renew-kinds.r rk-ledger-renew.Post
    (λ κs a x s. StateRules (book_in a.0.now) → NewSession (book_in a.0.now) (answer x []) (book_in s.0.now))
host_new_session κs a x s p r = host-ledgers.renew_new_session κs a x s p r

-- "DEMAND 3 THEN COUNTS THAT REQUEST AS NO LONGER PENDING": `handed_out_holds` to `counted` of
-- `promises_ledger` are over rows of calls with `Renew` among them, and `pending` is told from the
-- calls alone: granted, no reply answered 0 since, no new session since (`still_pending` of
-- `ledger_spec`)
pub no_longer_pending : (channel : ℕ) → channel ≤ 9999 → (calls : ledger-trace.Calls)
    → OnlyCleared (ledger-trace.trace channel calls) (ledger-trace.trace channel (ledger-trace.◌▸◌ calls Renew))
no_longer_pending = answers.new_session_told

-- EACH ANSWER IS A NUMBER OF THE TABLE

faulty : (why : fault.Fault) → Numbered (fault.fault_number why)
unfolding in_table
faulty fault.More = refused refl
faulty fault.MsgType = refused refl
faulty fault.Long = refused refl
faulty fault.Length = refused refl
faulty fault.Sum = refused refl
faulty fault.Field = refused refl
faulty fault.Time = refused refl

celled : (s : State) (e : Event) (dead due : Bool) → Numbered (number_in (resolved dead due (row_of s e)))
unfolding in_table
celled new Begin dead due = done refl
celled new Time dead due = done refl
celled new Leave dead due = refused refl
celled new Ask dead due = refused refl
celled new (Logon number heart) dead due = refused refl
celled new (Logout number) dead due = done refl
celled new (Other number) dead due = refused refl
celled new (Faulty why) dead due = faulty why
celled waiting Begin dead due = refused refl
celled waiting Time dead due = done refl
celled waiting Leave dead due = refused refl
celled waiting Ask dead due = refused refl
celled waiting (Logon number heart) dead due = done refl
celled waiting (Logout number) dead due = done refl
celled waiting (Other number) dead due = refused refl
celled waiting (Faulty why) dead due = faulty why
celled active Begin dead due = refused refl
celled active Time true due = done refl
celled active Time false true = done refl
celled active Time false false = done refl
celled active Leave dead due = done refl
celled active Ask dead due = done refl
celled active (Logon number heart) dead due = refused refl
celled active (Logout number) dead due = done refl
celled active (Other number) dead due = done refl
celled active (Faulty why) dead due = faulty why
celled leaving Begin dead due = refused refl
celled leaving Time true due = done refl
celled leaving Time false due = done refl
celled leaving Leave dead due = refused refl
celled leaving Ask dead due = refused refl
celled leaving (Logon number heart) dead due = refused refl
celled leaving (Logout number) dead due = done refl
celled leaving (Other number) dead due = done refl
celled leaving (Faulty why) dead due = faulty why
celled over Begin dead due = refused refl
celled over Time dead due = done refl
celled over Leave dead due = refused refl
celled over Ask dead due = refused refl
celled over (Logon number heart) dead due = refused refl
celled over (Logout number) dead due = refused refl
celled over (Other number) dead due = refused refl
celled over (Faulty why) dead due = faulty why

own_numbered : (l : Line) (t : ℕ) (e : Event) → Numbered (own_number l t e (cell_of l t e))
unfolding own_number cell_of in_table
own_numbered l t e =
    let n = number_in (resolved (dead_at l t) (due_at l t) (row_of l.state e)) in
    let ended = gone l t e || spent l e (kind_in (resolved (dead_at l t) (due_at l t) (row_of l.state e))) in
    picked (eqb n 30) 30 (pick (misnumbered l e) 31 (pick ended 32 n)) (refused refl)
    (picked (misnumbered l e) 31 (pick ended 32 n) (refused refl) (picked ended 32 n (refused refl) (celled l.state e (dead_at l t) (due_at l t))))

number_numbered : (l : Line) (time : ℕ) (e : Event) → Numbered (number_to l time e)
unfolding number_to in_table
number_numbered l time e = picked (sound_of l) _ 13 (own_numbered l (clock_of l time) e) (refused refl)

pub session_numbered : (l : Line) (time : ℕ) (e : Event) → Numbered (answer_to l time e).number
session_numbered l time e = rw (number_is l time e) (number_numbered l time e)

called : (w : List ℕ) (time : ℕ) (e : Event) → Numbered (call_told w time e).number
unfolding call_told
called w time e = session_numbered (line_in w) time e

came : (w : List ℕ) (time : ℕ) (s : List ℕ) → Numbered (arrival_told w time s).number
unfolding arrival_told
came w time s = session_numbered (line_in w) time (event_in s)

pub rk_session_open_numbered : Promises _ rk-session-open-kinds.ps rk-session-open-kinds.r rk-session-open.Post (λ κs a x s. Numbered x)
rk_session_open_numbered κs a x s p = done p.0

pub rk_session_begin_numbered : Promises _ rk-session-begin-kinds.ps rk-session-begin-kinds.r rk-session-begin.Post (λ κs a x s. Numbered x)
rk_session_begin_numbered κs a x s p = tells_numbered p.0 (called _ _ Begin)

pub rk_session_time_numbered : Promises _ rk-session-time-kinds.ps rk-session-time-kinds.r rk-session-time.Post (λ κs a x s. Numbered x)
rk_session_time_numbered κs a x s p = tells_numbered p.0 (called _ _ Time)

pub rk_session_leave_numbered : Promises _ rk-session-leave-kinds.ps rk-session-leave-kinds.r rk-session-leave.Post (λ κs a x s. Numbered x)
rk_session_leave_numbered κs a x s p = tells_numbered p.0 (called _ _ Leave)

pub rk_session_ask_numbered : Promises _ rk-session-ask-kinds.ps rk-session-ask-kinds.r rk-session-ask.Post (λ κs a x s. Numbered x)
rk_session_ask_numbered κs a x s p = tells_numbered p.0 (called _ _ Ask)

pub rk_session_receive_numbered : Promises _ rk-session-receive-kinds.ps rk-session-receive-kinds.r rk-session-receive.Post (λ κs a x s. Numbered x)
rk_session_receive_numbered κs a x s p = tells_numbered p.0 (came _ _ _)

pub rk_session_may_send_numbered : Promises _ rk-session-may-send-kinds.ps rk-session-may-send-kinds.r rk-session-may-send.Post (λ κs a x s. Numbered x)
rk_session_may_send_numbered κs a x s p = rw p (session_numbered (line_in a.0.now) a.1.0 Ask)
