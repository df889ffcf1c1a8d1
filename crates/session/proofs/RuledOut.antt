-- For each public function: wrong answers that its promise rules out. Assumes nothing.
use Prim.Native.Nat.{ℕ}
use mathlib.Core.Path.{◌≡◌, refl, ap, ap₂, ◌∙◌}
use mathlib.Core.List.{List, [], ◌∷◌, ◌++◌}
use lib.ListN.{take}
use Rattle.terms.specs.RuledOut.{Row, ◌never◌, ◌only◌, Kept, RulesOut, ruled, numbers, lists}
use Rattle.terms.specs.Verdicts.{verdict_number}
use Rattle.octets.specs.Octets.{numeral, digits_of, sum8, sum_of}
use Rattle.calendar.specs.Calendar.{leap, days_in, real_parts, real_time}
use Rattle.rules.specs.Table.{kind_of, suits, measure_of}
use Rattle.rules.specs.Fields.{s001_ok, p001_ok, fields_ok, judge_of}
use Rattle.frame_spec.specs.Frame.{checked, read_of}
use Rattle.frame_spec.specs.Write.{plain_of, frame_of}
use Rattle.frame_spec.specs.Examples.{start_of_a, frame_a, frame_b, ending, A, heartbeat, logon}
use Rattle.session_spec.specs.Faults.{Fault, More, Sum, Time as TimeFault, fault_number, fault_numbered}
use Rattle.session_spec.specs.Table.{State, new, waiting, active, leaving, over, Kind, none, S001, S002, S003, P002, Event, Begin, Time, Leave, Ask, Logon, Logout, Other, Faulty}
use Rattle.session_spec.specs.Calls.{Line, Answer, one, sound_of, dead_at, due_at, cell_of, own_number, number_to, done, answer_to, next_of, opened}
use Rattle.session.specs.Papers.{fault_of, event_of, line_of, said_of}
use Rattle.terms.specs.Refusals.{number_of}
use Rattle.session.specs.Arrivals.{event_in, length_in, length_or_0}
use Rattle.std.specs.Prelude.{Option}
use Rattle.std.specs.Option.{unwrap_or}
use Rattle.session.proofs.RefusalFromFault.from.Reads as refusal
use Rattle.session.proofs.RefusalFromFault.from.Kinds as refusal-kinds
use Rattle.session.proofs.Session.opened.Reads as opened-reads
use Rattle.session.proofs.Session.opened.Kinds as opened-kinds
use Rattle.session.proofs.Session.turn.Reads as turn
use Rattle.session.proofs.Session.turn.Kinds as turn-kinds
use Rattle.session.proofs.Session.may_send.Reads as may-send
use Rattle.session.proofs.Session.may_send.Kinds as may-send-kinds
use Rattle.session.proofs.Session.received.Reads as received
use Rattle.session.proofs.Session.received.Kinds as received-kinds
use Rattle.session.proofs.told_by.Reads as told-by
use Rattle.session.proofs.told_by.Kinds as told-by-kinds

-- states from 0 in the table's order; kinds: nothing 0, S001 1, S002 2, S003 3, P002 4
abbrev state_number : State → ℕ
state_number new = 0
state_number waiting = 1
state_number active = 2
state_number leaving = 3
state_number over = 4

abbrev kind_number : Kind → ℕ
kind_number none = 0
kind_number S001 = 1
kind_number S002 = 2
kind_number S003 = 3
kind_number P002 = 4

abbrev line_numbers : Line → List ℕ
line_numbers l = state_number l.state ∷ l.sending ∷ l.expecting ∷ l.last ∷ l.sent ∷ l.heard ∷ l.interval ∷ []

-- a turn as numbers: the answer's number, what is sent and under which number, dead or not; then
-- the next session
abbrev listed : Answer → Line → List ℕ
listed a l = a.number ∷ kind_number a.kind ∷ a.seq ∷ one a.dead ∷ line_numbers l

listed_is : {a b : Answer} {l m : Line} → (a ≡ b) × (l ≡ m) → listed a l ≡ listed b m
listed_is h = ap₂ listed h.0 h.1

abbrev outcome : Answer → Line → ℕ → List ℕ
outcome a l n = n ∷ listed a l

outcome_is : {a b : Answer} {l m : Line} {n k : ℕ} → (a ≡ b) × ((l ≡ m) × (n ≡ k)) → outcome a l n ≡ outcome b m k
outcome_is h = ap₂ (λ (n : ℕ) (r : List ℕ). n ∷ r) h.1.1 (listed_is (h.0, h.1.0))

abbrev line : State → ℕ → ℕ → ℕ → ℕ → ℕ → ℕ → Line
line s out into last sent heard interval = record { state = s; sending = out; expecting = into; last = last; sent = sent; heard = heard; interval = interval }

abbrev Given : Type 0
Given = Line × (ℕ × Event)

abbrev given : Line → ℕ → Event → Given
given l now e = (l, (now, e))

-- lines for rows: a logon is awaited; active since 1,000 with an interval of 1,000; our logout
-- sent; over
abbrev awaiting : Line
awaiting = line waiting 2 1 1000 1000 0 0

abbrev running : Line
running = line active 5 7 1000 1000 1000 1000

abbrev quitting : Line
quitting = line leaving 6 7 1000 1000 1000 1000

abbrev closed : Line
closed = line over 6 8 1000 1000 1000 1000

abbrev full : ℕ
full = 18446744073709551615

-- FROM: a fault, and the number of its refusal
abbrev pub RefusalFromFault_from_wrong : List (Row Fault ℕ)
RefusalFromFault_from_wrong =
    More only 1  -- counted from 0
    ∷ Sum only 5
    ∷ TimeFault never 30  -- a number of the session's own
    ∷ []

pub RefusalFromFault_from_rules_out : RulesOut (Kept _ refusal-kinds.ps refusal-kinds.r refusal.Post) (λ c. fault_of c.args.0) (λ c. number_of c.result) RefusalFromFault_from_wrong
RefusalFromFault_from_rules_out = ruled numbers fault_number (λ c p. p) _ refl

-- TURN
abbrev pub turn_wrong : List (Row Given (List ℕ))
turn_wrong =
    given opened 9 Begin only (0 ∷ 1 ∷ 1 ∷ 0 ∷ 1 ∷ 2 ∷ 1 ∷ 9 ∷ 9 ∷ 0 ∷ 0 ∷ [])  -- begins with number 0
    ∷ given awaiting 2000 Ask only (30 ∷ 0 ∷ 0 ∷ 0 ∷ line_numbers awaiting)  -- a request before the logon answer
    ∷ given awaiting 999999 Time only (0 ∷ 0 ∷ 0 ∷ 0 ∷ 1 ∷ 2 ∷ 1 ∷ 999999 ∷ 1000 ∷ 0 ∷ 0 ∷ [])  -- a heartbeat before it, or dead
    ∷ given awaiting 2000 (Logon 1 30) only (0 ∷ 0 ∷ 0 ∷ 0 ∷ 2 ∷ 2 ∷ 2 ∷ 2000 ∷ 1000 ∷ 2000 ∷ 30000 ∷ [])  -- the interval that it proposed; seconds
    ∷ given awaiting 2000 (Logout 1) only (0 ∷ 0 ∷ 0 ∷ 0 ∷ 4 ∷ 2 ∷ 2 ∷ 2000 ∷ 1000 ∷ 2000 ∷ 0 ∷ [])  -- answers a logout in place of the logon answer
    ∷ given awaiting 2000 (Other 7) only (30 ∷ 0 ∷ 0 ∷ 0 ∷ line_numbers awaiting)  -- 31 before 30
    ∷ given running 1500 (Other 6) only (31 ∷ 0 ∷ 0 ∷ 0 ∷ line_numbers running)  -- takes a number twice
    ∷ given running 1500 (Other 8) only (31 ∷ 0 ∷ 0 ∷ 0 ∷ line_numbers running)  -- skips one
    ∷ given running 1500 (Faulty Sum) only (5 ∷ 0 ∷ 0 ∷ 0 ∷ line_numbers running)  -- counts a refused frame as heard
    ∷ given running 1999 Time only (0 ∷ 0 ∷ 0 ∷ 0 ∷ 2 ∷ 5 ∷ 7 ∷ 1999 ∷ 1000 ∷ 1000 ∷ 1000 ∷ [])  -- beats too early
    ∷ given running 2000 Time only (0 ∷ 3 ∷ 5 ∷ 0 ∷ 2 ∷ 6 ∷ 7 ∷ 2000 ∷ 2000 ∷ 1000 ∷ 1000 ∷ [])  -- waits for more than one interval
    ∷ given running 3000 Time only (0 ∷ 3 ∷ 5 ∷ 0 ∷ 2 ∷ 6 ∷ 7 ∷ 3000 ∷ 3000 ∷ 1000 ∷ 1000 ∷ [])  -- dead at two intervals exactly
    ∷ given running 3001 Time only (0 ∷ 0 ∷ 0 ∷ 1 ∷ 4 ∷ 5 ∷ 7 ∷ 3001 ∷ 1000 ∷ 1000 ∷ 1000 ∷ [])  -- beats on a dead line
    ∷ given running 3001 (Other 7) only (32 ∷ 0 ∷ 0 ∷ 0 ∷ line_numbers running)  -- takes a frame on a dead line
    ∷ given running 10 (Other 7) only (0 ∷ 0 ∷ 0 ∷ 0 ∷ 2 ∷ 5 ∷ 8 ∷ 1000 ∷ 1000 ∷ 1000 ∷ 1000 ∷ [])  -- moves the clock back
    ∷ given running 1500 (Logout 7) only (0 ∷ 2 ∷ 5 ∷ 0 ∷ 4 ∷ 6 ∷ 8 ∷ 1500 ∷ 1500 ∷ 1500 ∷ 1000 ∷ [])  -- does not answer the logout
    ∷ given closed 1500 (Logout 8) only (32 ∷ 0 ∷ 0 ∷ 0 ∷ line_numbers closed)  -- answers it twice
    ∷ given closed 1500 (Logon 8 30) only (32 ∷ 0 ∷ 0 ∷ 0 ∷ line_numbers closed)  -- 33 before 32
    ∷ given quitting 1500 Ask only (32 ∷ 0 ∷ 0 ∷ 0 ∷ line_numbers quitting)  -- sends after its own logout
    ∷ given quitting 2500 Time only (0 ∷ 0 ∷ 0 ∷ 0 ∷ 3 ∷ 6 ∷ 7 ∷ 2500 ∷ 1000 ∷ 1000 ∷ 1000 ∷ [])  -- beats after it
    ∷ given (line active full 7 0 0 0 9) 1 Ask only (32 ∷ 0 ∷ 0 ∷ 0 ∷ line_numbers (line active full 7 0 0 0 9))  -- steps past the last number
    ∷ given (line active 5 full 0 0 0 9) 1 (Other full) only (32 ∷ 0 ∷ 0 ∷ 0 ∷ line_numbers (line active 5 full 0 0 0 9))  -- takes it
    ∷ given (line active 1 7 0 0 0 9) 1 Begin only (13 ∷ 0 ∷ 0 ∷ 0 ∷ line_numbers (line active 1 7 0 0 0 9))  -- takes a broken session
    ∷ []

pub Session-turn-rules-out : RulesOut (Kept _ turn-kinds.ps turn-kinds.r turn.Post) (λ c. given (line_of c.args.0) c.args.1.0 (event_of c.args.1.1.0)) (λ c. listed (said_of c.result) (line_of c.result.next)) turn_wrong
unfolding opened sound_of dead_at due_at cell_of own_number number_to done answer_to next_of
Session-turn-rules-out = ruled lists (λ (i : Given). listed (answer_to i.0 i.1.0 i.1.1) (next_of i.0 i.1.0 i.1.1)) (λ c p. listed_is p) _ refl

-- RECEIVED: a session, a time and bytes; the outcome is a turn's, and behind it the frame's length
abbrev Arriving : Type 0
Arriving = Line × (ℕ × List ℕ)

abbrev arriving : Line → ℕ → List ℕ → Arriving
arriving l now s = (l, (now, s))

-- active, and frame B's number is the next
abbrev second : Line
second = line active 5 2 1000 1000 1000 1000

abbrev pub received_wrong : List (Row Arriving (List ℕ))
received_wrong =
    arriving second 1500 (frame_b ++ (1 ∷ 2 ∷ [])) only (40 ∷ 0 ∷ 0 ∷ 0 ∷ 0 ∷ 2 ∷ 5 ∷ 3 ∷ 1500 ∷ 1000 ∷ 1500 ∷ 1000 ∷ [])  -- bytes behind the frame counted
    ∷ arriving awaiting 2000 (logon 0x41 0x42 30) only (102 ∷ 0 ∷ 0 ∷ 0 ∷ 0 ∷ 2 ∷ 2 ∷ 2 ∷ 2000 ∷ 1000 ∷ 2000 ∷ 30000 ∷ [])  -- the interval that it proposed
    ∷ arriving awaiting 2000 heartbeat only (28 ∷ 30 ∷ 0 ∷ 0 ∷ 0 ∷ line_numbers awaiting)  -- no length beside a refusal of the session
    ∷ arriving running 1500 A only (28 ∷ 31 ∷ 0 ∷ 0 ∷ 0 ∷ line_numbers running)  -- a number taken twice
    ∷ arriving running 1500 (ending 0 0x8F) only (0 ∷ 5 ∷ 0 ∷ 0 ∷ 0 ∷ line_numbers running)  -- a refused frame counted as heard
    ∷ arriving running 1500 (take 27 A) only (0 ∷ 1 ∷ 0 ∷ 0 ∷ 0 ∷ line_numbers running)  -- a cut frame taken
    ∷ arriving awaiting 2000 (ending 0 0x8F) only (0 ∷ 5 ∷ 0 ∷ 0 ∷ 0 ∷ line_numbers awaiting)  -- 30 before reading's own
    ∷ arriving running 9000 (ending 0 0x8F) only (0 ∷ 5 ∷ 0 ∷ 0 ∷ 0 ∷ line_numbers running)  -- 32 before it, on a dead line
    ∷ []

pub Session-received-rules-out : RulesOut (Kept _ received-kinds.ps received-kinds.r received.Post) (λ c. arriving (line_of c.args.0) c.args.1.0 c.args.1.1.0.now)
    (λ c. outcome (said_of c.result.turn) (line_of c.result.turn.next) (unwrap_or c.result.length 0)) received_wrong
unfolding sound_of dead_at due_at cell_of own_number number_to done answer_to next_of event_in length_in fault_numbered frame_a start_of_a frame_b checked plain_of frame_of read_of numeral digits_of sum8 sum_of kind_of suits measure_of s001_ok p001_ok fields_ok real_time real_parts days_in leap judge_of
Session-received-rules-out =
    ruled lists (λ (i : Arriving). outcome (answer_to i.0 i.1.0 (event_in i.1.1)) (next_of i.0 i.1.0 (event_in i.1.1)) (length_in i.1.1))
    (λ c p. outcome_is (p.0, (p.1.0, ap (λ (o : Option ℕ). unwrap_or o 0) p.1.1 ∙ length_or_0 c.args.1.1.0.now))) _ refl

-- TOLD_BY: bytes; the outcome is the frame's length and the event: a frame's kind (a logon 1, a
-- logout 2, any other 3), its number and a logon's HeartBtInt; or 4 and the number of reading's
-- refusal
abbrev event_numbers : Event → List ℕ
event_numbers Begin = []
event_numbers Time = []
event_numbers Leave = []
event_numbers Ask = []
event_numbers (Logon number heart) = 1 ∷ number ∷ heart ∷ []
event_numbers (Logout number) = 2 ∷ number ∷ []
event_numbers (Other number) = 3 ∷ number ∷ []
event_numbers (Faulty why) = 4 ∷ fault_number why ∷ []

abbrev pub told_by_wrong : List (Row (List ℕ) (List ℕ))
told_by_wrong =
    logon 0x41 0x42 30 only (102 ∷ 1 ∷ 1 ∷ 30 ∷ [])  -- HeartBtInt from another place
    ∷ (frame_b ++ (1 ∷ 2 ∷ [])) only (40 ∷ 3 ∷ 2 ∷ [])  -- bytes behind the frame counted
    ∷ heartbeat never (28 ∷ 2 ∷ 1 ∷ [])  -- a heartbeat told as a logout
    ∷ ending 0 0x8F only (0 ∷ 4 ∷ 5 ∷ [])  -- a refused frame told as one
    ∷ take 27 A only (0 ∷ 4 ∷ 1 ∷ [])  -- a cut one
    ∷ []

pub told_by_rules_out : RulesOut (Kept _ told-by-kinds.ps told-by-kinds.r told-by.Post) (λ c. c.args.0.now) (λ c. unwrap_or c.result.length 0 ∷ event_numbers (event_of c.result.event)) told_by_wrong
unfolding event_in length_in fault_numbered frame_a start_of_a frame_b checked plain_of frame_of read_of numeral digits_of sum8 sum_of kind_of suits measure_of s001_ok p001_ok fields_ok real_time real_parts days_in leap judge_of
told_by_rules_out =
    ruled lists (λ (s : List ℕ). length_in s ∷ event_numbers (event_in s))
    (λ c p. ap₂ (λ (n : ℕ) (e : Event). n ∷ event_numbers e) (ap (λ (o : Option ℕ). unwrap_or o 0) p.1 ∙ length_or_0 c.args.0.now) p.0) _ refl

-- MAY_SEND: a session and a time
abbrev pub may_send_wrong : List (Row (Line × ℕ) ℕ)
may_send_wrong =
    (awaiting, 2000) only 30  -- before the logon answer
    ∷ (running, 3000) only 0
    ∷ (running, 3001) only 32  -- on a dead line
    ∷ (quitting, 2000) never 0  -- behind our logout
    ∷ []

pub Session-may-send-rules-out : RulesOut (Kept _ may-send-kinds.ps may-send-kinds.r may-send.Post) (λ c. (line_of c.args.0, c.args.1.0)) (λ c. verdict_number c.result) may_send_wrong
unfolding sound_of dead_at due_at cell_of own_number number_to answer_to
Session-may-send-rules-out = ruled numbers (λ (i : Line × ℕ). (answer_to i.0 i.1 Ask).number) (λ c p. p) _ refl

-- OPENED is given nothing
abbrev pub opened_wrong : List (Row Unit (List ℕ))
opened_wrong =
    tt only (0 ∷ 1 ∷ 1 ∷ 0 ∷ 0 ∷ 0 ∷ 0 ∷ [])  -- both counters 1
    ∷ tt never (0 ∷ 0 ∷ 0 ∷ 0 ∷ 0 ∷ 0 ∷ 0 ∷ [])  -- numbers from 0
    ∷ []

pub Session-opened-rules-out : RulesOut (Kept _ opened-kinds.ps opened-kinds.r opened-reads.Post) (λ c. tt) (λ c. line_numbers (line_of c.result)) opened_wrong
unfolding opened
Session-opened-rules-out = ruled lists (λ (i : Unit). line_numbers opened) (λ c p. ap line_numbers p) _ refl
