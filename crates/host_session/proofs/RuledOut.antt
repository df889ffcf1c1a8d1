-- For each function that a host may call on a session: wrong answers that its promise rules out, as
-- tables of what is given and what is then wrong. A session is eight words: state, our next number,
-- the next frame's, the last time, when we sent, when we heard, the interval, 0. Assumes nothing.
use Prim.Native.Nat.{ℕ}
use mathlib.Core.Path.{◌≡◌, refl, ap₂}
use mathlib.Core.List.{List, [], ◌∷◌, ◌++◌}
use Rattle.terms.specs.Letters.{spelled}
use Rattle.terms.specs.Paper.{Paper}
use Rattle.terms.specs.RuledOut.{Row, ◌never◌, ◌only◌, Kept, RulesOut, ruled, numbers, lists, beside}
use Rattle.octets.specs.Octets.{numeral, digits_of, sum8, sum_of}
use Rattle.calendar.specs.Calendar.{leap, days_in, real_parts, real_time}
use Rattle.rules.specs.Table.{kind_of, suits, measure_of}
use Rattle.rules.specs.Fields.{s001_ok, p001_ok, fields_ok, judge_of}
use Rattle.frame_spec.specs.Frame.{checked, read_of}
use Rattle.frame_spec.specs.Write.{plain_of, frame_of}
use Rattle.frame_spec.specs.Examples.{start_of_a, frame_a, frame_b, ending, A, logon}
use Rattle.session_spec.specs.Faults.{fault_numbered}
use Rattle.session_spec.specs.Table.{Event, Begin, Time, Leave, Ask}
use Rattle.session_spec.specs.Calls.{sound_of, dead_at, due_at, cell_of, own_number, number_to, done, answer_to, next_of, opened}
use Rattle.session.specs.Arrivals.{event_in, length_in}
use Rattle.host_words.specs.Told.{told_by, Tells}
use Rattle.host_session.specs.Words.{words_of, state_numbered, line_in, call_told, arrival_told, words_after}
use Rattle.host_session.proofs.rk_session_open.Reads as rk-open
use Rattle.host_session.proofs.rk_session_open.Kinds as rk-open-kinds
use Rattle.host_session.proofs.rk_session_begin.Reads as rk-begin
use Rattle.host_session.proofs.rk_session_begin.Kinds as rk-begin-kinds
use Rattle.host_session.proofs.rk_session_time.Reads as rk-time
use Rattle.host_session.proofs.rk_session_time.Kinds as rk-time-kinds
use Rattle.host_session.proofs.rk_session_leave.Reads as rk-leave
use Rattle.host_session.proofs.rk_session_leave.Kinds as rk-leave-kinds
use Rattle.host_session.proofs.rk_session_ask.Reads as rk-ask
use Rattle.host_session.proofs.rk_session_ask.Kinds as rk-ask-kinds
use Rattle.host_session.proofs.rk_session_receive.Reads as rk-receive
use Rattle.host_session.proofs.rk_session_receive.Kinds as rk-receive-kinds
use Rattle.host_session.proofs.rk_session_may_send.Reads as rk-may-send
use Rattle.host_session.proofs.rk_session_may_send.Kinds as rk-may-send-kinds

-- the words of a session whose times are 1,000 and whose interval is a second
abbrev words : ℕ → ℕ → ℕ → List ℕ
words state out into = state ∷ out ∷ into ∷ 1000 ∷ 1000 ∷ 1000 ∷ 1000 ∷ 0 ∷ []

abbrev fresh : List ℕ
fresh = 0 ∷ 1 ∷ 1 ∷ 0 ∷ 0 ∷ 0 ∷ 0 ∷ 0 ∷ []

-- told rows as they were lent
abbrev three : List ℕ
three = 7 ∷ 7 ∷ 7 ∷ []

abbrev four : List ℕ
four = 7 ∷ 7 ∷ 7 ∷ 7 ∷ []

-- the number answered, what is told, and the words then
abbrev Outcome : Type 0
Outcome = ℕ × (List ℕ × List ℕ)

abbrev shown : ℕ → List ℕ → List ℕ → Outcome
shown n told w = (n, (told, w))

abbrev tells : Paper → List ℕ → List ℕ → Outcome
tells p was w = shown p.number (told_by p was) w

said : {p : Paper} {was row w v : List ℕ} {n : ℕ} → Tells p was n row × (w ≡ v) → shown n row w ≡ tells p was v
said e = ap₂ (λ (n : ℕ) (r : List ℕ × List ℕ). (n, r)) e.0.answered (ap₂ (λ (t w : List ℕ). (t, w)) e.0.told e.1)

-- OPEN: the words before
abbrev pub rk_session_open_wrong : List (Row (List ℕ) (ℕ × List ℕ))
rk_session_open_wrong =
    words 4 9 9 only (0, fresh)  -- both counters 1
    ∷ words 4 9 9 never (0, 0 ∷ 0 ∷ 0 ∷ 0 ∷ 0 ∷ 0 ∷ 0 ∷ 0 ∷ [])  -- numbers from 0
    ∷ []

pub rk_session_open_rules_out : RulesOut (Kept _ rk-open-kinds.ps rk-open-kinds.r rk-open.Post) (λ c. c.args.0.now) (λ c. (c.result, c.exit.0.now)) rk_session_open_wrong
unfolding opened
rk_session_open_rules_out = ruled (beside numbers lists) (λ (i : List ℕ). (0, words_of opened)) (λ c p. ap₂ (λ (n : ℕ) (w : List ℕ). (n, w)) p.0 p.1) _ refl

-- CALLS: the words, a time, and the told row before
abbrev Input : Type 0
Input = List ℕ × (ℕ × List ℕ)

abbrev given : List ℕ → ℕ → Input
given w time = (w, (time, three))

abbrev called : Event → Input → Outcome
called e i = tells (call_told i.0 i.1.0 e) i.1.1 (words_after i.0 i.1.0 e)

abbrev pub rk_session_begin_wrong : List (Row Input Outcome)
rk_session_begin_wrong =
    given fresh 9 only shown 0 (spelled "S001" ∷ 1 ∷ 0 ∷ []) (1 ∷ 2 ∷ 1 ∷ 9 ∷ 9 ∷ 0 ∷ 0 ∷ 0 ∷ [])  -- begins with number 0, or with another type
    ∷ given (words 1 2 1) 2000 only shown 33 three (words 1 2 1)  -- a second logon
    ∷ given (words 4 2 2) 2000 only shown 32 three (words 4 2 2)  -- 33 before 32
    ∷ given (words 5 2 2) 2000 only shown 13 three (words 5 2 2)  -- a sixth state
    ∷ given (0 ∷ 1 ∷ 1 ∷ 0 ∷ 0 ∷ 0 ∷ 0 ∷ 1 ∷ []) 9 only shown 13 three (0 ∷ 1 ∷ 1 ∷ 0 ∷ 0 ∷ 0 ∷ 0 ∷ 1 ∷ [])  -- words of another form
    ∷ []

abbrev pub rk_session_time_wrong : List (Row Input Outcome)
rk_session_time_wrong =
    given (words 2 5 7) 1999 only shown 0 (0 ∷ 0 ∷ 0 ∷ []) (2 ∷ 5 ∷ 7 ∷ 1999 ∷ 1000 ∷ 1000 ∷ 1000 ∷ 0 ∷ [])  -- beats too early
    ∷ given (words 2 5 7) 3000 only shown 0 (spelled "S003" ∷ 5 ∷ 0 ∷ []) (2 ∷ 6 ∷ 7 ∷ 3000 ∷ 3000 ∷ 1000 ∷ 1000 ∷ 0 ∷ [])  -- dead at two intervals exactly
    ∷ given (words 2 5 7) 3001 only shown 0 (0 ∷ 0 ∷ 1 ∷ []) (4 ∷ 5 ∷ 7 ∷ 3001 ∷ 1000 ∷ 1000 ∷ 1000 ∷ 0 ∷ [])  -- beats on a dead line
    ∷ given (1 ∷ 2 ∷ 1 ∷ 9 ∷ 9 ∷ 0 ∷ 0 ∷ 0 ∷ []) 99999 only shown 0 (0 ∷ 0 ∷ 0 ∷ []) (1 ∷ 2 ∷ 1 ∷ 99999 ∷ 9 ∷ 0 ∷ 0 ∷ 0 ∷ [])  -- beats before the logon answer
    ∷ given (words 2 5 7) 10 only shown 0 (0 ∷ 0 ∷ 0 ∷ []) (words 2 5 7)  -- moves the clock back
    ∷ []

abbrev pub rk_session_leave_wrong : List (Row Input Outcome)
rk_session_leave_wrong =
    given (words 2 5 7) 1500 only shown 0 (spelled "S002" ∷ 5 ∷ 0 ∷ []) (3 ∷ 6 ∷ 7 ∷ 1500 ∷ 1500 ∷ 1000 ∷ 1000 ∷ 0 ∷ [])
    ∷ given (words 3 6 7) 1500 only shown 32 three (words 3 6 7)  -- a second logout
    ∷ given (words 1 2 1) 1500 never shown 0 (spelled "S002" ∷ 2 ∷ 0 ∷ []) (3 ∷ 3 ∷ 1 ∷ 1500 ∷ 1500 ∷ 1000 ∷ 1000 ∷ 0 ∷ [])  -- talks before the logon answer
    ∷ []

abbrev pub rk_session_ask_wrong : List (Row Input Outcome)
rk_session_ask_wrong =
    given (words 2 5 7) 1500 only shown 0 (spelled "P002" ∷ 5 ∷ 0 ∷ []) (2 ∷ 6 ∷ 7 ∷ 1500 ∷ 1500 ∷ 1000 ∷ 1000 ∷ 0 ∷ [])
    ∷ given (words 1 2 1) 1500 only shown 30 three (words 1 2 1)  -- a request before the logon answer
    ∷ given (words 3 6 7) 1500 only shown 32 three (words 3 6 7)  -- a request after our logout
    ∷ []

pub rk_session_begin_rules_out : RulesOut (Kept _ rk-begin-kinds.ps rk-begin-kinds.r rk-begin.Post) (λ c. (c.args.0.now, (c.args.1.0, c.args.1.1.0.now))) (λ c. shown c.result c.exit.1.1.0.now c.exit.0.now) rk_session_begin_wrong
unfolding sound_of dead_at due_at cell_of own_number number_to done answer_to next_of state_numbered line_in call_told words_after told_by
rk_session_begin_rules_out = ruled (beside numbers (beside lists lists)) (called Begin) (λ c p. said p) _ refl

pub rk_session_time_rules_out : RulesOut (Kept _ rk-time-kinds.ps rk-time-kinds.r rk-time.Post) (λ c. (c.args.0.now, (c.args.1.0, c.args.1.1.0.now))) (λ c. shown c.result c.exit.1.1.0.now c.exit.0.now) rk_session_time_wrong
unfolding sound_of dead_at due_at cell_of own_number number_to done answer_to next_of state_numbered line_in call_told words_after told_by
rk_session_time_rules_out = ruled (beside numbers (beside lists lists)) (called Time) (λ c p. said p) _ refl

pub rk_session_leave_rules_out : RulesOut (Kept _ rk-leave-kinds.ps rk-leave-kinds.r rk-leave.Post) (λ c. (c.args.0.now, (c.args.1.0, c.args.1.1.0.now))) (λ c. shown c.result c.exit.1.1.0.now c.exit.0.now) rk_session_leave_wrong
unfolding sound_of dead_at due_at cell_of own_number number_to done answer_to next_of state_numbered line_in call_told words_after told_by
rk_session_leave_rules_out = ruled (beside numbers (beside lists lists)) (called Leave) (λ c p. said p) _ refl

pub rk_session_ask_rules_out : RulesOut (Kept _ rk-ask-kinds.ps rk-ask-kinds.r rk-ask.Post) (λ c. (c.args.0.now, (c.args.1.0, c.args.1.1.0.now))) (λ c. shown c.result c.exit.1.1.0.now c.exit.0.now) rk_session_ask_wrong
unfolding sound_of dead_at due_at cell_of own_number number_to done answer_to next_of state_numbered line_in call_told words_after told_by
rk_session_ask_rules_out = ruled (beside numbers (beside lists lists)) (called Ask) (λ c p. said p) _ refl

-- RECEIVE: the words, a time, bytes, and the told row before
abbrev Arriving : Type 0
Arriving = List ℕ × (ℕ × (List ℕ × List ℕ))

abbrev arriving : List ℕ → ℕ → List ℕ → Arriving
arriving w time s = (w, (time, (s, four)))

abbrev arrived : Arriving → Outcome
arrived i = tells (arrival_told i.0 i.1.0 i.1.1.0) i.1.1.1 (words_after i.0 i.1.0 (event_in i.1.1.0))

abbrev pub rk_session_receive_wrong : List (Row Arriving Outcome)
rk_session_receive_wrong =
    arriving (words 2 5 2) 1500 (frame_b ++ (1 ∷ 2 ∷ [])) only shown 0 (0 ∷ 0 ∷ 0 ∷ 40 ∷ []) (2 ∷ 5 ∷ 3 ∷ 1500 ∷ 1000 ∷ 1500 ∷ 1000 ∷ 0 ∷ [])  -- bytes behind the frame counted
    ∷ arriving (words 1 2 1) 1500 (logon 0x41 0x42 30) only shown 0 (0 ∷ 0 ∷ 0 ∷ 102 ∷ []) (2 ∷ 2 ∷ 2 ∷ 1500 ∷ 1000 ∷ 1500 ∷ 30000 ∷ 0 ∷ [])  -- the interval in seconds, or as it was
    ∷ arriving (words 2 5 7) 1500 A only shown 31 four (words 2 5 7)  -- a number taken twice
    ∷ arriving (words 1 2 1) 1500 (ending 0 0x8F) only shown 5 four (words 1 2 1)  -- 30 before reading's own
    ∷ []

pub rk_session_receive_rules_out : RulesOut (Kept _ rk-receive-kinds.ps rk-receive-kinds.r rk-receive.Post) (λ c. (c.args.0.now, (c.args.1.0, (c.args.1.1.0.now, c.args.1.1.1.0.now))))
    (λ c. shown c.result c.exit.1.1.1.0.now c.exit.0.now) rk_session_receive_wrong
unfolding sound_of dead_at due_at cell_of own_number number_to done answer_to next_of event_in length_in fault_numbered state_numbered line_in arrival_told words_after told_by frame_a start_of_a frame_b checked plain_of frame_of read_of numeral digits_of sum8 sum_of kind_of suits measure_of s001_ok p001_ok fields_ok real_time real_parts days_in leap judge_of
rk_session_receive_rules_out = ruled (beside numbers (beside lists lists)) arrived (λ c p. said p) _ refl

-- MAY_SEND: the words and a time
abbrev pub rk_session_may_send_wrong : List (Row (List ℕ × ℕ) ℕ)
rk_session_may_send_wrong =
    (words 1 2 1, 1500) only 30  -- before the logon answer
    ∷ (words 2 5 7, 3000) only 0
    ∷ (words 2 5 7, 3001) only 32  -- on a dead line
    ∷ (words 3 6 7, 1500) never 0  -- behind our logout
    ∷ []

pub rk_session_may_send_rules_out : RulesOut (Kept _ rk-may-send-kinds.ps rk-may-send-kinds.r rk-may-send.Post) (λ c. (c.args.0.now, c.args.1.0)) (λ c. c.result) rk_session_may_send_wrong
unfolding sound_of dead_at due_at cell_of own_number number_to answer_to state_numbered line_in
rk_session_may_send_rules_out = ruled numbers (λ (i : List ℕ × ℕ). (answer_to (line_in i.0) i.1 Ask).number) (λ c p. p) _ refl
