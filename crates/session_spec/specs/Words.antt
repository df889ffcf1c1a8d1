-- The words of CR 12, each told from a history alone: the calls and their answers, and no session.
use Rattle.std.specs.Prelude.{Bool, true, false, ◌&&◌, ◌||◌, List, [], ◌∷◌, ◌++◌, ℕ, zero, suc, ◌+◌, max, eqb}
use Rattle.terms.specs.Paper.{pick}
use Rattle.session_spec.specs.Table.{State, new, waiting, active, leaving, over, Kind, none, S001, S002, S003, P002, Event, Begin, Time, Leave, Ask, Logon, Logout, Other, Faulty, is_frame, seq_of, agreed, sends}
use Rattle.session_spec.specs.Calls.{Answer, one}
use Rattle.session_spec.specs.Trace.{Call, History, start, ◌▸◌⇒◌}

abbrev pub accepted : Answer → Bool
accepted a = eqb a.number 0

-- a frame was taken: read, and answered 0
abbrev pub takes : Call → Answer → Bool
takes call a = is_frame call.event && accepted a

abbrev pub is_logon : Event → Bool
is_logon Begin = false
is_logon Time = false
is_logon Leave = false
is_logon Ask = false
is_logon (Logon number heart) = true
is_logon (Logout number) = false
is_logon (Other number) = false
is_logon (Faulty why) = false

abbrev pub is_logout : Event → Bool
is_logout Begin = false
is_logout Time = false
is_logout Leave = false
is_logout Ask = false
is_logout (Logon number heart) = false
is_logout (Logout number) = true
is_logout (Other number) = false
is_logout (Faulty why) = false

abbrev pub is_s001 : Kind → Bool
is_s001 none = false
is_s001 S001 = true
is_s001 S002 = false
is_s001 S003 = false
is_s001 P002 = false

abbrev pub is_s002 : Kind → Bool
is_s002 none = false
is_s002 S001 = false
is_s002 S002 = true
is_s002 S003 = false
is_s002 P002 = false

-- the clock: the latest time of the calls not refused
abbrev pub clock : History → ℕ
clock start = 0
clock (h ▸ call ⇒ a) = pick (accepted a) (max (clock h) call.now) (clock h)

-- how many messages were to be sent, and how many frames taken
abbrev pub count_sent : History → ℕ
count_sent start = 0
count_sent (h ▸ call ⇒ a) = count_sent h + one (sends a.kind)

abbrev pub count_taken : History → ℕ
count_taken start = 0
count_taken (h ▸ call ⇒ a) = count_taken h + one (takes call a)

-- when we last sent, and when a frame was last taken
abbrev pub last_sent : History → ℕ
last_sent start = 0
last_sent (h ▸ call ⇒ a) = pick (sends a.kind) (max (clock h) call.now) (last_sent h)

abbrev pub last_taken : History → ℕ
last_taken start = 0
last_taken (h ▸ call ⇒ a) = pick (takes call a) (max (clock h) call.now) (last_taken h)

-- the agreed interval: that of the logon taken
abbrev pub interval : History → ℕ
interval start = 0
interval (h ▸ call ⇒ a) = pick (accepted a) (agreed call.event (interval h)) (interval h)

-- our logon was sent; a logon was taken; our logout was sent; the line was called dead
abbrev pub logon_sent : History → Bool
logon_sent start = false
logon_sent (h ▸ call ⇒ a) = is_s001 a.kind || logon_sent h

abbrev pub logged_on : History → Bool
logged_on start = false
logged_on (h ▸ call ⇒ a) = (is_logon call.event && accepted a) || logged_on h

abbrev pub logout_sent : History → Bool
logout_sent start = false
logout_sent (h ▸ call ⇒ a) = is_s002 a.kind || logout_sent h

abbrev pub called_dead : History → Bool
called_dead start = false
called_dead (h ▸ call ⇒ a) = a.dead || called_dead h

-- how far the session is, by what was last sent or taken: over behind a logout taken or a dead
-- line, leaving behind our own logout, active behind a logon taken, waiting behind our logon
abbrev pub stage_by : Call → Answer → State → State
stage_by call a was =
    pick (a.dead || (is_logout call.event && accepted a)) over
    (pick (is_s002 a.kind) leaving
    (pick (is_logon call.event && accepted a) active
    (pick (is_s001 a.kind) waiting was)))

abbrev pub stage : History → State
stage start = new
stage (h ▸ call ⇒ a) = stage_by call a (stage h)

-- the numbers sent, and those of the frames taken, in their order
abbrev pub numbers_sent : History → List ℕ
numbers_sent start = []
numbers_sent (h ▸ call ⇒ a) = numbers_sent h ++ pick (sends a.kind) (a.seq ∷ []) []

abbrev pub numbers_taken : History → List ℕ
numbers_taken start = []
numbers_taken (h ▸ call ⇒ a) = numbers_taken h ++ pick (takes call a) (seq_of call.event ∷ []) []

-- 1, 2, 3 and so on, n of them
abbrev pub one_to : ℕ → List ℕ
one_to zero = []
one_to (suc n) = one_to n ++ (suc n ∷ [])
