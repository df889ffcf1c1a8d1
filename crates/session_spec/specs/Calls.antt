-- One call of a session: what it is answered, what is to be sent, and the session after it. CR 12
-- and decision 12.1.
use Rattle.std.specs.Prelude.{Bool, true, false, ◌&&◌, ◌||◌, not, ℕ, ◌+◌, ◌-◌, ◌*◌, max, eqb, leb, ltb}
use Rattle.terms.specs.Paper.{pick}
use Rattle.session_spec.specs.Table.{State, new, waiting, active, leaving, over, Kind, none, S003, Event, Cell, refuse, does, beats, watches, dies, row_of, is_frame, seq_of, is_ours, agreed, sends}

pub record Line : Type 0 where
  pub state : State
  pub sending : ℕ  -- the MsgSeqNum of our next message
  pub expecting : ℕ  -- the MsgSeqNum of the next frame
  pub last : ℕ  -- the last time, in milliseconds
  pub sent : ℕ  -- when we last sent
  pub heard : ℕ  -- when a frame was last taken
  pub interval : ℕ  -- agreed, in milliseconds

abbrev pub one : Bool → ℕ
one true = 1
one false = 0

-- the last 64-bit number: never sent nor taken, since the counter could not step behind it
abbrev pub last_number : ℕ
last_number = 18446744073709551615

-- ======== State rules

-- before our logon both counters are 1; until its answer 2 and 1; then both are at least 2, and 3
-- where our logout is sent
abbrev pub counters_right : State → ℕ → ℕ → Bool
counters_right new out into = eqb out 1 && eqb into 1
counters_right waiting out into = eqb out 2 && eqb into 1
counters_right active out into = leb 2 out && leb 2 into
counters_right leaving out into = leb 3 out && leb 2 into
counters_right over out into = leb 1 out && leb 1 into

unfoldable pub sound_of : Line → Bool
sound_of l = leb l.sent l.last && (leb l.heard l.last && counters_right l.state l.sending l.expecting)

-- ======== Times

-- time does not go back: an earlier time is taken for the last one
abbrev pub clock_of : Line → ℕ → ℕ
clock_of l now = max l.last now

-- behind the logon answer, and not over
abbrev pub listening : State → Bool
listening new = false
listening waiting = false
listening active = true
listening leaving = true
listening over = false

-- more than two intervals since the last frame taken; at least one interval since our last message
abbrev pub longer_than_two : ℕ → ℕ → Bool
longer_than_two interval passed = ltb (2 * interval) passed

unfoldable pub dead_at : Line → ℕ → Bool
dead_at l t = listening l.state && longer_than_two l.interval (t - l.heard)

unfoldable pub due_at : Line → ℕ → Bool
due_at l t = leb l.interval (t - l.sent)

-- ======== The cell of a call

-- dead is looked at before due
abbrev pub resolved : Bool → Bool → Cell → Cell
resolved dead due (refuse n) = refuse n
resolved dead due (does k s) = does k s
resolved dead due beats = pick dead dies (pick due (does S003 active) (does none active))
resolved dead due watches = pick dead dies (does none leaving)
resolved dead due dies = dies

unfoldable pub cell_of : Line → ℕ → Event → Cell
cell_of l t e = resolved (dead_at l t) (due_at l t) (row_of l.state e)

abbrev pub number_in : Cell → ℕ
number_in (refuse n) = n
number_in (does k s) = 0
number_in beats = 0
number_in watches = 0
number_in dies = 0

abbrev pub kind_in : Cell → Kind
kind_in (refuse n) = none
kind_in (does k s) = k
kind_in beats = none
kind_in watches = none
kind_in dies = none

abbrev pub is_death : Cell → Bool
is_death (refuse n) = false
is_death (does k s) = false
is_death beats = false
is_death watches = false
is_death dies = true

abbrev pub state_in : Cell → State → State
state_in (refuse n) was = was
state_in (does k s) was = s
state_in beats was = was
state_in watches was = was
state_in dies was = over

-- ======== The number answered

-- 31: MsgSeqNum is not the expected one
abbrev pub misnumbered : Line → Event → Bool
misnumbered l e = is_frame e && not (eqb (seq_of e) l.expecting)

-- 32: a call but time on a dead line is answered as in over
abbrev pub gone : Line → ℕ → Event → Bool
gone l t e = (is_frame e || is_ours e) && dead_at l t

-- 32: the counter that the call would use stands at its last number
abbrev pub spent : Line → Event → Kind → Bool
spent l e k = ((is_ours e || sends k) && leb last_number l.sending) || (is_frame e && leb last_number l.expecting)

-- "reading's own first, then 30 .., 31 .., 32 .., 33": a frame that reading refused is none to 31
-- and 32, so its own number stands (`own_first`)
abbrev pub ordered : Bool → Bool → ℕ → ℕ
ordered wrong ended n = pick (eqb n 30) 30 (pick wrong 31 (pick ended 32 n))

unfoldable pub own_number : Line → ℕ → Event → Cell → ℕ
own_number l t e cell = ordered (misnumbered l e) (gone l t e || spent l e (kind_in cell)) (number_in cell)

-- before all of them 13
unfoldable pub number_to : Line → ℕ → Event → ℕ
number_to l now e = pick (sound_of l) (own_number l (clock_of l now) e (cell_of l (clock_of l now) e)) 13

-- ======== The answer, and the session after the call

-- its number; what is to be sent, and under which number (0 beside nothing); whether the line was
-- called dead
pub record Answer : Type 0 where
  pub number : ℕ
  pub kind : Kind
  pub seq : ℕ
  pub dead : Bool

abbrev pub refused : ℕ → Answer
refused n = record { number = n; kind = none; seq = 0; dead = false }

abbrev pub numbered : Kind → ℕ → ℕ
numbered k n = pick (sends k) n 0

abbrev pub told : Line → Cell → Answer
told l cell = record { number = 0; kind = kind_in cell; seq = numbered (kind_in cell) l.sending; dead = is_death cell }

unfoldable pub done : Line → ℕ → Event → Cell → Line
done l t e cell =
    record {
      state = state_in cell l.state;
      sending = l.sending + one (sends (kind_in cell));
      expecting = l.expecting + one (is_frame e);
      last = t;
      sent = pick (sends (kind_in cell)) t l.sent;
      heard = pick (is_frame e) t l.heard;
      interval = agreed e l.interval;
    }

unfoldable pub answer_to : Line → ℕ → Event → Answer
answer_to l now e = pick (eqb (number_to l now e) 0) (told l (cell_of l (clock_of l now) e)) (refused (number_to l now e))

-- a refusal moves nothing
unfoldable pub next_of : Line → ℕ → Event → Line
next_of l now e = pick (eqb (number_to l now e) 0) (done l (clock_of l now) e (cell_of l (clock_of l now) e)) l

-- a new session: both counters 1
unfoldable pub opened : Line
opened = record { state = new; sending = 1; expecting = 1; last = 0; sent = 0; heard = 0; interval = 0 }
