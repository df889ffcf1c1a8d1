-- CR 12's sentences as conditions on a history, a record each.
use Rattle.std.specs.Prelude.{◌≡◌, ◌⊎◌, ℕ, ◌+◌, ◌-◌, ◌*◌, ◌≤◌, ◌<◌, max, false}
use Rattle.session_spec.specs.Table.{State, new, waiting, active, leaving, over, Kind, none, S002, Event, Time, sends}
use Rattle.session_spec.specs.Calls.{Line, last_number, answer_to, next_of}
use Rattle.session_spec.specs.Trace.{Call, Calls, ◌▸◌, answer_after, History, trace}
use Rattle.session_spec.specs.Words.{clock, stage, interval, last_sent, last_taken, count_sent}

-- the moment of a call: its time, or the last one if that is later
abbrev pub moment : History → Call → ℕ
moment h call = max (clock h) call.now

-- time passes on an active line that is not dead, at least the agreed interval since our last
-- message; and the heartbeat can be numbered
pub record HeartbeatDue (h : History) (call : Call) : Type 0 where
  pub at_time : call.event ≡ Time
  pub is_active_holds : stage h ≡ active
  pub alive : moment h call - last_taken h ≤ 2 * interval h
  pub due : interval h ≤ moment h call - last_sent h
  pub room : count_sent h + 1 < last_number

-- time passes behind the logon answer, more than two intervals since the last frame taken
pub record LineDead (h : History) (call : Call) : Type 0 where
  pub at_time : call.event ≡ Time
  pub listens : (stage h ≡ active) ⊎ (stage h ≡ leaving)
  pub silent : 2 * interval h < moment h call - last_taken h

-- a refusal: nothing moves, nothing is sent, and the line is not called dead
pub record Nothing (l : Line) (now : ℕ) (e : Event) : Type 0 where
  pub same : next_of l now e ≡ l
  pub unsent : (answer_to l now e).kind ≡ none
  pub undead : (answer_to l now e).dead ≡ false

-- "logout answered by logout": what a logout that is taken is answered by, at each stage; none in
-- place of the logon answer, none behind our own
abbrev pub reply : State → Kind
reply new = none
reply waiting = none
reply active = S002
reply leaving = none
reply over = none

-- a logout that comes where the logon answer is due: the session is over, nothing is sent, nor is
-- anything by whatever call comes next
pub record EndedUnsent (calls : Calls) (logout : Call) : Type 0 where
  pub unsent : (answer_after calls logout).kind ≡ none
  pub ended : stage (trace (calls ▸ logout)) ≡ over
  pub silent : (call : Call) → sends (answer_after (calls ▸ logout) call).kind ≡ false
