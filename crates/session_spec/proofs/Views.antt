-- Which cells beat, die, and are silent: each law as a test, which every cell passes.
use mathlib.Core.Path.{◌≡◌, refl, sym, ◌∙◌}
use mathlib.Core.Bool.{Bool, true, false, ◌&&◌, ◌||◌, not}
use mathlib.Core.Logic.{◌⊎◌, inl, inr, ⊎_elim}
use native.Mathlib.Omega.{arith}
use borrow.Author.Tests.{not-true}
use Rattle.terms.specs.Cases.{clash}
use Rattle.terms.specs.RuledOut.{split}
use Rattle.session_spec.specs.Table.{State, new, waiting, active, leaving, over, Kind, none, S001, S002, S003, P002, Event, Begin, Time, Leave, Ask, Logon, Logout, Other, Faulty, row_of, sends}
use Rattle.session_spec.specs.Calls.{listening, resolved, number_in, kind_in, is_death, state_in}
use Rattle.session_spec.specs.Words.{is_logon, is_s001, is_s002}
use Rattle.session_spec.specs.Faults.{More}
use Rattle.session_spec.specs.Given.{begun}

abbrev pub is_s003 : Kind → Bool
is_s003 none = false
is_s003 S001 = false
is_s003 S002 = false
is_s003 S003 = true
is_s003 P002 = false

-- behind our logout, or over
abbrev pub ended : State → Bool
ended new = false
ended waiting = false
ended active = false
ended leaving = true
ended over = true

-- ======== A law of the cells, as a test that every cell passes

-- an event without its numbers
pub data What : Type 0 where
  begin : What
  time : What
  leave : What
  ask : What
  logon : What
  logout : What
  other : What
  faulty : What

abbrev pub what_of : Event → What
what_of Begin = begin
what_of Time = time
what_of Leave = leave
what_of Ask = ask
what_of (Logon number heart) = logon
what_of (Logout number) = logout
what_of (Other number) = other
what_of (Faulty why) = faulty

abbrev pub sample : What → Event
sample begin = Begin
sample time = Time
sample leave = Leave
sample ask = Ask
sample logon = Logon 0 0
sample logout = Logout 0
sample other = Other 0
sample faulty = Faulty More

abbrev pub is_time : What → Bool
is_time begin = false
is_time time = true
is_time leave = false
is_time ask = false
is_time logon = false
is_time logout = false
is_time other = false
is_time faulty = false

-- of a state, an event, dead and due: what is sent, the next state, whether the line is called dead
abbrev pub Test : Type 0
Test = State → What → Bool → Bool → Kind → State → Bool → Bool

abbrev pub tried : Test → State → Event → Bool → Bool → Bool
tried t s e dead due = t s (what_of e) dead due (kind_in (resolved dead due (row_of s e))) (state_in (resolved dead due (row_of s e)) s) (is_death (resolved dead due (row_of s e)))

-- the numbers of an event change none of these
sampled : (t : Test) (s : State) (e : Event) (dead due : Bool) → tried t s (sample (what_of e)) dead due ≡ tried t s e dead due
sampled t s Begin dead due = refl
sampled t s Time dead due = refl
sampled t s Leave dead due = refl
sampled t s Ask dead due = refl
sampled t new (Logon number heart) dead due = refl
sampled t waiting (Logon number heart) dead due = refl
sampled t active (Logon number heart) dead due = refl
sampled t leaving (Logon number heart) dead due = refl
sampled t over (Logon number heart) dead due = refl
sampled t new (Logout number) dead due = refl
sampled t waiting (Logout number) dead due = refl
sampled t active (Logout number) dead due = refl
sampled t leaving (Logout number) dead due = refl
sampled t over (Logout number) dead due = refl
sampled t new (Other number) dead due = refl
sampled t waiting (Other number) dead due = refl
sampled t active (Other number) dead due = refl
sampled t leaving (Other number) dead due = refl
sampled t over (Other number) dead due = refl
sampled t new (Faulty why) dead due = refl
sampled t waiting (Faulty why) dead due = refl
sampled t active (Faulty why) dead due = refl
sampled t leaving (Faulty why) dead due = refl
sampled t over (Faulty why) dead due = refl

abbrev both_ways : (Bool → Bool) → Bool
both_ways f = f true && f false

both_ways_lem : (f : Bool → Bool) → both_ways f ≡ true → (b : Bool) → f b ≡ true
both_ways_lem f h true = (split (f true) (f false) h).0
both_ways_lem f h false = (split (f true) (f false) h).1

abbrev each_what : (What → Bool) → Bool
each_what f = (f begin && f time) && (f leave && f ask) && ((f logon && f logout) && (f other && f faulty))

each_what_lem : (f : What → Bool) → each_what f ≡ true → (w : What) → f w ≡ true
each_what_lem f h w =
    let h1 = split ((f begin && f time) && (f leave && f ask)) ((f logon && f logout) && (f other && f faulty)) h in
    let h2 = split (f begin && f time) (f leave && f ask) h1.0 in
    let h3 = split (f logon && f logout) (f other && f faulty) h1.1 in
    let h4 = split (f begin) (f time) h2.0 in
    let h5 = split (f leave) (f ask) h2.1 in
    let h6 = split (f logon) (f logout) h3.0 in
    let h7 = split (f other) (f faulty) h3.1 in
    by w h4.0 h4.1 h5.0 h5.1 h6.0 h6.1 h7.0 h7.1
  where
    by : (w : What) → f begin ≡ true → f time ≡ true → f leave ≡ true → f ask ≡ true → f logon ≡ true → f logout ≡ true → f other ≡ true → f faulty ≡ true → f w ≡ true
    by begin a b c d e g i j = a
    by time a b c d e g i j = b
    by leave a b c d e g i j = c
    by ask a b c d e g i j = d
    by logon a b c d e g i j = e
    by logout a b c d e g i j = g
    by other a b c d e g i j = i
    by faulty a b c d e g i j = j

abbrev each_state : (State → Bool) → Bool
each_state f = (f new && f waiting) && (f active && (f leaving && f over))

each_state_lem : (f : State → Bool) → each_state f ≡ true → (s : State) → f s ≡ true
each_state_lem f h new = (split (f new) (f waiting) (split (f new && f waiting) (f active && (f leaving && f over)) h).0).0
each_state_lem f h waiting = (split (f new) (f waiting) (split (f new && f waiting) (f active && (f leaving && f over)) h).0).1
each_state_lem f h active = (split (f active) (f leaving && f over) (split (f new && f waiting) (f active && (f leaving && f over)) h).1).0
each_state_lem f h leaving = (split (f leaving) (f over) (split (f active) (f leaving && f over) (split (f new && f waiting) (f active && (f leaving && f over)) h).1).1).0
each_state_lem f h over = (split (f leaving) (f over) (split (f active) (f leaving && f over) (split (f new && f waiting) (f active && (f leaving && f over)) h).1).1).1

-- what passes at a sample of each cell passes at every cell
pub every : (t : Test) → each_state (λ (s : State). each_what (λ (w : What). both_ways (λ (dead : Bool). both_ways (λ (due : Bool). tried t s (sample w) dead due)))) ≡ true
    → (s : State) (e : Event) (dead due : Bool) → tried t s e dead due ≡ true
every t h s e dead due =
    let f : State → Bool = λ (x : State). each_what (λ (w : What). both_ways (λ (a : Bool). both_ways (λ (b : Bool). tried t x (sample w) a b))) in
    let g : What → Bool = λ (w : What). both_ways (λ (a : Bool). both_ways (λ (b : Bool). tried t s (sample w) a b)) in
    let i : Bool → Bool = λ (a : Bool). both_ways (λ (b : Bool). tried t s (sample (what_of e)) a b) in
    let j : Bool → Bool = λ (b : Bool). tried t s (sample (what_of e)) dead b in
    sym (sampled t s e dead due) ∙ both_ways_lem j (both_ways_lem i (each_what_lem g (each_state_lem f h s) (what_of e)) dead) due

-- ======== What the tests say

is_time_lem : (e : Event) → is_time (what_of e) ≡ true → e ≡ Time
is_time_lem Time h = refl
is_time_lem Begin h = absurd (clash h refl)
is_time_lem Leave h = absurd (clash h refl)
is_time_lem Ask h = absurd (clash h refl)
is_time_lem (Logon number heart) h = absurd (clash h refl)
is_time_lem (Logout number) h = absurd (clash h refl)
is_time_lem (Other number) h = absurd (clash h refl)
is_time_lem (Faulty why) h = absurd (clash h refl)

abbrev pub is_active : State → Bool
is_active new = false
is_active waiting = false
is_active active = true
is_active leaving = false
is_active over = false

pub is_active_holds : (s : State) → is_active s ≡ true → s ≡ active
is_active_holds active h = refl
is_active_holds new h = absurd (clash h refl)
is_active_holds waiting h = absurd (clash h refl)
is_active_holds leaving h = absurd (clash h refl)
is_active_holds over h = absurd (clash h refl)

abbrev is_new : State → Bool
is_new new = true
is_new waiting = false
is_new active = false
is_new leaving = false
is_new over = false

is_new_lem : (s : State) → is_new s ≡ true → s ≡ new
is_new_lem new h = refl
is_new_lem waiting h = absurd (clash h refl)
is_new_lem active h = absurd (clash h refl)
is_new_lem leaving h = absurd (clash h refl)
is_new_lem over h = absurd (clash h refl)

is_S001 : (k : Kind) → is_s001 k ≡ true → k ≡ S001
is_S001 S001 h = refl
is_S001 none h = absurd (clash h refl)
is_S001 S002 h = absurd (clash h refl)
is_S001 S003 h = absurd (clash h refl)
is_S001 P002 h = absurd (clash h refl)

is_logon_lem : (e : Event) → is_logon (sample (what_of e)) ≡ is_logon e
is_logon_lem Begin = refl
is_logon_lem Time = refl
is_logon_lem Leave = refl
is_logon_lem Ask = refl
is_logon_lem (Logon number heart) = refl
is_logon_lem (Logout number) = refl
is_logon_lem (Other number) = refl
is_logon_lem (Faulty why) = refl

pub or_cases : (a b : Bool) → a || b ≡ true → (a ≡ true) ⊎ (b ≡ true)
or_cases true b h = inl refl
or_cases false b h = inr h

-- ======== The laws

pub record Beat (s : State) (e : Event) (dead due : Bool) : Type 0 where
  pub at_time : e ≡ Time
  pub state_active : s ≡ active
  pub not_dead : dead ≡ false
  pub is_due : due ≡ true

abbrev Beats : Test
Beats s w dead due k next dies = not (is_s003 k) || (is_time w && (is_active s && (not dead && due)))

pub beat_cell : (s : State) (e : Event) (dead due : Bool) → is_s003 (kind_in (resolved dead due (row_of s e))) ≡ true → Beat s e dead due
beat_cell s e dead due h =
    let a = split (is_time (what_of e)) _ (rw h at (every Beats refl s e dead due)) in
    let b = split (is_active s) _ a.1 in
    let c = split (not dead) due b.1 in
    record { at_time = is_time_lem e a.0; state_active = is_active_holds s b.0; not_dead = not-true dead c.0; is_due = c.1 }

pub record Death (s : State) (e : Event) (dead : Bool) : Type 0 where
  pub at_time : e ≡ Time
  pub listens : listening s ≡ true
  pub is_dead : dead ≡ true

abbrev Dies : Test
Dies s w dead due k next dies = not dies || (is_time w && (listening s && dead))

pub death_cell : (s : State) (e : Event) (dead due : Bool) → is_death (resolved dead due (row_of s e)) ≡ true → Death s e dead
death_cell s e dead due h =
    let a = split (is_time (what_of e)) _ (rw h at (every Dies refl s e dead due)) in
    let b = split (listening s) dead a.1 in
    record { at_time = is_time_lem e a.0; listens = b.0; is_dead = b.1 }

abbrev Ends : Test
Ends s w dead due k next dies = not (ended s) || (not (sends k) && ended next)

pub ended_cell : (s : State) (e : Event) (dead due : Bool) → ended s ≡ true → (sends (kind_in (resolved dead due (row_of s e))) ≡ false) × (ended (state_in (resolved dead due (row_of s e)) s) ≡ true)
ended_cell s e dead due h = let a = split (not (sends (kind_in (resolved dead due (row_of s e))))) _ (rw h at (every Ends refl s e dead due)) in (not-true _ a.0, a.1)

abbrev Leaves : Test
Leaves s w dead due k next dies = not (is_s002 k) || ended next

pub logout_cell : (s : State) (e : Event) (dead due : Bool) → is_s002 (kind_in (resolved dead due (row_of s e))) ≡ true → ended (state_in (resolved dead due (row_of s e)) s) ≡ true
logout_cell s e dead due h = rw h at (every Leaves refl s e dead due)

-- something is sent: our logon, from new; or the line is active
abbrev First : Test
First s w dead due k next dies = not (sends k) || ((is_new s && is_s001 k) || is_active s)

pub first_cell : (s : State) (e : Event) (dead due : Bool) → sends (kind_in (resolved dead due (row_of s e))) ≡ true → ((s ≡ new) × (kind_in (resolved dead due (row_of s e)) ≡ S001)) ⊎ (s ≡ active)
first_cell s e dead due h =
    ⊎_elim (λ a. let b = split (is_new s) _ a in inl (is_new_lem s b.0, is_S001 _ b.1)) (λ a. inr (is_active_holds s a)) (or_cases (is_new s && is_s001 (kind_in (resolved dead due (row_of s e)))) (is_active s) (rw h at (every First refl s e dead due)))

-- active or leaving is reached from there, or by a logon
abbrev Reaches : Test
Reaches s w dead due k next dies = not (listening next) || (listening s || is_logon (sample w))

pub reach_cell : (s : State) (e : Event) (dead due : Bool) → listening (state_in (resolved dead due (row_of s e)) s) ≡ true → (listening s ≡ true) ⊎ (is_logon e ≡ true)
reach_cell s e dead due h =
    ⊎_elim (λ a. inl a) (λ a. inr (sym (is_logon_lem e) ∙ a)) (or_cases (listening s) (is_logon (sample (what_of e))) (rw h at (every Reaches refl s e dead due)))

-- behind our logon is reached from there, or by sending it
abbrev Begins : Test
Begins s w dead due k next dies = not (begun next) || (begun s || is_s001 k)

pub begun_cell : (s : State) (e : Event) (dead due : Bool) → begun (state_in (resolved dead due (row_of s e)) s) ≡ true
    → (begun s ≡ true) ⊎ (is_s001 (kind_in (resolved dead due (row_of s e))) ≡ true)
begun_cell s e dead due h = or_cases (begun s) (is_s001 (kind_in (resolved dead due (row_of s e)))) (rw h at (every Begins refl s e dead due))

-- a logon is taken while ours waits for it, and nowhere else
pub logon_cell : (s : State) (e : Event) (dead due : Bool) → is_logon e ≡ true → number_in (resolved dead due (row_of s e)) ≡ 0 → s ≡ waiting
logon_cell waiting (Logon number heart) dead due h z = refl
logon_cell new (Logon number heart) dead due h z = absurd (omega arith)
logon_cell active (Logon number heart) dead due h z = absurd (omega arith)
logon_cell leaving (Logon number heart) dead due h z = absurd (omega arith)
logon_cell over (Logon number heart) dead due h z = absurd (omega arith)
logon_cell s Begin dead due h z = absurd (clash h refl)
logon_cell s Time dead due h z = absurd (clash h refl)
logon_cell s Leave dead due h z = absurd (clash h refl)
logon_cell s Ask dead due h z = absurd (clash h refl)
logon_cell s (Logout number) dead due h z = absurd (clash h refl)
logon_cell s (Other number) dead due h z = absurd (clash h refl)
logon_cell s (Faulty why) dead due h z = absurd (clash h refl)
