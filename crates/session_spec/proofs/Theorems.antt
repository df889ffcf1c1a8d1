-- CR 12's sentences, for every row of calls: heartbeats, the dead line, our logout, the logon
-- first. Assumes nothing.
use mathlib.Core.Path.{◌≡◌, refl, sym, ap, ◌∙◌}
use mathlib.Core.Bool.{Bool, true, false}
use mathlib.Core.Logic.{◌⊎◌, inl, inr, ⊎_elim, ◌↔◌}
use Prim.Native.Nat.{ℕ, ◌-◌, ◌*◌, ◌≤◌, ◌<◌}
use native.Mathlib.Omega.{arith}
use borrow.Author.Tests.{ltb-true, ltb-false, lt-ltb, le-ltb, leb-true, leb-false, le-leb, lt-leb}
use Rattle.terms.specs.Cases.{clash, same}
use Rattle.terms.specs.RuledOut.{split}
use Rattle.session_spec.specs.Table.{State, new, waiting, active, leaving, over, Kind, none, S001, S002, S003, P002, Event, Time, Cell, does, dies, row_of}
use Rattle.session_spec.specs.Calls.{Line, Answer, last_number, sound_of, clock_of, listening, longer_than_two, dead_at, due_at, resolved, cell_of, kind_in, is_death, state_in, spent, own_number, number_to, refused, told, done, answer_to, next_of}
use Rattle.session_spec.specs.Trace.{Call, Calls, after, answer_after, History, trace}
use Rattle.session_spec.specs.Words.{stage, interval}
use Rattle.session_spec.specs.Statements.{HeartbeatDue, LineDead}
use Rattle.session_spec.proofs.Fine.{Fine, fine, or_false}
use Rattle.session_spec.proofs.Outcome.{number_sound, answer_zero, answer_not_zero}
use Rattle.session_spec.proofs.Agree.{Agrees, agrees}
use Rattle.session_spec.proofs.Views.{is_s003, Beat, beat_cell, Death, death_cell}

-- ======== A call is refused, or does what its cell says

pub record Refuses (l : Line) (now : ℕ) (e : Event) : Type 0 where
  pub number : ℕ
  pub not_zero : number ≡ 0 → ⊥
  pub answer_is : answer_to l now e ≡ refused number
  pub same : next_of l now e ≡ l

pub record Goes (l : Line) (now : ℕ) (e : Event) : Type 0 where
  pub checks : Fine l (clock_of l now) e
  pub answer_is : answer_to l now e ≡ told l (cell_of l (clock_of l now) e)
  pub next_is : next_of l now e ≡ done l (clock_of l now) e (cell_of l (clock_of l now) e)

pub outcome : (l : Line) (now : ℕ) (e : Event) → sound_of l ≡ true → Refuses l now e ⊎ Goes l now e
outcome l now e s =
    ⊎_elim
    (λ z. let q = answer_zero l now e z in inr (record { checks = fine l (clock_of l now) e (sym (number_sound l now e s) ∙ z); answer_is = q.0; next_is = q.1 }))
    (λ p. let q = answer_not_zero l now e p in inl (record { number = number_to l now e; not_zero = p; answer_is = q.0; same = q.1 }))
    (same (number_to l now e) 0)

pub kind_goes : {l : Line} {now : ℕ} {e : Event} → Goes l now e → (answer_to l now e).kind ≡ kind_in (cell_of l (clock_of l now) e)
kind_goes g = ap (λ (a : Answer). a.kind) g.answer_is

pub kind_refuses : {l : Line} {now : ℕ} {e : Event} → Refuses l now e → (answer_to l now e).kind ≡ none
kind_refuses r = ap (λ (a : Answer). a.kind) r.answer_is

pub state_goes : {l : Line} {now : ℕ} {e : Event} → Goes l now e → (next_of l now e).state ≡ state_in (cell_of l (clock_of l now) e) l.state
unfolding done
state_goes g = ap (λ (n : Line). n.state) g.next_is

-- ======== Heartbeats

beats : (l : Line) (t : ℕ) (e : Event) → is_s003 (kind_in (cell_of l t e)) ≡ true → Beat l.state e (dead_at l t) (due_at l t)
unfolding cell_of
beats l t e h = beat_cell l.state e (dead_at l t) (due_at l t) h

pub beat_is : (l : Line) (t : ℕ) → l.state ≡ active → dead_at l t ≡ false → due_at l t ≡ true → cell_of l t Time ≡ does S003 active
unfolding cell_of
beat_is l t s d u = rw (d, u, s)

pub alive_fact : (l : Line) (t : ℕ) → l.state ≡ active → dead_at l t ≡ false → t - l.heard ≤ 2 * l.interval
unfolding dead_at
alive_fact l t s d = let q : longer_than_two l.interval (t - l.heard) ≡ false = rw s at d in ltb-false _ _ q

pub alive_test : (l : Line) (t : ℕ) → l.state ≡ active → t - l.heard ≤ 2 * l.interval → dead_at l t ≡ false
unfolding dead_at
alive_test l t s h = rw (s, le-ltb _ _ h)

pub due_fact : (l : Line) (t : ℕ) → due_at l t ≡ true → l.interval ≤ t - l.sent
unfolding due_at
due_fact l t u = leb-true _ _ u

pub due_test : (l : Line) (t : ℕ) → l.interval ≤ t - l.sent → due_at l t ≡ true
unfolding due_at
due_test l t h = le-leb _ _ h

own_beat : (l : Line) (t : ℕ) (cell : Cell) → cell ≡ does S003 active → l.sending < last_number → own_number l t Time cell ≡ 0
unfolding own_number
own_beat l t cell p h = rw (p, lt-leb last_number l.sending h)

room_fact : (l : Line) (k : Kind) → spent l Time k ≡ false → is_s003 k ≡ true → l.sending < last_number
room_fact l S003 h e = leb-false last_number l.sending (or_false _ _ h).0
room_fact l none h e = absurd (clash e refl)
room_fact l S001 h e = absurd (clash e refl)
room_fact l S002 h e = absurd (clash e refl)
room_fact l P002 h e = absurd (clash e refl)

room_at : (l : Line) (e : Event) (k : Kind) → e ≡ Time → spent l e k ≡ false → is_s003 k ≡ true → l.sending < last_number
room_at l e k p h i = room_fact l k (sym (ap (λ (x : Event). spent l x k) p) ∙ h) i

-- in the words of the session; `heartbeat_due` puts the history's in their place
record Due (l : Line) (now : ℕ) (e : Event) : Type 0 where
  at_time : e ≡ Time
  is_active_holds : l.state ≡ active
  alive : clock_of l now - l.heard ≤ 2 * l.interval
  due : l.interval ≤ clock_of l now - l.sent
  room : l.sending < last_number

due_goes : (l : Line) (now : ℕ) (e : Event) → is_s003 (kind_in (cell_of l (clock_of l now) e)) ≡ true → Goes l now e → Due l now e
due_goes l now e h g =
    let b = beats l (clock_of l now) e h in
    record {
      at_time = b.at_time;
      is_active_holds = b.state_active;
      alive = alive_fact l (clock_of l now) b.state_active b.not_dead;
      due = due_fact l (clock_of l now) b.is_due;
      room = room_at l e (kind_in (cell_of l (clock_of l now) e)) b.at_time g.checks.unspent h;
    }

is_S003 : (k : Kind) → k ≡ S003 → is_s003 k ≡ true
is_S003 k e = rw e

due_of : (l : Line) (now : ℕ) (e : Event) → sound_of l ≡ true → (answer_to l now e).kind ≡ S003 → Due l now e
due_of l now e s h =
    ⊎_elim
    (λ r. absurd (clash (is_S003 none (sym (kind_refuses r) ∙ h)) refl))
    (λ g. due_goes l now e (is_S003 _ (sym (kind_goes g) ∙ h)) g)
    (outcome l now e s)

sent_where : (l : Line) (now : ℕ) → sound_of l ≡ true → Due l now Time → (answer_to l now Time).kind ≡ S003
sent_where l now s d =
    let t = clock_of l now in
    let c = beat_is l t d.is_active_holds (alive_test l t d.is_active_holds d.alive) (due_test l t d.due) in
    let z : number_to l now Time ≡ 0 = number_sound l now Time s ∙ own_beat l t (cell_of l t Time) c d.room in
    ap (λ (a : Answer). a.kind) (answer_zero l now Time z).0 ∙ ap kind_in c

words_due : (h : History) (l : Line) (call : Call) → Agrees h l → Due l call.now call.event → HeartbeatDue h call
words_due h l call g d = record { at_time = d.at_time; is_active_holds = sym g.state_is ∙ d.is_active_holds; alive = omega arith; due = omega arith; room = omega arith }

session_due : (h : History) (l : Line) (call : Call) → Agrees h l → HeartbeatDue h call → Due l call.now Time
session_due h l call g d = record { at_time = refl; is_active_holds = g.state_is ∙ d.is_active_holds; alive = omega arith; due = omega arith; room = omega arith }

-- `time` sends S003 exactly where the state is active, the line not dead, the interval passed since
-- our last message, and a number is left
pub heartbeat_due : (calls : Calls) (call : Call) → ((answer_after calls call).kind ≡ S003) ↔ HeartbeatDue (trace calls) call
heartbeat_due calls call =
    let g = agrees calls in (
      λ h. words_due (trace calls) (after calls) call g (due_of (after calls) call.now call.event g.sound h),
      λ d. ap (λ (e : Event). (answer_to (after calls) call.now e).kind) d.at_time ∙ sent_where (after calls) call.now g.sound (session_due (trace calls) (after calls) call g d),
    )

-- ======== The dead line

deaths : (l : Line) (t : ℕ) (e : Event) → is_death (cell_of l t e) ≡ true → Death l.state e (dead_at l t)
unfolding cell_of
deaths l t e h = death_cell l.state e (dead_at l t) (due_at l t) h

pub dead_facts : (l : Line) (t : ℕ) → dead_at l t ≡ true → 2 * l.interval < t - l.heard
unfolding dead_at
dead_facts l t d = ltb-true _ _ (split (listening l.state) _ d).1

pub dead_test : (l : Line) (t : ℕ) → listening l.state ≡ true → 2 * l.interval < t - l.heard → dead_at l t ≡ true
unfolding dead_at
dead_test l t s h = rw (s, lt-ltb _ _ h)

pub which : (s : State) → listening s ≡ true → (s ≡ active) ⊎ (s ≡ leaving)
which active h = inl refl
which leaving h = inr refl
which new h = absurd (clash h refl)
which waiting h = absurd (clash h refl)
which over h = absurd (clash h refl)

dies_at : (s : State) (dead due : Bool) → listening s ≡ true → dead ≡ true → resolved dead due (row_of s Time) ≡ dies
dies_at active dead due h d = rw d
dies_at leaving dead due h d = rw d
dies_at new dead due h d = absurd (clash h refl)
dies_at waiting dead due h d = absurd (clash h refl)
dies_at over dead due h d = absurd (clash h refl)

death_is : (l : Line) (t : ℕ) → listening l.state ≡ true → dead_at l t ≡ true → cell_of l t Time ≡ dies
unfolding cell_of
death_is l t s d = dies_at l.state (dead_at l t) (due_at l t) s d

own_death : (l : Line) (t : ℕ) (cell : Cell) → cell ≡ dies → own_number l t Time cell ≡ 0
unfolding own_number
own_death l t cell p = rw p

pub dead_refuses : {l : Line} {now : ℕ} {e : Event} → Refuses l now e → (answer_to l now e).dead ≡ false
dead_refuses r = ap (λ (a : Answer). a.dead) r.answer_is

pub dead_goes : {l : Line} {now : ℕ} {e : Event} → Goes l now e → (answer_to l now e).dead ≡ is_death (cell_of l (clock_of l now) e)
dead_goes g = ap (λ (a : Answer). a.dead) g.answer_is

pub death_of : (l : Line) (now : ℕ) (e : Event) → sound_of l ≡ true → (answer_to l now e).dead ≡ true → Death l.state e (dead_at l (clock_of l now))
death_of l now e s h =
    ⊎_elim (λ r. absurd (clash h (dead_refuses r))) (λ g. deaths l (clock_of l now) e (sym (dead_goes g) ∙ h)) (outcome l now e s)

called_where : (l : Line) (now : ℕ) → sound_of l ≡ true → listening l.state ≡ true → 2 * l.interval < clock_of l now - l.heard → (answer_to l now Time).dead ≡ true
called_where l now s k h =
    let t = clock_of l now in
    let c = death_is l t k (dead_test l t k h) in
    let z : number_to l now Time ≡ 0 = number_sound l now Time s ∙ own_death l t (cell_of l t Time) c in
    ap (λ (a : Answer). a.dead) (answer_zero l now Time z).0 ∙ ap is_death c

pub listens_of : (s : State) → (s ≡ active) ⊎ (s ≡ leaving) → listening s ≡ true
listens_of s (inl e) = rw e
listens_of s (inr e) = rw e

words_dead : (h : History) (l : Line) (call : Call) → Agrees h l → Death l.state call.event (dead_at l (clock_of l call.now)) → LineDead h call
words_dead h l call g d =
    let k : 2 * l.interval < clock_of l call.now - l.heard = dead_facts l (clock_of l call.now) d.is_dead in
    record { at_time = d.at_time; listens = which (stage h) (sym (ap listening g.state_is) ∙ d.listens); silent = omega arith }

session_dead : (h : History) (l : Line) (call : Call) → Agrees h l → LineDead h call → (listening l.state ≡ true) × (2 * l.interval < clock_of l call.now - l.heard)
session_dead h l call g d = let k = d.silent in (ap listening g.state_is ∙ listens_of (stage h) d.listens, omega arith)

-- the line is called dead exactly where, behind the logon answer, more than two intervals passed
-- since the last frame taken
pub dead_exactly : (calls : Calls) (call : Call) → ((answer_after calls call).dead ≡ true) ↔ LineDead (trace calls) call
dead_exactly calls call =
    let g = agrees calls in (
      λ h. words_dead (trace calls) (after calls) call g (death_of (after calls) call.now call.event g.sound h),
      λ d. let q = session_dead (trace calls) (after calls) call g d in
          ap (λ (e : Event). (answer_to (after calls) call.now e).dead) d.at_time ∙ called_where (after calls) call.now g.sound q.0 q.1,
    )
