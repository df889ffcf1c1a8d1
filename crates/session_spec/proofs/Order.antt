-- CR 12's sentences on what comes before what: our logon first, nothing behind our logout, dead
-- once. Assumes nothing.
use mathlib.Core.Path.{◌≡◌, refl, sym, ap, ap₂, ◌∙◌}
use mathlib.Core.Bool.{Bool, true, false, ◌&&◌, ◌||◌}
use mathlib.Core.Logic.{◌⊎◌, inl, inr, ⊎_elim}
use Prim.Native.Nat.{ℕ}
use borrow.Author.Tests.{ne_eqb}
use Rattle.terms.specs.Cases.{clash}
use Rattle.session_spec.specs.Table.{State, new, waiting, active, over, S001, Event, Begin, Time, Leave, Ask, Logon, Logout, Other, Faulty, Cell, refuse, does, beats, watches, dies, row_of, sends}
use Rattle.session_spec.specs.Calls.{Line, sound_of, clock_of, listening, dead_at, due_at, resolved, cell_of, number_in, kind_in, is_death, state_in, answer_to, next_of, opened}
use Rattle.session_spec.specs.Trace.{Call, Calls, no_call, ◌▸◌, after, answer_after, trace}
use Rattle.session_spec.specs.Words.{accepted, is_logon, is_s001, is_s002, stage, logon_sent, logged_on, logout_sent, called_dead}
use Rattle.session_spec.specs.Given.{Counters, begun}
use Rattle.session_spec.proofs.Steps.{rules, step}
use Rattle.session_spec.proofs.Agree.{agrees}
use Rattle.session_spec.proofs.Views.{or_cases, ended, ended_cell, logout_cell, first_cell, reach_cell, begun_cell}
use Rattle.session_spec.proofs.Views as views
use Rattle.session_spec.proofs.Theorems.{Refuses, Goes, outcome, kind_goes, kind_refuses, state_goes, death_of, dead_goes, dead_refuses}

pub or_left : (a b : Bool) → a ≡ true → a || b ≡ true
or_left a b e = rw e

pub or_right : (a b : Bool) → b ≡ true → a || b ≡ true
or_right true b e = refl
or_right false b e = e

state_refuses : {l : Line} {now : ℕ} {e : Event} → Refuses l now e → (next_of l now e).state ≡ l.state
state_refuses r = ap (λ (n : Line). n.state) r.same

-- ======== Nothing behind our logout

end_cell : (l : Line) (t : ℕ) (e : Event) → ended l.state ≡ true → (sends (kind_in (cell_of l t e)) ≡ false) × (ended (state_in (cell_of l t e) l.state) ≡ true)
unfolding cell_of
end_cell l t e h = ended_cell l.state e (dead_at l t) (due_at l t) h

end_next : (l : Line) (now : ℕ) (e : Event) → sound_of l ≡ true → ended l.state ≡ true → (sends (answer_to l now e).kind ≡ false) × (ended (next_of l now e).state ≡ true)
end_next l now e s h =
    ⊎_elim
    (λ r. (ap sends (kind_refuses r), ap ended (state_refuses r) ∙ h))
    (λ g. let q = end_cell l (clock_of l now) e h in (ap sends (kind_goes g) ∙ q.0, ap ended (state_goes g) ∙ q.1))
    (outcome l now e s)

out_cell : (l : Line) (t : ℕ) (e : Event) → is_s002 (kind_in (cell_of l t e)) ≡ true → ended (state_in (cell_of l t e) l.state) ≡ true
unfolding cell_of
out_cell l t e h = logout_cell l.state e (dead_at l t) (due_at l t) h

out_next : (l : Line) (now : ℕ) (e : Event) → sound_of l ≡ true → is_s002 (answer_to l now e).kind ≡ true → ended (next_of l now e).state ≡ true
out_next l now e s h =
    ⊎_elim
    (λ r. absurd (clash h (ap is_s002 (kind_refuses r))))
    (λ g. ap ended (state_goes g) ∙ out_cell l (clock_of l now) e (sym (ap is_s002 (kind_goes g)) ∙ h))
    (outcome l now e s)

left : (calls : Calls) → logout_sent (trace calls) ≡ true → ended (after calls).state ≡ true
unfolding trace
left no_call h = absurd (clash h refl)
left (calls ▸ call) h =
    let s = (agrees calls).sound in
    ⊎_elim
    (λ a. out_next (after calls) call.now call.event s a)
    (λ b. (end_next (after calls) call.now call.event s (left calls b)).1)
    (or_cases (is_s002 (answer_after calls call).kind) (logout_sent (trace calls)) h)

-- after a sent S002 nothing is sent, whatever comes
pub silent_after_ours : (calls : Calls) (call : Call) → logout_sent (trace calls) ≡ true → sends (answer_after calls call).kind ≡ false
silent_after_ours calls call h = (end_next (after calls) call.now call.event (agrees calls).sound (left calls h)).0

-- nor where the session is over, however it ended
pub silent_when_over : (calls : Calls) (call : Call) → stage (trace calls) ≡ over → sends (answer_after calls call).kind ≡ false
silent_when_over calls call h = let g = agrees calls in (end_next (after calls) call.now call.event g.sound (ap ended (g.state_is ∙ h))).0

-- ======== Dead once

over_row : (e : Event) (dead due : Bool) → state_in (resolved dead due (row_of over e)) over ≡ over
over_row Begin dead due = refl
over_row Time dead due = refl
over_row Leave dead due = refl
over_row Ask dead due = refl
over_row (Logon number heart) dead due = refl
over_row (Logout number) dead due = refl
over_row (Other number) dead due = refl
over_row (Faulty why) dead due = refl

over_at : (s : State) (e : Event) (dead due : Bool) → s ≡ over → state_in (resolved dead due (row_of s e)) s ≡ over
over_at s e dead due h = rw h (over_row e dead due)

over_cell : (l : Line) (t : ℕ) (e : Event) → l.state ≡ over → state_in (cell_of l t e) l.state ≡ over
unfolding cell_of
over_cell l t e h = over_at l.state e (dead_at l t) (due_at l t) h

over_next : (l : Line) (now : ℕ) (e : Event) → sound_of l ≡ true → l.state ≡ over → (next_of l now e).state ≡ over
over_next l now e s h = ⊎_elim (λ r. state_refuses r ∙ h) (λ g. state_goes g ∙ over_cell l (clock_of l now) e h) (outcome l now e s)

death_over : (c : Cell) (s : State) → is_death c ≡ true → state_in c s ≡ over
death_over dies s h = refl
death_over (refuse n) s h = absurd (clash h refl)
death_over (does k t) s h = absurd (clash h refl)
death_over beats s h = absurd (clash h refl)
death_over watches s h = absurd (clash h refl)

dead_next : (l : Line) (now : ℕ) (e : Event) → sound_of l ≡ true → (answer_to l now e).dead ≡ true → (next_of l now e).state ≡ over
dead_next l now e s h =
    ⊎_elim (λ r. absurd (clash h (dead_refuses r))) (λ g. state_goes g ∙ death_over (cell_of l (clock_of l now) e) l.state (sym (dead_goes g) ∙ h)) (outcome l now e s)

buried : (calls : Calls) → called_dead (trace calls) ≡ true → (after calls).state ≡ over
unfolding trace
buried no_call h = absurd (clash h refl)
buried (calls ▸ call) h =
    let s = (agrees calls).sound in
    ⊎_elim
    (λ a. dead_next (after calls) call.now call.event s a)
    (λ b. over_next (after calls) call.now call.event s (buried calls b))
    (or_cases (answer_after calls call).dead (called_dead (trace calls)) h)

-- the line is called dead once at most
pub dead_once : (calls : Calls) (call : Call) → called_dead (trace calls) ≡ true → (answer_after calls call).dead ≡ true → ⊥
dead_once calls call h d =
    clash (sym (ap listening (buried calls h)) ∙ (death_of (after calls) call.now call.event (agrees calls).sound d).listens) refl

-- ======== Our logon first

logon_cell : (l : Line) (t : ℕ) (e : Event) → listening (state_in (cell_of l t e) l.state) ≡ true → (listening l.state ≡ true) ⊎ (is_logon e ≡ true)
unfolding cell_of
logon_cell l t e h = reach_cell l.state e (dead_at l t) (due_at l t) h

accepted_goes : {l : Line} {now : ℕ} {e : Event} → Goes l now e → accepted (answer_to l now e) ≡ true
accepted_goes g = ap accepted g.answer_is

logon_next : (l : Line) (now : ℕ) (e : Event) → sound_of l ≡ true → listening (next_of l now e).state ≡ true
    → (listening l.state ≡ true) ⊎ (is_logon e && accepted (answer_to l now e) ≡ true)
logon_next l now e s h =
    ⊎_elim
    (λ r. inl (sym (ap listening (state_refuses r)) ∙ h))
    (λ g. ⊎_elim (λ a. inl a) (λ b. inr (ap₂ (λ (x y : Bool). x && y) b (accepted_goes g))) (logon_cell l (clock_of l now) e (sym (ap listening (state_goes g)) ∙ h)))
    (outcome l now e s)

answered : (calls : Calls) → listening (after calls).state ≡ true → logged_on (trace calls) ≡ true
unfolding trace opened
answered no_call h = absurd (clash h refl)
answered (calls ▸ call) h =
    ⊎_elim
    (λ a. or_right (is_logon call.event && accepted (answer_after calls call)) (logged_on (trace calls)) (answered calls a))
    (λ b. or_left (is_logon call.event && accepted (answer_after calls call)) (logged_on (trace calls)) b)
    (logon_next (after calls) call.now call.event (agrees calls).sound h)

new_first : (s : State) (out into : ℕ) → s ≡ new → Counters s out into → out ≡ 1
new_first s out into e c = let k : Counters new out into = rw e at c in k.0

sent_cell : (l : Line) (t : ℕ) (e : Event) → sends (kind_in (cell_of l t e)) ≡ true → ((l.state ≡ new) × (kind_in (cell_of l t e) ≡ S001)) ⊎ (l.state ≡ active)
unfolding cell_of
sent_cell l t e h = first_cell l.state e (dead_at l t) (due_at l t) h

sent_first : (l : Line) (call : Call) → sound_of l ≡ true → sends (answer_to l call.now call.event).kind ≡ true
    → (((answer_to l call.now call.event).kind ≡ S001) × ((answer_to l call.now call.event).seq ≡ 1)) ⊎ (listening l.state ≡ true)
sent_first l call s h =
    ⊎_elim
    (λ r. absurd (clash h (ap sends (kind_refuses r))))
    (λ g. ⊎_elim
    (λ a. inl (kind_goes g ∙ a.1, (step l call s).sent_seq h ∙ new_first _ _ _ a.0 (rules l s).counters))
    (λ b. inr (ap listening b))
    (sent_cell l (clock_of l call.now) call.event (sym (ap sends (kind_goes g)) ∙ h)))
    (outcome l call.now call.event s)

-- whatever is sent is our logon with number 1, or a logon was taken before
pub logon_first : (calls : Calls) (call : Call) → sends (answer_after calls call).kind ≡ true
    → (((answer_after calls call).kind ≡ S001) × ((answer_after calls call).seq ≡ 1)) ⊎ (logged_on (trace calls) ≡ true)
logon_first calls call h =
    ⊎_elim (λ a. inl a) (λ b. inr (answered calls b)) (sent_first (after calls) call (agrees calls).sound h)

-- ======== Our logon before the logon taken

begun_at : (l : Line) (t : ℕ) (e : Event) → begun (state_in (cell_of l t e) l.state) ≡ true → (begun l.state ≡ true) ⊎ (is_s001 (kind_in (cell_of l t e)) ≡ true)
unfolding cell_of
begun_at l t e h = begun_cell l.state e (dead_at l t) (due_at l t) h

begun_next : (l : Line) (now : ℕ) (e : Event) → sound_of l ≡ true → begun (next_of l now e).state ≡ true
    → (is_s001 (answer_to l now e).kind ≡ true) ⊎ (begun l.state ≡ true)
begun_next l now e s h =
    ⊎_elim
    (λ r. inr (sym (ap begun (state_refuses r)) ∙ h))
    (λ g. ⊎_elim (λ a. inr a) (λ b. inl (ap is_s001 (kind_goes g) ∙ b)) (begun_at l (clock_of l now) e (sym (ap begun (state_goes g)) ∙ h)))
    (outcome l now e s)

started : (calls : Calls) → begun (after calls).state ≡ true → logon_sent (trace calls) ≡ true
unfolding trace opened
started no_call h = absurd (clash h refl)
started (calls ▸ call) h =
    let sent = is_s001 (answer_after calls call).kind in
    ⊎_elim
    (λ a. or_left sent (logon_sent (trace calls)) a)
    (λ b. or_right sent (logon_sent (trace calls)) (started calls b))
    (begun_next (after calls) call.now call.event (agrees calls).sound h)

awaited_cell : (l : Line) (t : ℕ) (e : Event) → is_logon e ≡ true → number_in (cell_of l t e) ≡ 0 → l.state ≡ waiting
unfolding cell_of
awaited_cell l t e h z = views.logon_cell l.state e (dead_at l t) (due_at l t) h z

awaited : (l : Line) (now : ℕ) (e : Event) → sound_of l ≡ true → is_logon e ≡ true → accepted (answer_to l now e) ≡ true → l.state ≡ waiting
awaited l now e s h a =
    ⊎_elim
    (λ (r : Refuses l now e). absurd (clash a (ap accepted r.answer_is ∙ ne_eqb r.number 0 r.not_zero)))
    (λ g. awaited_cell l (clock_of l now) e h g.checks.zero)
    (outcome l now e s)

-- a logon is taken only behind our S001
pub logon_answers_ours : (calls : Calls) (call : Call) → is_logon call.event ≡ true → accepted (answer_after calls call) ≡ true → logon_sent (trace calls) ≡ true
logon_answers_ours calls call h a =
    started calls (ap begun (awaited (after calls) call.now call.event (agrees calls).sound h a))
