-- The definition's tests, and the plain words of specs/Given.antt: each holds exactly where the
-- other does. Assumes nothing.
use mathlib.Core.Path.{◌≡◌, refl, sym, ap, ◌∙◌}
use mathlib.Core.Bool.{Bool, true, false, ◌&&◌, ◌||◌, not}
use mathlib.Core.Logic.{◌⊎◌, inl, inr, ⊎_elim}
use Prim.Native.Nat.{ℕ, ◌≤◌}
use borrow.Author.Tests.{eqb-false, ne_eqb, not-true, leb-true, le-leb}
use lib.Dec.{eqb, leb}
use Rattle.terms.specs.Cases.{clash, two}
use Rattle.terms.specs.RuledOut.{split}
use Rattle.session_spec.specs.Table.{State, active, Event, Begin, Time, Leave, Ask, Logon, Logout, Other, Faulty, is_frame, is_ours, sends}
use Rattle.session_spec.specs.Calls.{Line, last_number, clock_of, listening, dead_at, due_at, resolved, cell_of, kind_in, misnumbered, gone, spent}
use Rattle.session_spec.specs.Words.{is_logout}
use Rattle.session_spec.specs.Given.{Dead, BeatDue, is_move, WrongNumber, ToSend, IsFrame, Stopped, line_dead, none_to_send, none_to_take}
use Rattle.session_spec.proofs.Theorems.{beat_is, alive_fact, alive_test, due_fact, due_test, dead_facts, dead_test, which, listens_of}
use Rattle.session_spec.proofs.Order.{or_left, or_right}
use Rattle.session_spec.proofs.Views.{what_of, sample, is_time, Test, every, is_active, is_active_holds, or_cases}

-- a test that holds where P does fails where P does not
pub fails : {P : Type 0} (b : Bool) → (b ≡ true → P) → (P → ⊥) → b ≡ false
fails b fact no-p = ⊎_elim (λ t. absurd (no-p (fact t))) (λ f. f) (two b)

-- ======== Numbers

pub wrong_fact : (l : Line) (e : Event) → misnumbered l e ≡ true → WrongNumber l e
wrong_fact l Begin h = absurd (clash h refl)
wrong_fact l Time h = absurd (clash h refl)
wrong_fact l Leave h = absurd (clash h refl)
wrong_fact l Ask h = absurd (clash h refl)
wrong_fact l (Logon number heart) h = eqb-false _ _ (not-true _ h)
wrong_fact l (Logout number) h = eqb-false _ _ (not-true _ h)
wrong_fact l (Other number) h = eqb-false _ _ (not-true _ h)
wrong_fact l (Faulty why) h = absurd (clash h refl)

pub wrong_test : (l : Line) (e : Event) → WrongNumber l e → misnumbered l e ≡ true
wrong_test l Begin h = absurd h
wrong_test l Time h = absurd h
wrong_test l Leave h = absurd h
wrong_test l Ask h = absurd h
wrong_test l (Logon number heart) h = rw (ne_eqb _ _ h)
wrong_test l (Logout number) h = rw (ne_eqb _ _ h)
wrong_test l (Other number) h = rw (ne_eqb _ _ h)
wrong_test l (Faulty why) h = absurd h

-- ======== Times

pub dead_is : (l : Line) (now : ℕ) → dead_at l (clock_of l now) ≡ true → Dead l now
unfolding dead_at
dead_is l now d =
    record { listens = which l.state (split (listening l.state) _ d).0; silent = dead_facts l (clock_of l now) d }

pub dead_at_lem : (l : Line) (now : ℕ) → Dead l now → dead_at l (clock_of l now) ≡ true
dead_at_lem l now d = dead_test l (clock_of l now) (listens_of l.state d.listens) d.silent

pub beat_at : (l : Line) (now : ℕ) → l.state ≡ active → dead_at l (clock_of l now) ≡ false → due_at l (clock_of l now) ≡ true → BeatDue l now
beat_at l now s d u = record { is_active_holds = s; alive = alive_fact l (clock_of l now) s d; due = due_fact l (clock_of l now) u }

pub beat_alive : (l : Line) (now : ℕ) → BeatDue l now → dead_at l (clock_of l now) ≡ false
beat_alive l now b = alive_test l (clock_of l now) b.is_active_holds b.alive

pub beat_due : (l : Line) (now : ℕ) → BeatDue l now → due_at l (clock_of l now) ≡ true
beat_due l now b = due_test l (clock_of l now) b.due

-- ======== What a call would send

-- by the cells of the table
abbrev Sends : State → Event → Bool → Bool → Type 0
Sends s Begin dead due = Unit
Sends s Time dead due = (s ≡ active) × ((dead ≡ false) × (due ≡ true))
Sends s Leave dead due = Unit
Sends s Ask dead due = Unit
Sends s (Logon number heart) dead due = ⊥
Sends s (Logout number) dead due = s ≡ active
Sends s (Other number) dead due = ⊥
Sends s (Faulty why) dead due = ⊥

abbrev Sending : Test
Sending s w dead due k next dies = not (sends k) || (is_ours (sample w) || ((is_time w && (is_active s && (not dead && due))) || (is_logout (sample w) && is_active s)))

sent_by : (s : State) (e : Event) (dead due : Bool) → is_ours (sample (what_of e)) || ((is_time (what_of e) && (is_active s && (not dead && due))) || (is_logout (sample (what_of e)) && is_active s)) ≡ true → Sends s e dead due
sent_by s Begin dead due h = tt
sent_by s Time dead due h =
    ⊎_elim (λ a. let b = split (is_active s) _ a in let c = split (not dead) due b.1 in (is_active_holds s b.0, (not-true dead c.0, c.1))) (λ a. absurd (clash a refl)) (or_cases (is_active s && (not dead && due)) false h)
sent_by s Leave dead due h = tt
sent_by s Ask dead due h = tt
sent_by s (Logon number heart) dead due h = absurd (clash h refl)
sent_by s (Logout number) dead due h = is_active_holds s h
sent_by s (Other number) dead due h = absurd (clash h refl)
sent_by s (Faulty why) dead due h = absurd (clash h refl)

sends_cell : (l : Line) (t : ℕ) (e : Event) → sends (kind_in (cell_of l t e)) ≡ true → Sends l.state e (dead_at l t) (due_at l t)
unfolding cell_of
sends_cell l t e h = sent_by l.state e (dead_at l t) (due_at l t) (rw h at (every Sending refl l.state e (dead_at l t) (due_at l t)))

send_fact : (l : Line) (now : ℕ) (e : Event) → Sends l.state e (dead_at l (clock_of l now)) (due_at l (clock_of l now)) → ToSend l now e
send_fact l now Begin h = tt
send_fact l now Time h = beat_at l now h.0 h.1.0 h.1.1
send_fact l now Leave h = tt
send_fact l now Ask h = tt
send_fact l now (Logon number heart) h = absurd h
send_fact l now (Logout number) h = h
send_fact l now (Other number) h = absurd h
send_fact l now (Faulty why) h = absurd h

ours_send : (l : Line) (now : ℕ) (e : Event) → is_ours e ≡ true → ToSend l now e
ours_send l now Begin h = tt
ours_send l now Time h = absurd (clash h refl)
ours_send l now Leave h = tt
ours_send l now Ask h = tt
ours_send l now (Logon number heart) h = absurd (clash h refl)
ours_send l now (Logout number) h = absurd (clash h refl)
ours_send l now (Other number) h = absurd (clash h refl)
ours_send l now (Faulty why) h = absurd (clash h refl)

logout_sends : (l : Line) (t n : ℕ) → l.state ≡ active → sends (kind_in (cell_of l t (Logout n))) ≡ true
unfolding cell_of
logout_sends l t n s = rw s

beat_sends : (l : Line) (now : ℕ) → BeatDue l now → sends (kind_in (cell_of l (clock_of l now) Time)) ≡ true
beat_sends l now b = rw (beat_is l (clock_of l now) b.is_active_holds (beat_alive l now b) (beat_due l now b))

send_test : (l : Line) (now : ℕ) (e : Event) → ToSend l now e → is_ours e || sends (kind_in (cell_of l (clock_of l now) e)) ≡ true
send_test l now Begin h = refl
send_test l now Time h = beat_sends l now h
send_test l now Leave h = refl
send_test l now Ask h = refl
send_test l now (Logon number heart) h = absurd h
send_test l now (Logout number) h = logout_sends l (clock_of l now) number h
send_test l now (Other number) h = absurd h
send_test l now (Faulty why) h = absurd h

-- ======== What is a frame, and what a move

frame_fact : (e : Event) → is_frame e ≡ true → IsFrame e
frame_fact Begin h = absurd (clash h refl)
frame_fact Time h = absurd (clash h refl)
frame_fact Leave h = absurd (clash h refl)
frame_fact Ask h = absurd (clash h refl)
frame_fact (Logon number heart) h = tt
frame_fact (Logout number) h = tt
frame_fact (Other number) h = tt
frame_fact (Faulty why) h = absurd (clash h refl)

frame_test : (e : Event) → IsFrame e → is_frame e ≡ true
frame_test Begin h = absurd h
frame_test Time h = absurd h
frame_test Leave h = absurd h
frame_test Ask h = absurd h
frame_test (Logon number heart) h = refl
frame_test (Logout number) h = refl
frame_test (Other number) h = refl
frame_test (Faulty why) h = absurd h

move_is : (e : Event) → is_frame e || is_ours e ≡ is_move e
move_is Begin = refl
move_is Time = refl
move_is Leave = refl
move_is Ask = refl
move_is (Logon number heart) = refl
move_is (Logout number) = refl
move_is (Other number) = refl
move_is (Faulty why) = refl

-- ======== 32 before 33

abbrev pub halts : Line → ℕ → Event → Bool
halts l now e = gone l (clock_of l now) e || spent l e (kind_in (cell_of l (clock_of l now) e))

-- the two halves of `spent`
sent_out : (l : Line) (now : ℕ) (e : Event) → (is_ours e || sends (kind_in (cell_of l (clock_of l now) e))) && leb last_number l.sending ≡ true → Stopped l now e
sent_out l now e h =
    let ours = is_ours e in
    let cell = sends (kind_in (cell_of l (clock_of l now) e)) in
    let q = split (ours || cell) (leb last_number l.sending) h in
    none_to_send
    (⊎_elim (λ a. ours_send l now e a) (λ b. send_fact l now e (sends_cell l (clock_of l now) e b)) (or_cases ours cell q.0))
    (leb-true last_number l.sending q.1)

taken_out : (l : Line) (now : ℕ) (e : Event) → is_frame e && leb last_number l.expecting ≡ true → Stopped l now e
taken_out l now e h =
    let q = split (is_frame e) (leb last_number l.expecting) h in
    none_to_take (frame_fact e q.0) (leb-true last_number l.expecting q.1)

gone_fact : (l : Line) (now : ℕ) (e : Event) → gone l (clock_of l now) e ≡ true → Stopped l now e
gone_fact l now e h =
    let q = split (is_frame e || is_ours e) (dead_at l (clock_of l now)) h in line_dead (sym (move_is e) ∙ q.0) (dead_is l now q.1)

spent_fact : (l : Line) (now : ℕ) (e : Event) → spent l e (kind_in (cell_of l (clock_of l now) e)) ≡ true → Stopped l now e
spent_fact l now e h =
    ⊎_elim
    (λ a. sent_out l now e a)
    (λ b. taken_out l now e b)
    (or_cases ((is_ours e || sends (kind_in (cell_of l (clock_of l now) e))) && leb last_number l.sending) (is_frame e && leb last_number l.expecting) h)

pub stopped_fact : (l : Line) (now : ℕ) (e : Event) → halts l now e ≡ true → Stopped l now e
stopped_fact l now e h =
    ⊎_elim
    (λ a. gone_fact l now e a)
    (λ b. spent_fact l now e b)
    (or_cases (gone l (clock_of l now) e) (spent l e (kind_in (cell_of l (clock_of l now) e))) h)

both : (a b : Bool) → a ≡ true → b ≡ true → a && b ≡ true
both a b p q = rw (p, q)

pub stopped_test : (l : Line) (now : ℕ) (e : Event) → Stopped l now e → halts l now e ≡ true
stopped_test l now e (line_dead m d) =
    or_left (gone l (clock_of l now) e) _ (both (is_frame e || is_ours e) (dead_at l (clock_of l now)) (move_is e ∙ m) (dead_at_lem l now d))
stopped_test l now e (none_to_send s h) =
    let sending = is_ours e || sends (kind_in (cell_of l (clock_of l now) e)) in
    or_right (gone l (clock_of l now) e) _
    (or_left (sending && leb last_number l.sending) _ (both sending (leb last_number l.sending) (send_test l now e s) (le-leb _ _ h)))
stopped_test l now e (none_to_take f h) =
    let sending = is_ours e || sends (kind_in (cell_of l (clock_of l now) e)) in
    or_right (gone l (clock_of l now) e) _
    (or_right (sending && leb last_number l.sending) _ (both (is_frame e) (leb last_number l.expecting) (frame_test e f) (le-leb _ _ h)))
