-- From the table's cell to the answer: a call whose number is right, on a line that is not stopped,
-- does what its cell says. Then the agreed interval, outright. Assumes nothing.
use mathlib.Core.Path.{◌≡◌, refl, sym, ap, ◌∙◌}
use mathlib.Core.Bool.{Bool, true, false, ◌||◌}
use Prim.Native.Nat.{ℕ, ◌*◌}
use native.Mathlib.Omega.{arith}
use lib.Dec.{eqb}
use borrow.Author.Tests.{eqb-true}
use Rattle.terms.specs.Cases.{clash}
use Rattle.terms.specs.Paper.{pick}
use Rattle.session_spec.specs.Table.{State, active, Event, Begin, Time, Leave, Ask, Logon, Logout, Other, Faulty, Cell, refuse, does, beats, watches, dies, row_of, agreed}
use Rattle.session_spec.specs.Calls.{Line, Answer, clock_of, dead_at, due_at, resolved, cell_of, number_in, kind_in, is_death, state_in, misnumbered, ordered, own_number, number_to, done, answer_to, next_of}
use Rattle.session_spec.specs.Trace.{Call, Calls, ◌▸◌, after, answer_after, trace}
use Rattle.session_spec.specs.Words.{accepted, is_logon, interval}
use Rattle.session_spec.specs.Given.{Rules, Dead, BeatDue, WrongNumber, Stopped, Did, AsCell}
use Rattle.session_spec.proofs.Steps.{rules_test}
use Rattle.session_spec.proofs.Outcome.{number_sound, number_is, answer_zero}
use Rattle.session_spec.proofs.Views.{is_s003, beat_cell}
use Rattle.session_spec.proofs.Plain.{fails, wrong_fact, halts, stopped_fact, dead_is, dead_at_lem, beat_at, beat_alive, beat_due}

-- behind 31 and 32 the cell's number is the answer's
picked_30 : (n : ℕ) (b : Bool) → eqb n 30 ≡ b → pick b 30 n ≡ n
picked_30 n true t = sym (eqb-true n 30 t)
picked_30 n false t = refl

in_order : (w d : Bool) (n : ℕ) → w ≡ false → d ≡ false → ordered w d n ≡ n
in_order w d n p q = rw (p, q) (picked_30 n (eqb n 30) refl)

own_cell : (l : Line) (now : ℕ) (e : Event) → misnumbered l e ≡ false → halts l now e ≡ false
    → own_number l (clock_of l now) e (cell_of l (clock_of l now) e) ≡ number_in (cell_of l (clock_of l now) e)
unfolding own_number
own_cell l now e p q = in_order (misnumbered l e) (halts l now e) (number_in (cell_of l (clock_of l now) e)) p q

-- only an active line beats
beats_active : (s : State) (e : Event) → row_of s e ≡ beats → s ≡ active
beats_active s e h = let k : is_s003 (kind_in (resolved false true (row_of s e))) ≡ true = rw h in (beat_cell s e false true k).state_active

cell_from : (l : Line) (t : ℕ) (e : Event) (c : Cell) (dead due : Bool) → row_of l.state e ≡ c → dead_at l t ≡ dead → due_at l t ≡ due → cell_of l t e ≡ resolved dead due c
unfolding cell_of
cell_from l t e c dead due h p q = rw (h, p, q)

module _ (l : Line) (now : ℕ) (e : Event) (kept : Rules l) (right : WrongNumber l e → ⊥) (going : Stopped l now e → ⊥) where
  number_cell : number_to l now e ≡ number_in (cell_of l (clock_of l now) e)
  number_cell = number_sound l now e (rules_test l kept) ∙ own_cell l now e (fails (misnumbered l e) (wrong_fact l e) right) (fails (halts l now e) (stopped_fact l now e) going)

  did : (c : Cell) → cell_of l (clock_of l now) e ≡ c → number_in c ≡ 0 → Did (kind_in c) (state_in c l.state) (is_death c) (answer_to l now e) (next_of l now e).state
  unfolding done
  did c h z =
      let q = answer_zero l now e (number_cell ∙ ap number_in h ∙ z) in
      record {
        number_0 = ap (λ (a : Answer). a.number) q.0;
        kind_is = ap (λ (a : Answer). a.kind) q.0 ∙ ap kind_in h;
        dead_is = ap (λ (a : Answer). a.dead) q.0 ∙ ap is_death h;
        state_is = ap (λ (n : Line). n.state) q.1 ∙ ap (λ (x : Cell). state_in x l.state) h;
      }

  abbrev t : ℕ
  t = clock_of l now

  alive : (Dead l now → ⊥) → dead_at l t ≡ false
  alive p = fails (dead_at l t) (dead_is l now) p

  as_cell : (c : Cell) → row_of l.state e ≡ c → AsCell (Dead l now) (BeatDue l now) (answer_to l now e) (next_of l now e).state c
  as_cell (refuse n) h = number_is l now e ∙ number_cell ∙ ap number_in (cell_from l t e (refuse n) _ _ h refl refl)
  as_cell (does k s) h = did (does k s) (cell_from l t e (does k s) _ _ h refl refl) refl
  as_cell beats h =
      record {
        where_dead = λ d. did dies (cell_from l t e beats true _ h (dead_at_lem l now d) refl) refl;
        where_due = λ b. did (resolved false true beats) (cell_from l t e beats false true h (beat_alive l now b) (beat_due l now b)) refl;
        else_nothing = λ p q.
            let a = alive p in
            let u = fails (due_at l t) (λ x. beat_at l now (beats_active l.state e h) a x) q in
            did (resolved false false beats) (cell_from l t e beats false false h a u) refl;
      }
  as_cell watches h =
      record {
        where_dead = λ d. did dies (cell_from l t e watches true _ h (dead_at_lem l now d) refl) refl;
        else_nothing = λ p. did (resolved false false watches) (cell_from l t e watches false _ h (alive p) refl) refl;
      }
  as_cell dies h = did dies (cell_from l t e dies _ _ h refl refl) refl

  -- the answer, the message and the next state are those of the cell at this state and this event
  pub from_cell : AsCell (Dead l now) (BeatDue l now) (answer_to l now e) (next_of l now e).state (row_of l.state e)
  from_cell = as_cell (row_of l.state e) refl

-- ======== The agreed interval

agreed_at : (b : Bool) (heart was : ℕ) → b ≡ true → pick b (heart * 1000) was ≡ 1000 * heart
agreed_at true heart was h = omega arith
agreed_at false heart was h = absurd (clash h refl)

-- behind a logon that is taken the interval is 1000 times its HeartBtInt: seconds, in milliseconds
pub agreed_is : (calls : Calls) (now number heart : ℕ) → accepted (answer_to (after calls) now (Logon number heart)) ≡ true
    → interval (trace (calls ▸ record { now = now; event = Logon number heart })) ≡ 1000 * heart
unfolding trace
agreed_is calls now number heart h = agreed_at (accepted (answer_to (after calls) now (Logon number heart))) heart (interval (trace calls)) h

kept_by_lem : (b : Bool) (e : Event) (was : ℕ) → is_logon e ≡ false → pick b (agreed e was) was ≡ was
kept_by_lem false e was h = refl
kept_by_lem true Begin was h = refl
kept_by_lem true Time was h = refl
kept_by_lem true Leave was h = refl
kept_by_lem true Ask was h = refl
kept_by_lem true (Logon number heart) was h = absurd (clash refl h)
kept_by_lem true (Logout number) was h = refl
kept_by_lem true (Other number) was h = refl
kept_by_lem true (Faulty why) was h = refl

-- and nothing else moves it
pub agreed_stays : (calls : Calls) (call : Call) → is_logon call.event ≡ false → interval (trace (calls ▸ call)) ≡ interval (trace calls)
unfolding trace
agreed_stays calls call h = kept_by_lem (accepted (answer_after calls call)) call.event (interval (trace calls)) h
