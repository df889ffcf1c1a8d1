-- What one call does, told in the words of the history: `Step`. A refusal leaves all as it was.
-- Assumes nothing.
use mathlib.Core.Path.{◌≡◌, refl, sym, ◌∙◌}
use mathlib.Core.Bool.{Bool, true, false, ◌&&◌, not}
use mathlib.Core.Logic.{◌⊎◌, ⊎_elim, ◌↔◌}
use Prim.Native.Nat.{ℕ, ◌+◌, ◌≤◌, max}
use native.Mathlib.Nat.{add-zero}
use native.Mathlib.Omega.{arith}
use borrow.Author.Tests.{ne_eqb, eqb-true, not-false, le-leb, leb-true}
use lib.Dec.{eqb, leb}
use Rattle.terms.specs.Cases.{clash, same}
use Rattle.terms.specs.Paper.{pick}
use Rattle.terms.specs.RuledOut.{split}
use Rattle.session_spec.specs.Table.{Event, is_frame, seq_of, agreed, sends}
use Rattle.session_spec.specs.Calls.{Line, Answer, one, sound_of, counters_right, clock_of, cell_of, dead_at, due_at, kind_in, state_in, number_to, refused, told, done, answer_to, next_of}
use Rattle.session_spec.specs.Trace.{Call}
use Rattle.session_spec.specs.Words.{accepted, takes, stage_by}
use Rattle.session_spec.specs.Given.{Counters, Rules}
use Rattle.session_spec.proofs.Fine.{Fine, fine}
use Rattle.session_spec.proofs.Outcome.{number_sound, answer_zero, answer_not_zero}
use Rattle.session_spec.proofs.Cells.{stage_step, counters_fact, counters_test, counters_step}

pub record Step (l : Line) (call : Call) (a : Answer) (n : Line) : Type 0 where
  pub state_is : n.state ≡ stage_by call a l.state
  pub sending_is : n.sending ≡ l.sending + one (sends a.kind)
  pub expecting_is : n.expecting ≡ l.expecting + one (takes call a)
  pub last_is : n.last ≡ pick (accepted a) (max l.last call.now) l.last
  pub sent_is : n.sent ≡ pick (sends a.kind) (max l.last call.now) l.sent
  pub heard_is : n.heard ≡ pick (takes call a) (max l.last call.now) l.heard
  pub interval_is : n.interval ≡ pick (accepted a) (agreed call.event l.interval) l.interval
  pub sent_seq : sends a.kind ≡ true → a.seq ≡ l.sending
  pub taken_seq : takes call a ≡ true → seq_of call.event ≡ l.expecting
  pub sound : sound_of n ≡ true

and_false : (b : Bool) → b && false ≡ false
and_false true = refl
and_false false = refl

and_true : (b : Bool) → b && true ≡ b
and_true true = refl
and_true false = refl

quiet : (l : Line) (call : Call) (m : ℕ) → (m ≡ 0 → ⊥) → sound_of l ≡ true → Step l call (refused m) l
quiet l call m p s =
    let z = ne_eqb m 0 p in
    record {
      state_is = simp (z, and_false);
      sending_is = sym (add-zero _);
      expecting_is = simp (z, and_false) (sym (add-zero _));
      last_is = simp z;
      sent_is = refl;
      heard_is = simp (z, and_false);
      interval_is = simp z;
      sent_seq = λ q. absurd (clash q refl);
      taken_seq = λ q. absurd (clash q (simp (z, and_false)));
      sound = s;
    }

pick_le : (b : Bool) (t x : ℕ) → x ≤ t → pick b t x ≤ t
pick_le true t x h = omega arith
pick_le false t x h = h

pub rules : (l : Line) → sound_of l ≡ true → Rules l
unfolding sound_of
rules l s =
    let q = split (leb l.sent l.last) _ s in
    let r = split (leb l.heard l.last) _ q.1 in
    record { sent_past = leb-true _ _ q.0; heard_past = leb-true _ _ r.0; counters = counters_fact l.state l.sending l.expecting r.1 }

pub rules_test : (l : Line) → Rules l → sound_of l ≡ true
unfolding sound_of
rules_test l r = simp (le-leb _ _ r.sent_past, le-leb _ _ r.heard_past, counters_test l.state l.sending l.expecting r.counters)

-- a session is sound exactly where the rules hold
pub sound_exactly : (l : Line) → (sound_of l ≡ true) ↔ Rules l
sound_exactly l = (rules l, rules_test l)

later : (x last now : ℕ) → x ≤ last → x ≤ max last now
later x last now h = omega arith

counters_go : (l : Line) (t : ℕ) (e : Event) → Fine l t e → Counters l.state l.sending l.expecting
    → counters_right (state_in (cell_of l t e) l.state) (l.sending + one (sends (kind_in (cell_of l t e)))) (l.expecting + one (is_frame e)) ≡ true
unfolding cell_of
counters_go l t e f h = counters_test (state_in (cell_of l t e) l.state) (l.sending + one (sends (kind_in (cell_of l t e)))) (l.expecting + one (is_frame e)) (counters_step l.state e (dead_at l t) (due_at l t) l.sending l.expecting f.zero h)

-- the rules hold behind a call that is answered 0
done_sound : (l : Line) (now : ℕ) (e : Event) → sound_of l ≡ true → Fine l (clock_of l now) e → sound_of (done l (clock_of l now) e (cell_of l (clock_of l now) e)) ≡ true
unfolding sound_of done
done_sound l now e s f =
    let t = clock_of l now in
    let r = rules l s in
    simp (
      le-leb _ _ (pick_le (sends (kind_in (cell_of l t e))) t l.sent (later _ _ now r.sent_past)),
      le-leb _ _ (pick_le (is_frame e) t l.heard (later _ _ now r.heard_past)),
      counters_go l t e f r.counters,
    )

in_order : (f : Bool) (a b : ℕ) → f && not (eqb a b) ≡ false → f && true ≡ true → a ≡ b
in_order true a b e q = eqb-true a b (not-false _ e)
in_order false a b e q = absurd (clash q refl)

state_go : (l : Line) (t : ℕ) (call : Call) → Fine l t call.event → state_in (cell_of l t call.event) l.state ≡ stage_by call (told l (cell_of l t call.event)) l.state
unfolding cell_of
state_go l t call f = stage_step l.state call.event (dead_at l t) (due_at l t) f.zero

go : (l : Line) (call : Call) → sound_of l ≡ true → Fine l (clock_of l call.now) call.event
    → Step l call (told l (cell_of l (clock_of l call.now) call.event)) (done l (clock_of l call.now) call.event (cell_of l (clock_of l call.now) call.event))
unfolding done
go l call s f =
    record {
      state_is = state_go l (clock_of l call.now) call f;
      sending_is = refl;
      expecting_is = simp and_true;
      last_is = refl;
      sent_is = refl;
      heard_is = simp and_true;
      interval_is = refl;
      sent_seq = λ q. rw q;
      taken_seq = λ q. in_order (is_frame call.event) (seq_of call.event) l.expecting f.in_order q;
      sound = done_sound l call.now call.event s f;
    }

pub step : (l : Line) (call : Call) → sound_of l ≡ true → Step l call (answer_to l call.now call.event) (next_of l call.now call.event)
step l call s =
    ⊎_elim
    (λ z. let q = answer_zero l call.now call.event z in
    rw (q.0, q.1) (go l call s (fine l (clock_of l call.now) call.event (sym (number_sound l call.now call.event s) ∙ z))))
    (λ p. let q = answer_not_zero l call.now call.event p in rw (q.0, q.1) (quiet l call (number_to l call.now call.event) p s))
    (same (number_to l call.now call.event) 0)
