-- A logout is answered by ours where the line is active, and by nothing else. Assumes nothing.
use mathlib.Core.Path.{◌≡◌, refl, ap, ◌∙◌}
use mathlib.Core.Bool.{Bool, true, false, ◌||◌}
use mathlib.Core.Logic.{⊎_elim}
use Prim.Native.Nat.{ℕ}
use borrow.Author.Tests.{ne_eqb}
use Rattle.terms.specs.Cases.{clash}
use Rattle.session_spec.specs.Table.{State, new, waiting, active, leaving, over, Logout, row_of}
use Rattle.session_spec.specs.Calls.{Line, Answer, clock_of, sound_of, dead_at, due_at, resolved, cell_of, kind_in, answer_to}
use Rattle.session_spec.specs.Trace.{Calls, ◌▸◌, after, trace}
use Rattle.session_spec.specs.Words.{accepted, stage_by, stage}
use Rattle.session_spec.specs.Statements.{reply, EndedUnsent}
use Rattle.session_spec.proofs.Agree.{agrees}
use Rattle.session_spec.proofs.Theorems.{Refuses, Goes, outcome, kind_goes}
use Rattle.session_spec.proofs.Order.{silent_when_over}

reply_row : (s : State) (n : ℕ) (dead due : Bool) → kind_in (resolved dead due (row_of s (Logout n))) ≡ reply s
reply_row new n dead due = refl
reply_row waiting n dead due = refl
reply_row active n dead due = refl
reply_row leaving n dead due = refl
reply_row over n dead due = refl

reply_cell : (l : Line) (t n : ℕ) → kind_in (cell_of l t (Logout n)) ≡ reply l.state
unfolding cell_of
reply_cell l t n = reply_row l.state n (dead_at l t) (due_at l t)

replied : (l : Line) (now n : ℕ) → sound_of l ≡ true → accepted (answer_to l now (Logout n)) ≡ true → (answer_to l now (Logout n)).kind ≡ reply l.state
replied l now n s h =
    ⊎_elim
    (λ (r : Refuses l now (Logout n)). absurd (clash h (ap accepted r.answer_is ∙ ne_eqb r.number 0 r.not_zero)))
    (λ (g : Goes l now (Logout n)). kind_goes g ∙ reply_cell l (clock_of l now) n)
    (outcome l now (Logout n) s)

-- a logout taken on an active line is answered by S002; one in place of the logon answer, or behind
-- our own, by nothing; the session is over
pub logout_answered : (calls : Calls) (now n : ℕ) → accepted (answer_to (after calls) now (Logout n)) ≡ true
    → (answer_to (after calls) now (Logout n)).kind ≡ reply (stage (trace calls))
logout_answered calls now n h = let g = agrees calls in replied (after calls) now n g.sound h ∙ ap reply g.state_is

or_true : (b : Bool) → b || true ≡ true
or_true true = refl
or_true false = refl

out_of_line : (a : Answer) (now n : ℕ) (was : State) → accepted a ≡ true → stage_by (record { now = now; event = Logout n }) a was ≡ over
out_of_line a now n was h = rw (h, or_true a.dead)

over_behind : (calls : Calls) (now n : ℕ) → accepted (answer_to (after calls) now (Logout n)) ≡ true → stage (trace (calls ▸ record { now = now; event = Logout n })) ≡ over
unfolding trace
over_behind calls now n h = out_of_line (answer_to (after calls) now (Logout n)) now n (stage (trace calls)) h

-- a logout taken in place of the logon answer
pub ended_unsent : (calls : Calls) (now n : ℕ) → stage (trace calls) ≡ waiting → accepted (answer_to (after calls) now (Logout n)) ≡ true
    → EndedUnsent calls (record { now = now; event = Logout n })
ended_unsent calls now n w h =
    let o = over_behind calls now n h in
    record { unsent = logout_answered calls now n h ∙ ap reply w; ended = o; silent = λ call. silent_when_over (calls ▸ record { now = now; event = Logout n }) call o }
