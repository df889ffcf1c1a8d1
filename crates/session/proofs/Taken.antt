-- An ordinary frame that a live line takes: its cell is to send nothing and to stay, and each test
-- passes. Assumes nothing.
use mathlib.Core.Path.{◌≡◌, refl, ◌∙◌}
use mathlib.Core.Bool.{Bool, true, false, ◌&&◌, ◌||◌, not}
use Prim.Native.Nat.{ℕ, ◌+◌, ◌≤◌}
use native.Mathlib.Nat.{add-zero}
use lib.Dec.{leb}
use Rattle.terms.specs.Cases.{clash}
use Rattle.session_spec.specs.Table.{State, new, waiting, active, leaving, over, Event, Begin, Time, Leave, Ask, Logon, Logout, Other, Faulty, none, does}
use Rattle.session_spec.specs.Calls.{Line, last_number, sound_of, listening, clock_of, cell_of, misnumbered, gone, spent, own_number, refused, done, answer_to, next_of}
use Rattle.session_spec.proofs.Fine.{or_false, step_fits}
use Rattle.session_spec.proofs.Outcome.{done_call}
use Rattle.session.specs.Taken.{takes, taken_line}

all_true : (a b c : Bool) → a && (not b && not c) ≡ true → (a ≡ true) × ((b ≡ false) × (c ≡ false))
all_true true false false e = (refl, (refl, refl))
all_true true false true e = absurd (clash e refl)
all_true true true c e = absurd (clash e refl)
all_true false b c e = absurd (clash e refl)

-- a frame that is taken: its number, and what its tests say
pub record Takes (l : Line) (t n : ℕ) : Type 0 where
  pub listens : listening l.state ≡ true
  pub in_order : misnumbered l (Other n) ≡ false
  pub goes_on : (gone l t (Other n) || spent l (Other n) none) ≡ false

other_takes : (l : Line) (t n : ℕ) → takes l t (Other n) ≡ true → Takes l t n
unfolding takes
other_takes l t n h =
    let q = all_true (listening l.state) (misnumbered l (Other n)) (gone l t (Other n) || spent l (Other n) none) h in
    record { listens = q.0; in_order = q.1.0; goes_on = q.1.1 }

module _ (l : Line) (t n : ℕ) (k : Takes l t n) where
  cell_in : (s : State) → l.state ≡ s → listening s ≡ true → does none s ≡ cell_of l t (Other n)
  unfolding cell_of
  cell_in new e h = absurd (clash h refl)
  cell_in waiting e h = absurd (clash h refl)
  cell_in active e h = rw e
  cell_in leaving e h = rw e
  cell_in over e h = absurd (clash h refl)

  own_zero : 0 ≡ own_number l t (Other n) (does none l.state)
  unfolding own_number
  own_zero = rw (k.in_order, k.goes_on)

  pub other_fits : l.expecting ≤ last_number → l.expecting + 1 ≤ last_number
  other_fits h =
      let left = (or_false (gone l t (Other n)) (spent l (Other n) none) k.goes_on).1 in
      step_fits l.expecting true h (or_false (false && leb last_number l.sending) (true && leb last_number l.expecting) left).1

  done_is : done l t (Other n) (does none l.state) ≡ taken_line l t
  unfolding done taken_line
  done_is = rw add-zero

  pub other_taken : (now : ℕ) → sound_of l ≡ true → t ≡ clock_of l now → (answer_to l now (Other n) ≡ refused 0) × (next_of l now (Other n) ≡ taken_line l t)
  other_taken now s x =
      let q = done_call l now (Other n) t (does none l.state) s x (cell_in l.state refl k.listens) own_zero in
      (q.0, q.1 ∙ done_is)

-- the same of any event: one that is no ordinary frame is not taken so
pub taken_call : (l : Line) (now t : ℕ) (e : Event) → sound_of l ≡ true → t ≡ clock_of l now → takes l t e ≡ true → (answer_to l now e ≡ refused 0) × (next_of l now e ≡ taken_line l t)
unfolding takes
taken_call l now t Begin s x h = absurd (clash h refl)
taken_call l now t Time s x h = absurd (clash h refl)
taken_call l now t Leave s x h = absurd (clash h refl)
taken_call l now t Ask s x h = absurd (clash h refl)
taken_call l now t (Logon number heart) s x h = absurd (clash h refl)
taken_call l now t (Logout number) s x h = absurd (clash h refl)
taken_call l now t (Other number) s x h = other_taken l t number (other_takes l t number h) now s x
taken_call l now t (Faulty why) s x h = absurd (clash h refl)

pub taken_fits : (l : Line) (t : ℕ) (e : Event) → takes l t e ≡ true → l.expecting ≤ last_number → l.expecting + 1 ≤ last_number
unfolding takes
taken_fits l t Begin h b = absurd (clash h refl)
taken_fits l t Time h b = absurd (clash h refl)
taken_fits l t Leave h b = absurd (clash h refl)
taken_fits l t Ask h b = absurd (clash h refl)
taken_fits l t (Logon number heart) h b = absurd (clash h refl)
taken_fits l t (Logout number) h b = absurd (clash h refl)
taken_fits l t (Other number) h b = other_fits l t number (other_takes l t number h) b
taken_fits l t (Faulty why) h b = absurd (clash h refl)
