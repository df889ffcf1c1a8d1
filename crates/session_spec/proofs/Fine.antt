-- What is known of a call that is answered 0: each test passed. Its counters can step. Assumes
-- nothing.
use mathlib.Core.Path.{◌≡◌, refl, sym, ap, ◌∙◌}
use mathlib.Core.Bool.{Bool, true, false, ◌&&◌, ◌||◌}
use Prim.Native.Nat.{ℕ, ◌+◌, ◌≤◌, ◌<◌}
use native.Mathlib.Omega.{arith}
use borrow.Author.Tests.{leb-false}
use lib.Dec.{eqb, leb}
use Rattle.terms.specs.Cases.{clash}
use Rattle.terms.specs.Paper.{pick}
use Rattle.session_spec.specs.Table.{Event, Cell, is_frame, is_ours, sends}
use Rattle.session_spec.specs.Calls.{Line, one, last_number, cell_of, number_in, kind_in, misnumbered, gone, spent, ordered, own_number}

pub or_false : (a b : Bool) → a || b ≡ false → (a ≡ false) × (b ≡ false)
or_false true b e = absurd (clash refl e)
or_false false b e = (refl, e)

pub step_fits : (n : ℕ) (b : Bool) → n ≤ last_number → b && leb last_number n ≡ false → n + one b ≤ last_number
step_fits n true h e = let k : n < last_number = leb-false last_number n e in omega arith
step_fits n false h e = omega arith

checks : (b w d : Bool) (n : ℕ) → pick b 30 (pick w 31 (pick d 32 n)) ≡ 0 → (w ≡ false) × ((d ≡ false) × (n ≡ 0))
checks true w d n e = absurd (omega arith)
checks false true d n e = absurd (omega arith)
checks false false true n e = absurd (omega arith)
checks false false false n e = (refl, (refl, e))

pub ordered_zero : (w d : Bool) (n : ℕ) → ordered w d n ≡ 0 → (w ≡ false) × ((d ≡ false) × (n ≡ 0))
ordered_zero w d n e = checks (eqb n 30) w d n e

pub record Fine (l : Line) (t : ℕ) (e : Event) : Type 0 where
  pub in_order : misnumbered l e ≡ false
  pub alive : gone l t e ≡ false
  pub unspent : spent l e (kind_in (cell_of l t e)) ≡ false
  pub zero : number_in (cell_of l t e) ≡ 0

own_parts : (l : Line) (t : ℕ) (e : Event) → own_number l t e (cell_of l t e) ≡ 0 → (misnumbered l e ≡ false) × (((gone l t e || spent l e (kind_in (cell_of l t e))) ≡ false) × (number_in (cell_of l t e) ≡ 0))
unfolding own_number
own_parts l t e h = ordered_zero (misnumbered l e) (gone l t e || spent l e (kind_in (cell_of l t e))) (number_in (cell_of l t e)) h

pub fine : (l : Line) (t : ℕ) (e : Event) → own_number l t e (cell_of l t e) ≡ 0 → Fine l t e
fine l t e h =
    let q = own_parts l t e h in
    let d = or_false (gone l t e) (spent l e (kind_in (cell_of l t e))) q.1.0 in
    record { in_order = q.0; alive = d.0; unspent = d.1; zero = q.1.1 }

narrow : (a b c : Bool) → (a || b) && c ≡ false → b && c ≡ false
narrow true true c e = e
narrow true false c e = refl
narrow false b c e = e

-- no counter steps past the last number
pub sends_fit : (l : Line) (e : Event) (b : Bool) (h : ((is_ours e || b) && leb last_number l.sending) || (is_frame e && leb last_number l.expecting) ≡ false)
    → l.sending ≤ last_number → l.expecting ≤ last_number → (l.sending + one b ≤ last_number) × (l.expecting + one (is_frame e) ≤ last_number)
sends_fit l e b h p q =
    let d = or_false _ _ h in (step_fits l.sending b p (narrow (is_ours e) b (leb last_number l.sending) d.0), step_fits l.expecting (is_frame e) q d.1)

pub fits : (l : Line) (t : ℕ) (e : Event) → own_number l t e (cell_of l t e) ≡ 0 → l.sending ≤ last_number → l.expecting ≤ last_number
    → (l.sending + one (sends (kind_in (cell_of l t e))) ≤ last_number) × (l.expecting + one (is_frame e) ≤ last_number)
fits l t e h p q = sends_fit l e (sends (kind_in (cell_of l t e))) (fine l t e h).unspent p q

-- the same, of a cell that is known to be the call's
pub fits_at : (l : Line) (t : ℕ) (e : Event) (cell : Cell) → cell ≡ cell_of l t e → 0 ≡ own_number l t e cell → l.sending ≤ last_number → l.expecting ≤ last_number
    → (l.sending + one (sends (kind_in cell)) ≤ last_number) × (l.expecting + one (is_frame e) ≤ last_number)
fits_at l t e cell y h p q = rw y (fits l t e (sym (ap (own_number l t e) y) ∙ sym h) p q)
