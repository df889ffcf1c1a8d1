-- A call's answer and the session after it, by the way that its checks go. Assumes nothing.
use mathlib.Core.Path.{◌≡◌, sym, ap, ◌∙◌}
use mathlib.Core.Bool.{Bool, true, false, ◌||◌}
use mathlib.Core.Logic.{⊎_elim}
use Prim.Native.Nat.{ℕ}
use native.Mathlib.Omega.{arith}
use borrow.Author.Tests.{eq-eqb, ne_eqb}
use lib.Dec.{eqb}
use Rattle.terms.specs.Cases.{same}
use Rattle.terms.specs.Paper.{pick}
use Rattle.session_spec.specs.Table.{Event, Cell, Kind}
use Rattle.session_spec.specs.Calls.{Line, Answer, number_in, kind_in, misnumbered, gone, spent, sound_of, clock_of, cell_of, own_number, number_to, refused, told, done, answer_to, next_of}

pub number_sound : (l : Line) (now : ℕ) (e : Event) → sound_of l ≡ true → number_to l now e ≡ own_number l (clock_of l now) e (cell_of l (clock_of l now) e)
unfolding number_to
number_sound l now e s = rw s

number_broken : (l : Line) (now : ℕ) (e : Event) → sound_of l ≡ false → number_to l now e ≡ 13
unfolding number_to
number_broken l now e s = rw s

pub answer_zero : (l : Line) (now : ℕ) (e : Event) → number_to l now e ≡ 0 → (answer_to l now e ≡ told l (cell_of l (clock_of l now) e)) × (next_of l now e ≡ done l (clock_of l now) e (cell_of l (clock_of l now) e))
unfolding answer_to next_of
answer_zero l now e n = (rw (eq-eqb (number_to l now e) 0 n), rw (eq-eqb (number_to l now e) 0 n))

pub answer_not_zero : (l : Line) (now : ℕ) (e : Event) → (number_to l now e ≡ 0 → ⊥) → (answer_to l now e ≡ refused (number_to l now e)) × (next_of l now e ≡ l)
unfolding answer_to next_of
answer_not_zero l now e n = (rw (ne_eqb (number_to l now e) 0 n), rw (ne_eqb (number_to l now e) 0 n))

-- the answer's number is the call's
pub number_is : (l : Line) (now : ℕ) (e : Event) → (answer_to l now e).number ≡ number_to l now e
number_is l now e =
    ⊎_elim
    (λ (z : number_to l now e ≡ 0). ap (λ (a : Answer). a.number) (answer_zero l now e z).0 ∙ sym z)
    (λ (p : number_to l now e ≡ 0 → ⊥). ap (λ (a : Answer). a.number) (answer_not_zero l now e p).0)
    (same (number_to l now e) 0)

own_at : (l : Line) (now : ℕ) (e : Event) (t : ℕ) (cell : Cell) → t ≡ clock_of l now → cell ≡ cell_of l t e → own_number l t e cell ≡ own_number l (clock_of l now) e (cell_of l (clock_of l now) e)
own_at l now e t cell p q = rw (q, p)

pub broken_call : (l : Line) (now : ℕ) (e : Event) → sound_of l ≡ false → (answer_to l now e ≡ refused 13) × (next_of l now e ≡ l)
broken_call l now e s =
    let n = number_broken l now e s in
    let q = answer_not_zero l now e (λ z. let w : 13 ≡ 0 = sym n ∙ z in omega arith) in
    (q.0 ∙ ap refused n, q.1)

pub refused_call : (l : Line) (now : ℕ) (e : Event) (t : ℕ) (cell : Cell) (m : ℕ) → (m ≡ 0 → ⊥) → sound_of l ≡ true → t ≡ clock_of l now → cell ≡ cell_of l t e
    → m ≡ own_number l t e cell → (answer_to l now e ≡ refused m) × (next_of l now e ≡ l)
refused_call l now e t cell m p s x y h =
    let n : number_to l now e ≡ m = number_sound l now e s ∙ sym (own_at l now e t cell x y) ∙ sym h in
    let q = answer_not_zero l now e (λ z. p (sym n ∙ z)) in
    (q.0 ∙ ap refused n, q.1)

told_at : (l : Line) (now : ℕ) (e : Event) (t : ℕ) (cell : Cell) → t ≡ clock_of l now → cell ≡ cell_of l t e → told l (cell_of l (clock_of l now) e) ≡ told l cell
told_at l now e t cell p q = rw (q, p)

done_at : (l : Line) (now : ℕ) (e : Event) (t : ℕ) (cell : Cell) → t ≡ clock_of l now → cell ≡ cell_of l t e → done l (clock_of l now) e (cell_of l (clock_of l now) e) ≡ done l t e cell
done_at l now e t cell p q = rw (q, p)

pub done_call : (l : Line) (now : ℕ) (e : Event) (t : ℕ) (cell : Cell) → sound_of l ≡ true → t ≡ clock_of l now → cell ≡ cell_of l t e
    → 0 ≡ own_number l t e cell → (answer_to l now e ≡ told l cell) × (next_of l now e ≡ done l t e cell)
done_call l now e t cell s x y h =
    let n : number_to l now e ≡ 0 = number_sound l now e s ∙ sym (own_at l now e t cell x y) ∙ sym h in
    let q = answer_zero l now e n in
    (q.0 ∙ told_at l now e t cell x y, q.1 ∙ done_at l now e t cell x y)

-- behind 30 and 31
pub own_ended : (l : Line) (t : ℕ) (e : Event) (cell : Cell) (k : Kind) → k ≡ kind_in cell → eqb (number_in cell) 30 ≡ false → misnumbered l e ≡ false
    → (b : Bool) → b ≡ (gone l t e || spent l e k) → own_number l t e cell ≡ pick b 32 (number_in cell)
unfolding own_number
own_ended l t e cell k p n m b q = rw (q, p, n, m)
