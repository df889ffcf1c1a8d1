-- When each refusal is given, and when a call is answered 0: both ways, for every session and every
-- call. Assumes nothing.
use mathlib.Core.Path.{◌≡◌, refl, sym, ap, ◌∙◌}
use mathlib.Core.Bool.{Bool, true, false, ◌&&◌, ◌||◌, not}
use mathlib.Core.Logic.{◌⊎◌, inl, inr, ⊎_elim, ◌↔◌}
use Prim.Native.Nat.{ℕ}
use native.Mathlib.Omega.{arith}
use borrow.Author.Tests.{eqb-true, eq-eqb, ne_eqb}
use lib.Dec.{eqb}
use Rattle.terms.specs.Cases.{clash, two}
use Rattle.terms.specs.Paper.{pick}
use Rattle.session_spec.specs.Table.{State, new, waiting, active, leaving, over, Event, Begin, Time, Leave, Ask, Logon, Logout, Other, Faulty, Cell, refuse, row_of}
use Rattle.session_spec.specs.Calls.{Line, sound_of, clock_of, dead_at, due_at, resolved, cell_of, number_in, kind_in, misnumbered, gone, spent, ordered, own_number, number_to, answer_to}
use Rattle.session_spec.specs.Given.{Rules, unanswered, talks, is_faulty, second, closed, early, WrongNumber, Stopped, Given0, Given30, Given31, Given32, Given33}
use Rattle.session_spec.specs.Faults.{Fault, fault_number}
use Rattle.session_spec.proofs.Faults.{fault_pos, not_reading}
use Rattle.session_spec.proofs.Outcome.{number_sound, number_is}
use Rattle.session_spec.proofs.Steps.{rules, rules_test}
use Rattle.session_spec.proofs.Order.{or_left, or_right}
use Rattle.session_spec.proofs.Views.{or_cases}
use Rattle.session_spec.proofs.Plain.{fails, wrong_fact, wrong_test, halts, stopped_fact, stopped_test}

-- no cell refuses it
abbrev goes : State → Event → Bool
goes s e = not (is_faulty e || ((unanswered s && talks e) || (closed s e || second s e)))

-- the numbers that stand in the table
pub record RowTests (s : State) (e : Event) (n : ℕ) : Type 0 where
  pub is_0 : eqb n 0 ≡ goes s e
  pub not_13 : eqb n 13 ≡ false
  pub is_30 : eqb n 30 ≡ (unanswered s && talks e)
  pub is_31 : eqb n 31 ≡ false
  pub is_32 : eqb n 32 ≡ closed s e
  pub is_33 : eqb n 33 ≡ second s e

own_0 : (why : Fault) → eqb (fault_number why) 0 ≡ false
own_0 why = ne_eqb _ _ (fault_pos why)

own_13 : (why : Fault) → eqb (fault_number why) 13 ≡ false
own_13 why = not_reading why 13 (omega arith)

own_30 : (why : Fault) → eqb (fault_number why) 30 ≡ false
own_30 why = not_reading why 30 (omega arith)

own_31 : (why : Fault) → eqb (fault_number why) 31 ≡ false
own_31 why = not_reading why 31 (omega arith)

own_32 : (why : Fault) → eqb (fault_number why) 32 ≡ false
own_32 why = not_reading why 32 (omega arith)

own_33 : (why : Fault) → eqb (fault_number why) 33 ≡ false
own_33 why = not_reading why 33 (omega arith)

row_tests : (s : State) (e : Event) (dead due : Bool) → RowTests s e (number_in (resolved dead due (row_of s e)))
row_tests new Begin dead due = record { is_0 = refl; not_13 = refl; is_30 = refl; is_31 = refl; is_32 = refl; is_33 = refl }
row_tests new Time dead due = record { is_0 = refl; not_13 = refl; is_30 = refl; is_31 = refl; is_32 = refl; is_33 = refl }
row_tests new Leave dead due = record { is_0 = refl; not_13 = refl; is_30 = refl; is_31 = refl; is_32 = refl; is_33 = refl }
row_tests new Ask dead due = record { is_0 = refl; not_13 = refl; is_30 = refl; is_31 = refl; is_32 = refl; is_33 = refl }
row_tests new (Logon number heart) dead due = record { is_0 = refl; not_13 = refl; is_30 = refl; is_31 = refl; is_32 = refl; is_33 = refl }
row_tests new (Logout number) dead due = record { is_0 = refl; not_13 = refl; is_30 = refl; is_31 = refl; is_32 = refl; is_33 = refl }
row_tests new (Other number) dead due = record { is_0 = refl; not_13 = refl; is_30 = refl; is_31 = refl; is_32 = refl; is_33 = refl }
row_tests new (Faulty why) dead due = record { is_0 = own_0 why; not_13 = own_13 why; is_30 = own_30 why; is_31 = own_31 why; is_32 = own_32 why; is_33 = own_33 why }
row_tests waiting Begin dead due = record { is_0 = refl; not_13 = refl; is_30 = refl; is_31 = refl; is_32 = refl; is_33 = refl }
row_tests waiting Time dead due = record { is_0 = refl; not_13 = refl; is_30 = refl; is_31 = refl; is_32 = refl; is_33 = refl }
row_tests waiting Leave dead due = record { is_0 = refl; not_13 = refl; is_30 = refl; is_31 = refl; is_32 = refl; is_33 = refl }
row_tests waiting Ask dead due = record { is_0 = refl; not_13 = refl; is_30 = refl; is_31 = refl; is_32 = refl; is_33 = refl }
row_tests waiting (Logon number heart) dead due = record { is_0 = refl; not_13 = refl; is_30 = refl; is_31 = refl; is_32 = refl; is_33 = refl }
row_tests waiting (Logout number) dead due = record { is_0 = refl; not_13 = refl; is_30 = refl; is_31 = refl; is_32 = refl; is_33 = refl }
row_tests waiting (Other number) dead due = record { is_0 = refl; not_13 = refl; is_30 = refl; is_31 = refl; is_32 = refl; is_33 = refl }
row_tests waiting (Faulty why) dead due = record { is_0 = own_0 why; not_13 = own_13 why; is_30 = own_30 why; is_31 = own_31 why; is_32 = own_32 why; is_33 = own_33 why }
row_tests active Begin dead due = record { is_0 = refl; not_13 = refl; is_30 = refl; is_31 = refl; is_32 = refl; is_33 = refl }
row_tests active Time true due = record { is_0 = refl; not_13 = refl; is_30 = refl; is_31 = refl; is_32 = refl; is_33 = refl }
row_tests active Time false true = record { is_0 = refl; not_13 = refl; is_30 = refl; is_31 = refl; is_32 = refl; is_33 = refl }
row_tests active Time false false = record { is_0 = refl; not_13 = refl; is_30 = refl; is_31 = refl; is_32 = refl; is_33 = refl }
row_tests active Leave dead due = record { is_0 = refl; not_13 = refl; is_30 = refl; is_31 = refl; is_32 = refl; is_33 = refl }
row_tests active Ask dead due = record { is_0 = refl; not_13 = refl; is_30 = refl; is_31 = refl; is_32 = refl; is_33 = refl }
row_tests active (Logon number heart) dead due = record { is_0 = refl; not_13 = refl; is_30 = refl; is_31 = refl; is_32 = refl; is_33 = refl }
row_tests active (Logout number) dead due = record { is_0 = refl; not_13 = refl; is_30 = refl; is_31 = refl; is_32 = refl; is_33 = refl }
row_tests active (Other number) dead due = record { is_0 = refl; not_13 = refl; is_30 = refl; is_31 = refl; is_32 = refl; is_33 = refl }
row_tests active (Faulty why) dead due = record { is_0 = own_0 why; not_13 = own_13 why; is_30 = own_30 why; is_31 = own_31 why; is_32 = own_32 why; is_33 = own_33 why }
row_tests leaving Begin dead due = record { is_0 = refl; not_13 = refl; is_30 = refl; is_31 = refl; is_32 = refl; is_33 = refl }
row_tests leaving Time true due = record { is_0 = refl; not_13 = refl; is_30 = refl; is_31 = refl; is_32 = refl; is_33 = refl }
row_tests leaving Time false due = record { is_0 = refl; not_13 = refl; is_30 = refl; is_31 = refl; is_32 = refl; is_33 = refl }
row_tests leaving Leave dead due = record { is_0 = refl; not_13 = refl; is_30 = refl; is_31 = refl; is_32 = refl; is_33 = refl }
row_tests leaving Ask dead due = record { is_0 = refl; not_13 = refl; is_30 = refl; is_31 = refl; is_32 = refl; is_33 = refl }
row_tests leaving (Logon number heart) dead due = record { is_0 = refl; not_13 = refl; is_30 = refl; is_31 = refl; is_32 = refl; is_33 = refl }
row_tests leaving (Logout number) dead due = record { is_0 = refl; not_13 = refl; is_30 = refl; is_31 = refl; is_32 = refl; is_33 = refl }
row_tests leaving (Other number) dead due = record { is_0 = refl; not_13 = refl; is_30 = refl; is_31 = refl; is_32 = refl; is_33 = refl }
row_tests leaving (Faulty why) dead due = record { is_0 = own_0 why; not_13 = own_13 why; is_30 = own_30 why; is_31 = own_31 why; is_32 = own_32 why; is_33 = own_33 why }
row_tests over Begin dead due = record { is_0 = refl; not_13 = refl; is_30 = refl; is_31 = refl; is_32 = refl; is_33 = refl }
row_tests over Time dead due = record { is_0 = refl; not_13 = refl; is_30 = refl; is_31 = refl; is_32 = refl; is_33 = refl }
row_tests over Leave dead due = record { is_0 = refl; not_13 = refl; is_30 = refl; is_31 = refl; is_32 = refl; is_33 = refl }
row_tests over Ask dead due = record { is_0 = refl; not_13 = refl; is_30 = refl; is_31 = refl; is_32 = refl; is_33 = refl }
row_tests over (Logon number heart) dead due = record { is_0 = refl; not_13 = refl; is_30 = refl; is_31 = refl; is_32 = refl; is_33 = refl }
row_tests over (Logout number) dead due = record { is_0 = refl; not_13 = refl; is_30 = refl; is_31 = refl; is_32 = refl; is_33 = refl }
row_tests over (Other number) dead due = record { is_0 = refl; not_13 = refl; is_30 = refl; is_31 = refl; is_32 = refl; is_33 = refl }
row_tests over (Faulty why) dead due = record { is_0 = own_0 why; not_13 = own_13 why; is_30 = own_30 why; is_31 = own_31 why; is_32 = own_32 why; is_33 = own_33 why }

cell_tests : (l : Line) (t : ℕ) (e : Event) → RowTests l.state e (number_in (cell_of l t e))
unfolding cell_of
cell_tests l t e = row_tests l.state e (dead_at l t) (due_at l t)

-- ======== A row of checks

abbrev chain : Bool → Bool → Bool → ℕ → ℕ
chain b w d n = pick b 30 (pick w 31 (pick d 32 n))

no_13 : (b w d : Bool) (n : ℕ) → eqb n 13 ≡ false → chain b w d n ≡ 13 → ⊥
no_13 true w d n t e = omega arith
no_13 false true d n t e = omega arith
no_13 false false true n t e = omega arith
no_13 false false false n t e = clash (eq-eqb n 13 e) t

to_0 : (b w d : Bool) (n : ℕ) → chain b w d n ≡ 0 → (b ≡ false) × ((w ≡ false) × ((d ≡ false) × (n ≡ 0)))
to_0 true w d n e = absurd (omega arith)
to_0 false true d n e = absurd (omega arith)
to_0 false false true n e = absurd (omega arith)
to_0 false false false n e = (refl, (refl, (refl, e)))

to_30 : (b w d : Bool) (n : ℕ) → eqb n 30 ≡ b → chain b w d n ≡ 30 → b ≡ true
to_30 true w d n t e = refl
to_30 false true d n t e = absurd (omega arith)
to_30 false false true n t e = absurd (omega arith)
to_30 false false false n t e = absurd (clash (eq-eqb n 30 e) t)

to_31 : (b w d : Bool) (n : ℕ) → eqb n 31 ≡ false → chain b w d n ≡ 31 → (b ≡ false) × (w ≡ true)
to_31 true w d n t e = absurd (omega arith)
to_31 false true d n t e = (refl, refl)
to_31 false false true n t e = absurd (omega arith)
to_31 false false false n t e = absurd (clash (eq-eqb n 31 e) t)

to_32 : (b w d c : Bool) (n : ℕ) → eqb n 32 ≡ c → chain b w d n ≡ 32 → (b ≡ false) × ((w ≡ false) × (d || c ≡ true))
to_32 true w d c n t e = absurd (omega arith)
to_32 false true d c n t e = absurd (omega arith)
to_32 false false true c n t e = (refl, (refl, refl))
to_32 false false false c n t e = (refl, (refl, sym t ∙ eq-eqb n 32 e))

to_33 : (b w d c : Bool) (n : ℕ) → eqb n 33 ≡ c → chain b w d n ≡ 33 → (b ≡ false) × ((w ≡ false) × ((d ≡ false) × (c ≡ true)))
to_33 true w d c n t e = absurd (omega arith)
to_33 false true d c n t e = absurd (omega arith)
to_33 false false true c n t e = absurd (omega arith)
to_33 false false false c n t e = (refl, (refl, (refl, sym t ∙ eq-eqb n 33 e)))

of_32 : (d c : Bool) (n : ℕ) → eqb n 32 ≡ c → d || c ≡ true → pick d 32 n ≡ 32
of_32 true c n t h = refl
of_32 false c n t h = eqb-true n 32 (t ∙ h)

-- ======== The number of a call

ordered_chain : (b w d : Bool) (n : ℕ) → eqb n 30 ≡ b → ordered w d n ≡ chain b w d n
ordered_chain b w d n q = rw q

own_chain : (l : Line) (t : ℕ) (e : Event) (cell : Cell) (b : Bool) → eqb (number_in cell) 30 ≡ b
    → own_number l t e cell ≡ chain b (misnumbered l e) (gone l t e || spent l e (kind_in cell)) (number_in cell)
unfolding own_number
own_chain l t e cell b p = ordered_chain b (misnumbered l e) (gone l t e || spent l e (kind_in cell)) (number_in cell) p

from_0 : (b w d : Bool) (n : ℕ) → b ≡ false → w ≡ false → d ≡ false → n ≡ 0 → chain b w d n ≡ 0
from_0 b w d n p q r z = rw (p, q, r, z)

from_31 : (b w d : Bool) (n : ℕ) → b ≡ false → w ≡ true → chain b w d n ≡ 31
from_31 b w d n p q = rw (p, q)

from_32 : (b w d c : Bool) (n : ℕ) → b ≡ false → w ≡ false → eqb n 32 ≡ c → d || c ≡ true → chain b w d n ≡ 32
from_32 b w d c n p q t h = rw (p, q) (of_32 d c n t h)

from_33 : (b w d c : Bool) (n : ℕ) → b ≡ false → w ≡ false → d ≡ false → eqb n 33 ≡ c → c ≡ true → chain b w d n ≡ 33
from_33 b w d c n p q r t h = rw (p, q, r) (eqb-true n 33 (t ∙ h))

-- no row refuses: each of its reasons fails
none_of : (f a c d : Bool) → not (f || (a || (c || d))) ≡ true → (f ≡ false) × ((c ≡ false) × (d ≡ false))
none_of true a c d h = absurd (clash h refl)
none_of false true c d h = absurd (clash h refl)
none_of false false true d h = absurd (clash h refl)
none_of false false false true h = absurd (clash h refl)
none_of false false false false h = (refl, (refl, refl))

all_fail : (f a c d : Bool) → f ≡ false → a ≡ false → c ≡ false → d ≡ false → not (f || (a || (c || d))) ≡ true
all_fail f a c d p q r t = rw (p, q, r, t)

module _ (l : Line) (now : ℕ) (e : Event) where
  abbrev cell_number : ℕ
  cell_number = number_in (cell_of l (clock_of l now) e)

  tests : RowTests l.state e cell_number
  tests = cell_tests l (clock_of l now) e

  told : Rules l → (answer_to l now e).number ≡ chain (early l e) (misnumbered l e) (halts l now e) cell_number
  told r = number_is l now e ∙ number_sound l now e (rules_test l r) ∙ own_chain l (clock_of l now) e (cell_of l (clock_of l now) e) (early l e) tests.is_30

  broken : sound_of l ≡ false → (answer_to l now e).number ≡ 13
  unfolding number_to
  broken s = number_is l now e ∙ rw s

  rules_of : (m : ℕ) → (13 ≡ m → ⊥) → (answer_to l now e).number ≡ m → Rules l
  rules_of m p h = ⊎_elim (λ t. rules l t) (λ f. absurd (p (sym (broken f) ∙ h))) (two (sound_of l))

  right : misnumbered l e ≡ false → WrongNumber l e → ⊥
  right f w = clash (wrong_test l e w) f

  not_wrong : (WrongNumber l e → ⊥) → misnumbered l e ≡ false
  not_wrong p = fails (misnumbered l e) (wrong_fact l e) p

  going_on : halts l now e ≡ false → Stopped l now e → ⊥
  going_on f s = clash (stopped_test l now e s) f

  not_halted : (Stopped l now e → ⊥) → halts l now e ≡ false
  not_halted p = fails (halts l now e) (stopped_fact l now e) p

  -- 13 comes before all others: exactly where the state rules are broken
  pub given_13 : ((answer_to l now e).number ≡ 13) ↔ (Rules l → ⊥)
  given_13 = (
    λ h r. no_13 (early l e) (misnumbered l e) (halts l now e) cell_number tests.not_13 (sym (told r) ∙ h),
    λ p. broken (fails (sound_of l) (rules l) p),
  )

  -- a call is answered 0 exactly where no refusal is given
  pub given_0 : ((answer_to l now e).number ≡ 0) ↔ Given0 l now e
  given_0 = (
    λ h. let r = rules_of 0 (λ q. omega arith) h in
        let q = to_0 (early l e) (misnumbered l e) (halts l now e) cell_number (sym (told r) ∙ h) in
        let n = none_of (is_faulty e) (early l e) (closed l.state e) (second l.state e) (sym tests.is_0 ∙ eq-eqb _ _ q.1.1.1) in
        record { rules = r; is_read = n.0; not_early = q.0; in_order = right q.1.0; going = going_on q.1.1.0; not_closed = n.1.0; first = n.1.1 },
    λ g. told g.rules ∙ from_0 (early l e) (misnumbered l e) (halts l now e) cell_number g.not_early (not_wrong g.in_order) (not_halted g.going)
        (eqb-true _ _ (tests.is_0 ∙ all_fail (is_faulty e) (early l e) (closed l.state e) (second l.state e) g.is_read g.not_early g.not_closed g.first)),
  )

  from_early : early l e ≡ true → chain (early l e) (misnumbered l e) (halts l now e) cell_number ≡ 30
  from_early p = rw p

  -- anything but logon or logout before the logon answer
  pub given_30 : ((answer_to l now e).number ≡ 30) ↔ Given30 l now e
  given_30 = (
    λ h. let r = rules_of 30 (λ q. omega arith) h in
        record { rules = r; too_early = to_30 (early l e) (misnumbered l e) (halts l now e) cell_number tests.is_30 (sym (told r) ∙ h) },
    λ g. told g.rules ∙ from_early g.too_early,
  )

  -- MsgSeqNum is not the expected one
  pub given_31 : ((answer_to l now e).number ≡ 31) ↔ Given31 l now e
  given_31 = (
    λ h. let r = rules_of 31 (λ q. omega arith) h in
        let q = to_31 (early l e) (misnumbered l e) (halts l now e) cell_number tests.is_31 (sym (told r) ∙ h) in
        record { rules = r; not_early = q.0; wrong_number = wrong_fact l e q.1 },
    λ g. told g.rules ∙ from_31 (early l e) (misnumbered l e) (halts l now e) cell_number g.not_early (wrong_test l e g.wrong_number),
  )

  ended : halts l now e || closed l.state e ≡ true → Stopped l now e ⊎ (closed l.state e ≡ true)
  ended h = ⊎_elim (λ a. inl (stopped_fact l now e a)) (λ b. inr b) (or_cases (halts l now e) (closed l.state e) h)

  at_end : Stopped l now e ⊎ (closed l.state e ≡ true) → halts l now e || closed l.state e ≡ true
  at_end h = ⊎_elim (λ a. or_left (halts l now e) (closed l.state e) (stopped_test l now e a)) (λ b. or_right (halts l now e) (closed l.state e) b) h

  -- session over, or a counter at its last number
  pub given_32 : ((answer_to l now e).number ≡ 32) ↔ Given32 l now e
  given_32 = (
    λ h. let r = rules_of 32 (λ q. omega arith) h in
        let q = to_32 (early l e) (misnumbered l e) (halts l now e) (closed l.state e) cell_number tests.is_32 (sym (told r) ∙ h) in
        record { rules = r; not_early = q.0; in_order = right q.1.0; at_end = ended q.1.1 },
    λ g. told g.rules ∙ from_32 (early l e) (misnumbered l e) (halts l now e) (closed l.state e) cell_number g.not_early (not_wrong g.in_order) tests.is_32 (at_end g.at_end),
  )

  -- a second logon
  pub given_33 : ((answer_to l now e).number ≡ 33) ↔ Given33 l now e
  given_33 = (
    λ h. let r = rules_of 33 (λ q. omega arith) h in
        let q = to_33 (early l e) (misnumbered l e) (halts l now e) (second l.state e) cell_number tests.is_33 (sym (told r) ∙ h) in
        record { rules = r; not_early = q.0; in_order = right q.1.0; going = going_on q.1.1.0; again = q.1.1.1 },
    λ g. told g.rules ∙ from_33 (early l e) (misnumbered l e) (halts l now e) (second l.state e) cell_number g.not_early (not_wrong g.in_order) (not_halted g.going) tests.is_33 g.again,
  )

-- reading's own refusal comes first, in every state and on a dead line too
own_fault : (l : Line) (t : ℕ) (why : Fault) (cell : Cell) → cell ≡ refuse (fault_number why) → own_number l t (Faulty why) cell ≡ fault_number why
unfolding own_number
own_fault l t why cell p = rw (p, own_30 why)

fault_row : (s : State) (why : Fault) (dead due : Bool) → resolved dead due (row_of s (Faulty why)) ≡ refuse (fault_number why)
fault_row new why dead due = refl
fault_row waiting why dead due = refl
fault_row active why dead due = refl
fault_row leaving why dead due = refl
fault_row over why dead due = refl

fault_cell : (l : Line) (t : ℕ) (why : Fault) → cell_of l t (Faulty why) ≡ refuse (fault_number why)
unfolding cell_of
fault_cell l t why = fault_row l.state why (dead_at l t) (due_at l t)

pub own_first : (l : Line) (now : ℕ) (why : Fault) → sound_of l ≡ true → number_to l now (Faulty why) ≡ fault_number why
own_first l now why s = number_sound l now (Faulty why) s ∙ own_fault l (clock_of l now) why _ (fault_cell l (clock_of l now) why)
