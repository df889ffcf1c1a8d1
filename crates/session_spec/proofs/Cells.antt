-- What a cell of the table does to the state and to the counters: cell by cell. Assumes nothing.
use mathlib.Core.Path.{◌≡◌, refl}
use mathlib.Core.Bool.{Bool, true, false, ◌&&◌, ◌||◌}
use Prim.Native.Nat.{ℕ, ◌+◌, ◌≤◌}
use native.Mathlib.Omega.{arith}
use borrow.Author.Tests.{eqb-true, leb-true, eq-eqb, le-leb}
use Rattle.terms.specs.Paper.{pick}
use Rattle.terms.specs.RuledOut.{split}
use Rattle.session_spec.specs.Table.{State, new, waiting, active, leaving, over, Event, Begin, Time, Leave, Ask, Logon, Logout, Other, Faulty, row_of, is_frame, sends}
use Rattle.session_spec.specs.Calls.{one, counters_right, resolved, number_in, kind_in, is_death, state_in}
use Rattle.session_spec.specs.Words.{is_logon, is_logout, is_s001, is_s002}
use Rattle.session_spec.specs.Given.{Counters}
use Rattle.session_spec.proofs.Faults.{fault_pos}

-- the stage by what is sent and taken is the state that the cell names
pub stage_step : (s : State) (e : Event) (dead due : Bool) → number_in (resolved dead due (row_of s e)) ≡ 0
    → state_in (resolved dead due (row_of s e)) s
    ≡ pick (is_death (resolved dead due (row_of s e)) || (is_logout e && true)) over
    (pick (is_s002 (kind_in (resolved dead due (row_of s e)))) leaving
    (pick (is_logon e && true) active
    (pick (is_s001 (kind_in (resolved dead due (row_of s e)))) waiting s)))
stage_step new Begin dead due z = refl
stage_step new Time dead due z = refl
stage_step new Leave dead due z = absurd (omega arith)
stage_step new Ask dead due z = absurd (omega arith)
stage_step new (Logon number heart) dead due z = absurd (omega arith)
stage_step new (Logout number) dead due z = refl
stage_step new (Other number) dead due z = absurd (omega arith)
stage_step new (Faulty why) dead due z = absurd (fault_pos why z)
stage_step waiting Begin dead due z = absurd (omega arith)
stage_step waiting Time dead due z = refl
stage_step waiting Leave dead due z = absurd (omega arith)
stage_step waiting Ask dead due z = absurd (omega arith)
stage_step waiting (Logon number heart) dead due z = refl
stage_step waiting (Logout number) dead due z = refl
stage_step waiting (Other number) dead due z = absurd (omega arith)
stage_step waiting (Faulty why) dead due z = absurd (fault_pos why z)
stage_step active Begin dead due z = absurd (omega arith)
stage_step active Time true due z = refl
stage_step active Time false true z = refl
stage_step active Time false false z = refl
stage_step active Leave dead due z = refl
stage_step active Ask dead due z = refl
stage_step active (Logon number heart) dead due z = absurd (omega arith)
stage_step active (Logout number) dead due z = refl
stage_step active (Other number) dead due z = refl
stage_step active (Faulty why) dead due z = absurd (fault_pos why z)
stage_step leaving Begin dead due z = absurd (omega arith)
stage_step leaving Time true due z = refl
stage_step leaving Time false due z = refl
stage_step leaving Leave dead due z = absurd (omega arith)
stage_step leaving Ask dead due z = absurd (omega arith)
stage_step leaving (Logon number heart) dead due z = absurd (omega arith)
stage_step leaving (Logout number) dead due z = refl
stage_step leaving (Other number) dead due z = refl
stage_step leaving (Faulty why) dead due z = absurd (fault_pos why z)
stage_step over Begin dead due z = absurd (omega arith)
stage_step over Time dead due z = refl
stage_step over Leave dead due z = absurd (omega arith)
stage_step over Ask dead due z = absurd (omega arith)
stage_step over (Logon number heart) dead due z = absurd (omega arith)
stage_step over (Logout number) dead due z = absurd (omega arith)
stage_step over (Other number) dead due z = absurd (omega arith)
stage_step over (Faulty why) dead due z = absurd (fault_pos why z)

-- the state rules of the counters, both ways
pub counters_fact : (s : State) (out into : ℕ) → counters_right s out into ≡ true → Counters s out into
counters_fact new out into e = let q = split _ _ e in (eqb-true _ _ q.0, eqb-true _ _ q.1)
counters_fact waiting out into e = let q = split _ _ e in (eqb-true _ _ q.0, eqb-true _ _ q.1)
counters_fact active out into e = let q = split _ _ e in (leb-true _ _ q.0, leb-true _ _ q.1)
counters_fact leaving out into e = let q = split _ _ e in (leb-true _ _ q.0, leb-true _ _ q.1)
counters_fact over out into e = let q = split _ _ e in (leb-true _ _ q.0, leb-true _ _ q.1)

pub counters_test : (s : State) (out into : ℕ) → Counters s out into → counters_right s out into ≡ true
counters_test new out into h = simp (eq-eqb _ _ h.0, eq-eqb _ _ h.1)
counters_test waiting out into h = simp (eq-eqb _ _ h.0, eq-eqb _ _ h.1)
counters_test active out into h = simp (le-leb _ _ h.0, le-leb _ _ h.1)
counters_test leaving out into h = simp (le-leb _ _ h.0, le-leb _ _ h.1)
counters_test over out into h = simp (le-leb _ _ h.0, le-leb _ _ h.1)

pub counters_step : (s : State) (e : Event) (dead due : Bool) (out into : ℕ) → number_in (resolved dead due (row_of s e)) ≡ 0 → Counters s out into
    → Counters (state_in (resolved dead due (row_of s e)) s) (out + one (sends (kind_in (resolved dead due (row_of s e))))) (into + one (is_frame e))
counters_step new Begin dead due out into z h = (omega arith, omega arith)
counters_step new Time dead due out into z h = (omega arith, omega arith)
counters_step new Leave dead due out into z h = absurd (omega arith)
counters_step new Ask dead due out into z h = absurd (omega arith)
counters_step new (Logon number heart) dead due out into z h = absurd (omega arith)
counters_step new (Logout number) dead due out into z h = (omega arith, omega arith)
counters_step new (Other number) dead due out into z h = absurd (omega arith)
counters_step new (Faulty why) dead due out into z h = absurd (fault_pos why z)
counters_step waiting Begin dead due out into z h = absurd (omega arith)
counters_step waiting Time dead due out into z h = (omega arith, omega arith)
counters_step waiting Leave dead due out into z h = absurd (omega arith)
counters_step waiting Ask dead due out into z h = absurd (omega arith)
counters_step waiting (Logon number heart) dead due out into z h = (omega arith, omega arith)
counters_step waiting (Logout number) dead due out into z h = (omega arith, omega arith)
counters_step waiting (Other number) dead due out into z h = absurd (omega arith)
counters_step waiting (Faulty why) dead due out into z h = absurd (fault_pos why z)
counters_step active Begin dead due out into z h = absurd (omega arith)
counters_step active Time true due out into z h = (omega arith, omega arith)
counters_step active Time false true out into z h = (omega arith, omega arith)
counters_step active Time false false out into z h = (omega arith, omega arith)
counters_step active Leave dead due out into z h = (omega arith, omega arith)
counters_step active Ask dead due out into z h = (omega arith, omega arith)
counters_step active (Logon number heart) dead due out into z h = absurd (omega arith)
counters_step active (Logout number) dead due out into z h = (omega arith, omega arith)
counters_step active (Other number) dead due out into z h = (omega arith, omega arith)
counters_step active (Faulty why) dead due out into z h = absurd (fault_pos why z)
counters_step leaving Begin dead due out into z h = absurd (omega arith)
counters_step leaving Time true due out into z h = (omega arith, omega arith)
counters_step leaving Time false due out into z h = (omega arith, omega arith)
counters_step leaving Leave dead due out into z h = absurd (omega arith)
counters_step leaving Ask dead due out into z h = absurd (omega arith)
counters_step leaving (Logon number heart) dead due out into z h = absurd (omega arith)
counters_step leaving (Logout number) dead due out into z h = (omega arith, omega arith)
counters_step leaving (Other number) dead due out into z h = (omega arith, omega arith)
counters_step leaving (Faulty why) dead due out into z h = absurd (fault_pos why z)
counters_step over Begin dead due out into z h = absurd (omega arith)
counters_step over Time dead due out into z h = (omega arith, omega arith)
counters_step over Leave dead due out into z h = absurd (omega arith)
counters_step over Ask dead due out into z h = absurd (omega arith)
counters_step over (Logon number heart) dead due out into z h = absurd (omega arith)
counters_step over (Logout number) dead due out into z h = absurd (omega arith)
counters_step over (Other number) dead due out into z h = absurd (omega arith)
counters_step over (Faulty why) dead due out into z h = absurd (fault_pos why z)
