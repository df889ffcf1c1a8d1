-- What reading the bytes finds tells their event and their length; a number that reading gives is
-- the session's answer. Assumes nothing.
use mathlib.Core.Path.{◌≡◌, refl, sym, ap, ◌∙◌}
use mathlib.Core.Bool.{true}
use mathlib.Core.List.{List, [], ◌∷◌}
use Prim.Native.Nat.{ℕ, zero, suc, ◌+◌, ◌≤◌}
use native.Mathlib.Omega.{arith}
use borrow.Author.Tests.{eq-eqb, ne_eqb}
use lib.ListN.{get_or}
use Rattle.std.specs.Prelude.{Some, None}
use Rattle.terms.specs.Paper.{Paper, answer, refusal, one_number}
use Rattle.terms.specs.Refusals.{number_of, refusal_pos}
use Rattle.terms.specs.declared.Refusal.{Refusal}
use Rattle.rules.specs.Table.{kind_of}
use Rattle.rules.specs.declared.Kind.{Kind}
use Rattle.frame_spec.specs.Frame.{msg_type, msg_seq_num, body_length, read_of}
use Rattle.frame_spec.specs.Outcomes.{read_done, read_values, read_length}
use Rattle.frame_spec.specs.Given.{Reads}
use Rattle.frame_spec.specs.GivenRead.{read_given}
use Rattle.session_spec.specs.Faults.{Fault, fault_numbered}
use Rattle.session_spec.specs.Table.{Event, Faulty}
use Rattle.session_spec.specs.Calls.{Line, sound_of, number_to}
use Rattle.session_spec.proofs.Faults.{numbered_back}
use Rattle.session_spec.proofs.Given.{own_first}
use Rattle.session.specs.Arrivals.{by_kind, heart_bt_int, event_in, length_if}

faulty_event : (s : List ℕ) → ((read_of s).number ≡ 0 → ⊥) → event_in s ≡ Faulty (fault_numbered (read_of s).number)
unfolding event_in
faulty_event s p = rw (ne_eqb (read_of s).number 0 p)

no_length : (s : List ℕ) → ((read_of s).number ≡ 0 → ⊥) → length_if s ≡ None
no_length s p = rw (ne_eqb (read_of s).number 0 p)

pub refused_told : (s : List ℕ) (w : Refusal) (f : Fault) → refusal (number_of w) ≡ read_of s → f ≡ fault_numbered (number_of w)
    → (Faulty f ≡ event_in s) × (None ≡ length_if s)
refused_told s w f e q =
    let n : (read_of s).number ≡ number_of w = sym (one_number e) in
    let p : ((read_of s).number ≡ 0 → ⊥) = λ z. refusal_pos w (sym n ∙ z) in
    (ap Faulty (q ∙ ap fault_numbered (sym n)) ∙ sym (faulty_event s p), sym (no_length s p))

frame_event : (s : List ℕ) → (read_of s).number ≡ 0 → event_in s ≡ by_kind (kind_of (msg_type s)) (msg_seq_num s) (heart_bt_int s)
unfolding event_in
frame_event s z = rw (eq-eqb (read_of s).number 0 z)

frame_length : (s : List ℕ) → (read_of s).number ≡ 0 → length_if s ≡ Some (28 + body_length s)
frame_length s z = rw (eq-eqb (read_of s).number 0 z)

pub read_told_lem : (s : List ℕ) (t time q n : ℕ) (k : Kind) → answer 0 (t ∷ time ∷ q ∷ n ∷ []) ≡ read_of s → k ≡ kind_of t
    → (by_kind k q (heart_bt_int s) ≡ event_in s) × (Some (28 + n) ≡ length_if s)
read_told_lem s t time q n k e f =
    let values = ap (λ (p : Paper). p.values) (read_values s t time q n e) in
    let is_type : t ≡ msg_type s = ap (λ (vs : List ℕ). get_or vs 0 0) values in
    let is_seq : q ≡ msg_seq_num s = ap (λ (vs : List ℕ). get_or vs 2 0) values in
    let z = read_done s t time q n e in
    (rw (f, is_type, is_seq) (sym (frame_event s z)), ap (λ (m : ℕ). Some (28 + m)) (read_length s t time q n e) ∙ sym (frame_length s z))

-- reading gives no number above 7
at_most_7 : (n : ℕ) (s : List ℕ) → Reads n s → n ≤ 7
at_most_7 zero s h = omega arith
at_most_7 (suc zero) s h = omega arith
at_most_7 (suc (suc zero)) s h = omega arith
at_most_7 (suc (suc (suc zero))) s h = omega arith
at_most_7 (suc (suc (suc (suc zero)))) s h = omega arith
at_most_7 (suc (suc (suc (suc (suc zero))))) s h = omega arith
at_most_7 (suc (suc (suc (suc (suc (suc zero)))))) s h = omega arith
at_most_7 (suc (suc (suc (suc (suc (suc (suc zero))))))) s h = omega arith
at_most_7 (suc (suc (suc (suc (suc (suc (suc (suc n)))))))) s h = absurd h

above_0 : (n : ℕ) → (n ≡ 0 → ⊥) → 1 ≤ n
above_0 zero p = absurd (p refl)
above_0 (suc n) p = omega arith

-- bytes that reading refuses are answered reading's own number, whatever the state
pub received_own : (l : Line) (now : ℕ) (s : List ℕ) → sound_of l ≡ true → ((read_of s).number ≡ 0 → ⊥) → number_to l now (event_in s) ≡ (read_of s).number
received_own l now s k p =
    let n = (read_of s).number in
    ap (λ (e : Event). number_to l now e) (faulty_event s p) ∙ own_first l now (fault_numbered n) k
    ∙ numbered_back n (above_0 n p) (at_most_7 n s ((read_given n s).0 refl))
