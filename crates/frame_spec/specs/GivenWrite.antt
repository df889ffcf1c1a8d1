-- given-0, 2, 3, 4, 6, 7 and 8 of writing, as GivenRead.antt has reading's.
use Rattle.std.specs.Prelude.{ℕ, zero, suc, ◌+◌, ◌<◌, ◌≤◌, ◌≡◌, true, ◌↔◌, length}
use Rattle.std.proofs.Common.{◌∙◌, arith}
use Rattle.terms.specs.Paper.{Paper, one_number}
use Rattle.calendar.specs.Calendar.{RealTime, real_time}
use Rattle.calendar.proofs.Times.{time_says}
use Rattle.rules.specs.declared.Kind.{Kind}
use Rattle.rules.specs.Table.{kind_of, known}
use Rattle.rules.specs.Rules.{LengthRule, FieldRules}
use Rattle.rules.specs.Outcomes.{measure_type, measure_long, measure_length, measure_fine, Measured, m_type, m_long, m_length, m_fine, measured, Judged, j_time, j_field, j_fine}
use Rattle.rules.proofs.Outcomes.{judge_time, judge_field, judge_fine, judged}
use Rattle.rules.specs.Meaning.{length_says, type_is, type_known, type_says, rowed, denied, unsaid}
use Rattle.rules.proofs.Meaning.{fields_say}
use Rattle.frame_spec.specs.Measures.{fits}
use Rattle.frame_spec.specs.Write.{Message, write_of}
use Rattle.frame_spec.specs.WriteLaws.{measure_in, judgement_in, Sound, Writing, w_measured, w_judged, w_room, w_done, writing, write_measured, write_judged, write_room, write_done}
use Rattle.frame_spec.specs.Given.{WTyped, WShort, WSuited, WTimed, WMeets, Writes0, Writes2, Writes3, Writes4, Writes6, Writes7, Writes8, Writes}

-- FROM THE CONDITION TO THE NUMBER

module _ (k : Kind) (m : Message) (room : ℕ) where
  kind : WTyped k m → kind_of m.type ≡ k
  kind t = type_is k m.type t.type

  is : WTyped k m → known (kind_of m.type) ≡ true
  is t = rw (kind t) (type_known k m.type t.type)

  fine : WSuited k m → measure_in m ≡ 0
  fine u = measure_fine _ _ (is u.before.before) u.before.short (rw (kind u.before.before) ((length_says k (length m.content)).1 u.suits))

  judged_fine : WMeets k m → judgement_in m ≡ 0
  judged_fine t = judge_fine _ _ _ ((time_says m.time).1 t.before.time) (rw (kind t.before.before.before.before) ((fields_say k m.content).1 t.fields))

  from_3 : WTyped k m → 8164 < length m.content → (write_of m room).number ≡ 3
  from_3 t l = one_number (write_measured m room 3 (measure_long _ _ (is t) l) (λ e. omega arith))

  from_4 : WShort k m → (LengthRule k (length m.content) → ⊥) → (write_of m room).number ≡ 4
  from_4 t n =
      one_number
      (write_measured m room 4
      (measure_length _ _ (is t.before) t.short (rw (kind t.before) (denied (length_says k (length m.content)) n)))
      (λ e. omega arith))

  from_7 : WSuited k m → (RealTime m.time → ⊥) → (write_of m room).number ≡ 7
  from_7 t n = one_number (write_judged m room (fine t) 7 (judge_time _ _ _ (denied (time_says m.time) n)) (λ e. omega arith))

  from_6 : WTimed k m → (FieldRules k m.content → ⊥) → (write_of m room).number ≡ 6
  from_6 t n =
      one_number
      (write_judged m room (fine t.before) 6
      (judge_field _ _ _ ((time_says m.time).1 t.time) (rw (kind t.before.before.before) (denied (fields_say k m.content) n)))
      (λ e. omega arith))

  from_8 : WMeets k m → room < 24 + length m.content + 4 → (write_of m room).number ≡ 8
  from_8 t l = one_number (write_room m room (fine t.before.before) (judged_fine t) (omega arith))

  from_0 : WMeets k m → 24 + length m.content + 4 ≤ room → (write_of m room).number ≡ 0
  from_0 t l = one_number (write_done m room (fine t.before.before) (judged_fine t) (omega arith))

from_any : (n : ℕ) (m : Message) (room : ℕ) → Writes n m room → (write_of m room).number ≡ n
from_any zero m room h = from_0 h.0 m room h.1.0 h.1.1
from_any (suc zero) m room h = absurd h
from_any (suc (suc zero)) m room h =
    one_number (write_measured m room 2 (measure_type _ _ (denied (type_says m.type) (λ q. h q.0 q.1))) (λ e. omega arith))
from_any (suc (suc (suc zero))) m room h = from_3 h.0 m room h.1.0 h.1.1
from_any (suc (suc (suc (suc zero)))) m room h = from_4 h.0 m room h.1.0 h.1.1
from_any (suc (suc (suc (suc (suc zero))))) m room h = absurd h
from_any (suc (suc (suc (suc (suc (suc zero)))))) m room h = from_6 h.0 m room h.1.0 h.1.1
from_any (suc (suc (suc (suc (suc (suc (suc zero))))))) m room h = from_7 h.0 m room h.1.0 h.1.1
from_any (suc (suc (suc (suc (suc (suc (suc (suc zero)))))))) m room h = from_8 h.0 m room h.1.0 h.1.1
from_any (suc (suc (suc (suc (suc (suc (suc (suc (suc n))))))))) m room h = absurd h

-- FROM THE NUMBER TO THE CONDITION

module _ (m : Message) where
  typed : known (kind_of m.type) ≡ true → WTyped (kind_of m.type) m
  typed i = record { type = rowed m.type i }

  short : known (kind_of m.type) ≡ true → length m.content ≤ 8164 → WShort (kind_of m.type) m
  short i l = record { before = typed i; short = l }

  suited : measure_in m ≡ 0 → WSuited (kind_of m.type) m
  suited e = let f = fits _ _ e in record { before = short f.is f.small; suits = (length_says _ _).0 f.suit }

timed : (m : Message) → measure_in m ≡ 0 → real_time m.time ≡ true → WTimed (kind_of m.type) m
timed m e r = record { before = suited m e; time = (time_says _).0 r }

met : (m : Message) (x : ℕ) → measure_in m ≡ 0 → Judged (kind_of m.type) m.time m.content x → x ≡ 0 → WMeets (kind_of m.type) m
met m x g (j_time e r) z = absurd (omega arith)
met m x g (j_field e r f) z = absurd (omega arith)
met m x g (j_fine e r f) z = record { before = timed m g r; fields = (fields_say _ _).0 f }

meets : (m : Message) → Sound m → WMeets (kind_of m.type) m
meets m s = met m (judgement_in m) s.measured (judged _ _ _) s.fine

told_measure : (m : Message) (room n x : ℕ) → Measured (kind_of m.type) (length m.content) x → n ≡ x → (x ≡ 0 → ⊥) → Writes n m room
told_measure m room n x (m_type e a) p ne = rw (p ∙ e) (λ k t. unsaid (type_says m.type) a (k, t))
told_measure m room n x (m_long e a b) p ne = rw (p ∙ e) (kind_of m.type, (typed m a, b))
told_measure m room n x (m_length e a b c) p ne = rw (p ∙ e) (kind_of m.type, (short m a b, unsaid (length_says _ _) c))
told_measure m room n x (m_fine e a b c) p ne = absurd (ne e)

told_judged : (m : Message) (room n x : ℕ) → measure_in m ≡ 0 → Judged (kind_of m.type) m.time m.content x → n ≡ x → (x ≡ 0 → ⊥) → Writes n m room
told_judged m room n x g (j_time e r) p ne = rw (p ∙ e) (kind_of m.type, (suited m g, unsaid (time_says _) r))
told_judged m room n x g (j_field e r f) p ne = rw (p ∙ e) (kind_of m.type, (timed m g r, unsaid (fields_say _ _) f))
told_judged m room n x g (j_fine e r f) p ne = absurd (ne e)

told_of : (m : Message) (room : ℕ) (p : Paper) → Writing m room p → Writes p.number m room
told_of m room p (w_measured e n) = told_measure m room _ (measure_in m) (measured _ _) (one_number e) n
told_of m room p (w_judged e g n) = told_judged m room _ (judgement_in m) g (judged _ _ _) (one_number e) n
told_of m room p (w_room e s l) = rw (one_number e) (kind_of m.type, (meets m s, omega arith))
told_of m room p (w_done e f) = rw (one_number e) (kind_of m.type, (meets m f.sound, omega (arith, f.there)))

-- WRITING ANSWERS A NUMBER EXACTLY WHEN ITS CONDITION HOLDS, for every number, message and room
pub write_given : (n : ℕ) (m : Message) (room : ℕ) → ((write_of m room).number ≡ n) ↔ Writes n m room
write_given n m room = (λ (e : (write_of m room).number ≡ n). rw e at (told_of m room (write_of m room) (writing m room)), from_any n m room)

pub write_given_0 : (m : Message) (room : ℕ) → ((write_of m room).number ≡ 0) ↔ Writes0 m room
write_given_0 = write_given 0

pub write_given_2 : (m : Message) (room : ℕ) → ((write_of m room).number ≡ 2) ↔ Writes2 m room
write_given_2 = write_given 2

pub write_given_3 : (m : Message) (room : ℕ) → ((write_of m room).number ≡ 3) ↔ Writes3 m room
write_given_3 = write_given 3

pub write_given_4 : (m : Message) (room : ℕ) → ((write_of m room).number ≡ 4) ↔ Writes4 m room
write_given_4 = write_given 4

pub write_given_6 : (m : Message) (room : ℕ) → ((write_of m room).number ≡ 6) ↔ Writes6 m room
write_given_6 = write_given 6

pub write_given_7 : (m : Message) (room : ℕ) → ((write_of m room).number ≡ 7) ↔ Writes7 m room
write_given_7 = write_given 7

pub write_given_8 : (m : Message) (room : ℕ) → ((write_of m room).number ≡ 8) ↔ Writes8 m room
write_given_8 = write_given 8
