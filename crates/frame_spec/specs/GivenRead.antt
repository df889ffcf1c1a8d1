-- given-0 to given-7 of reading. For any bytes the condition of the number given holds (`told`),
-- and each condition leads to its number.
use Rattle.std.specs.Prelude.{ℕ, zero, suc, ◌+◌, ◌<◌, ◌≤◌, ◌%◌, ◌≡◌, true, ◌↔◌, List, length, take, drop}
use Rattle.std.proofs.Common.{◌∙◌, inl, inr, arith}
use Rattle.terms.specs.Paper.{Paper, one_number}
use Rattle.octets.specs.Octets.{be, sum_of, sum8}
use Rattle.calendar.specs.Calendar.{RealTime, real_time}
use Rattle.calendar.proofs.Times.{time_says}
use Rattle.rules.specs.declared.Kind.{Kind}
use Rattle.rules.specs.Table.{kind_of, known}
use Rattle.rules.specs.Rules.{LengthRule, FieldRules}
use Rattle.rules.specs.Outcomes.{measure_type, measure_long, measure_length, measure_fine, Measured, m_type, m_long, m_length, m_fine, measured, Judged, j_time, j_field, j_fine}
use Rattle.rules.proofs.Outcomes.{judge_time, judge_field, judge_fine, judged}
use Rattle.rules.specs.Meaning.{length_says, type_is, type_known, type_says, rowed, denied, unsaid}
use Rattle.rules.proofs.Meaning.{fields_say}
use Rattle.frame_spec.specs.Frame.{msg_type, sending_time, body_length, body, plain, check_sum, read_of, Whole}
use Rattle.frame_spec.specs.Measures.{fits}
use Rattle.frame_spec.specs.Outcomes.{measure, judgement, Reading, r_short, r_measure, r_cut, r_sum, r_judged, r_frame, reading, read_short, read_measured, read_cut, read_sum, read_judgement, good_reads}
use Rattle.frame_spec.specs.Given.{Typed, Short, Suited, There, Summed, Timed, Meets, Reads0, Reads1, Reads2, Reads3, Reads4, Reads5, Reads6, Reads7, Reads}

-- FROM THE CONDITION TO THE NUMBER

module _ (k : Kind) (s : List ℕ) where
  kind : Typed k s → kind_of (msg_type s) ≡ k
  kind t = type_is k (msg_type s) t.type

  is : Typed k s → known (kind_of (msg_type s)) ≡ true
  is t = rw (kind t) (type_known k (msg_type s) t.type)

  fine : Suited k s → measure s ≡ 0
  fine u = measure_fine _ _ (is u.before.before) u.before.short (rw (kind u.before.before) ((length_says k (body_length s)).1 u.suits))

  whole : There k s → Whole s
  whole t = record { header = t.before.before.before.before.header; measured = fine t.before; there = omega (arith, t.there) }

  from_3 : Typed k s → 8164 < be 4 20 s → (read_of s).number ≡ 3
  from_3 t l = one_number (read_measured s 3 t.before.header (measure_long _ _ (is t) l) (λ e. omega arith))

  from_4 : Short k s → (LengthRule k (be 4 20 s) → ⊥) → (read_of s).number ≡ 4
  from_4 t n =
      one_number
      (read_measured s 4 t.before.before.header
      (measure_length _ _ (is t.before) t.short (rw (kind t.before) (denied (length_says k (body_length s)) n)))
      (λ e. omega arith))

  from_cut : Suited k s → length s < 24 + be 4 20 s + 4 → (read_of s).number ≡ 1
  from_cut u l = one_number (read_cut s u.before.before.before.header (fine u) (omega arith))

  from_5 : There k s → (be 4 (24 + be 4 20 s) s ≡ sum_of (take (24 + be 4 20 s) s) % 256 → ⊥) → (read_of s).number ≡ 5
  unfolding sum8
  from_5 t n = one_number (read_sum s (whole t) n)

  from_7 : Summed k s → (RealTime (be 8 4 s) → ⊥) → (read_of s).number ≡ 7
  unfolding sum8
  from_7 t n =
      one_number
      (read_judgement s (whole t.before) t.sum 7 (judge_time _ _ _ (denied (time_says (sending_time s)) n)) (λ e. omega arith))

  from_6 : Timed k s → (FieldRules k (take (be 4 20 s) (drop 24 s)) → ⊥) → (read_of s).number ≡ 6
  unfolding sum8
  from_6 t n =
      one_number
      (read_judgement s (whole t.before.before) t.before.sum 6
      (judge_field _ _ _ ((time_says (sending_time s)).1 t.time) (rw (kind t.before.before.before.before.before) (denied (fields_say k (body s)) n)))
      (λ e. omega arith))

  from_0 : Meets k s → (read_of s).number ≡ 0
  unfolding sum8
  from_0 t =
      one_number
      (good_reads s
      (record {
        whole = whole t.before.before.before;
        sum = t.before.before.sum;
        fine = judge_fine _ _ _ ((time_says (sending_time s)).1 t.before.time) (rw (kind t.before.before.before.before.before.before) ((fields_say k (body s)).1 t.fields));
      }))

from_1 : (s : List ℕ) → Reads1 s → (read_of s).number ≡ 1
from_1 s (inl h) = one_number (read_short s h)
from_1 s (inr h) = from_cut h.0 s h.1.0 h.1.1

from_2 : (s : List ℕ) → Reads2 s → (read_of s).number ≡ 2
from_2 s h =
    one_number
    (read_measured s 2 h.0.header (measure_type _ _ (denied (type_says (msg_type s)) (λ q. h.1 q.0 q.1))) (λ e. omega arith))

-- FROM THE NUMBER TO THE CONDITION

module _ (s : List ℕ) (h : 24 ≤ length s) where
  typed : known (kind_of (msg_type s)) ≡ true → Typed (kind_of (msg_type s)) s
  typed i = record { before = record { header = h }; type = rowed (msg_type s) i }

  short : known (kind_of (msg_type s)) ≡ true → body_length s ≤ 8164 → Short (kind_of (msg_type s)) s
  short i l = record { before = typed i; short = l }

  suited : measure s ≡ 0 → Suited (kind_of (msg_type s)) s
  suited m = let f = fits _ _ m in record { before = short f.is f.small; suits = (length_says _ _).0 f.suit }

there : (s : List ℕ) → Whole s → There (kind_of (msg_type s)) s
there s w = record { before = suited s w.header w.measured; there = omega (arith, w.there) }

summed : (s : List ℕ) → Whole s → check_sum s ≡ sum8 (plain s) → Summed (kind_of (msg_type s)) s
unfolding sum8
summed s w e = record { before = there s w; sum = e }

timed : (s : List ℕ) → Whole s → check_sum s ≡ sum8 (plain s) → real_time (sending_time s) ≡ true → Timed (kind_of (msg_type s)) s
timed s w e r = record { before = summed s w e; time = (time_says _).0 r }

told_measure : (s : List ℕ) (n m : ℕ) → 24 ≤ length s → Measured (kind_of (msg_type s)) (body_length s) m → n ≡ m → (m ≡ 0 → ⊥) → Reads n s
told_measure s n m h (m_type e a) p ne = rw (p ∙ e) (record { header = h }, λ k t. unsaid (type_says (msg_type s)) a (k, t))
told_measure s n m h (m_long e a b) p ne = rw (p ∙ e) (kind_of (msg_type s), (typed s h a, b))
told_measure s n m h (m_length e a b c) p ne = rw (p ∙ e) (kind_of (msg_type s), (short s h a b, unsaid (length_says _ _) c))
told_measure s n m h (m_fine e a b c) p ne = absurd (ne e)

told_judged : (s : List ℕ) (n m : ℕ) → Whole s → check_sum s ≡ sum8 (plain s) → Judged (kind_of (msg_type s)) (sending_time s) (body s) m → n ≡ m → (m ≡ 0 → ⊥) → Reads n s
told_judged s n m w g (j_time e r) p ne = rw (p ∙ e) (kind_of (msg_type s), (summed s w g, unsaid (time_says _) r))
told_judged s n m w g (j_field e r f) p ne = rw (p ∙ e) (kind_of (msg_type s), (timed s w g r, unsaid (fields_say _ _) f))
told_judged s n m w g (j_fine e r f) p ne = absurd (ne e)

met : (s : List ℕ) (m : ℕ) → Whole s → check_sum s ≡ sum8 (plain s) → Judged (kind_of (msg_type s)) (sending_time s) (body s) m → m ≡ 0 → Meets (kind_of (msg_type s)) s
met s m w g (j_time e r) z = absurd (omega arith)
met s m w g (j_field e r f) z = absurd (omega arith)
met s m w g (j_fine e r f) z = record { before = timed s w g r; fields = (fields_say _ _).0 f }

told_of : (s : List ℕ) (p : Paper) → Reading s p → Reads p.number s
unfolding sum8
told_of s p (r_short e h) = rw (one_number e) (inl h)
told_of s p (r_measure e h m) = told_measure s _ (measure s) h (measured _ _) (one_number e) m
told_of s p (r_cut e h m l) = rw (one_number e) (inr (kind_of (msg_type s), (suited s h m, omega arith)))
told_of s p (r_sum e w n) = rw (one_number e) (kind_of (msg_type s), (there s w, n))
told_of s p (r_judged e w f n) = told_judged s _ (judgement s) w f (judged _ _ _) (one_number e) n
told_of s p (r_frame e g) =
    rw (one_number e) (kind_of (msg_type s), met s (judgement s) g.whole g.sum (judged _ _ _) g.fine)

told : (s : List ℕ) → Reads (read_of s).number s
told s = told_of s (read_of s) (reading s)

from_any : (n : ℕ) (s : List ℕ) → Reads n s → (read_of s).number ≡ n
from_any zero s h = from_0 h.0 s h.1
from_any (suc zero) s h = from_1 s h
from_any (suc (suc zero)) s h = from_2 s h
from_any (suc (suc (suc zero))) s h = from_3 h.0 s h.1.0 h.1.1
from_any (suc (suc (suc (suc zero)))) s h = from_4 h.0 s h.1.0 h.1.1
from_any (suc (suc (suc (suc (suc zero))))) s h = from_5 h.0 s h.1.0 h.1.1
from_any (suc (suc (suc (suc (suc (suc zero)))))) s h = from_6 h.0 s h.1.0 h.1.1
from_any (suc (suc (suc (suc (suc (suc (suc zero))))))) s h = from_7 h.0 s h.1.0 h.1.1
from_any (suc (suc (suc (suc (suc (suc (suc (suc n)))))))) s h = absurd h

-- READING ANSWERS A NUMBER EXACTLY WHEN ITS CONDITION HOLDS, for every number and all bytes
pub read_given : (n : ℕ) (s : List ℕ) → ((read_of s).number ≡ n) ↔ Reads n s
read_given n s = (λ (e : (read_of s).number ≡ n). rw e at (told s), from_any n s)

-- a frame reads exactly if it meets document 01
pub read_given_0 : (s : List ℕ) → ((read_of s).number ≡ 0) ↔ Reads0 s
read_given_0 = read_given 0

pub read_given_1 : (s : List ℕ) → ((read_of s).number ≡ 1) ↔ Reads1 s
read_given_1 = read_given 1

pub read_given_2 : (s : List ℕ) → ((read_of s).number ≡ 2) ↔ Reads2 s
read_given_2 = read_given 2

pub read_given_3 : (s : List ℕ) → ((read_of s).number ≡ 3) ↔ Reads3 s
read_given_3 = read_given 3

pub read_given_4 : (s : List ℕ) → ((read_of s).number ≡ 4) ↔ Reads4 s
read_given_4 = read_given 4

pub read_given_5 : (s : List ℕ) → ((read_of s).number ≡ 5) ↔ Reads5 s
read_given_5 = read_given 5

pub read_given_6 : (s : List ℕ) → ((read_of s).number ≡ 6) ↔ Reads6 s
read_given_6 = read_given 6

pub read_given_7 : (s : List ℕ) → ((read_of s).number ≡ 7) ↔ Reads7 s
read_given_7 = read_given 7
