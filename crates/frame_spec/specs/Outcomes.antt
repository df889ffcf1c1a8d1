-- Each answer of reading from the facts that lead to it, and the same by cases: every inversion
-- comes from `reading` by a match.
use Rattle.std.specs.Prelude.{ℕ, ◌+◌, ◌<◌, ◌≤◌, ◌≡◌, List, [], ◌∷◌, length, get_or, eqb}
use Rattle.std.proofs.Common.{sym, ap, ◌∙◌, ⊎_elim, arith, le-leb, eq-eqb, ne_eqb}
use Rattle.std.proofs.lemmas.Bool.{lt-leb}
use Rattle.terms.specs.Paper.{Paper, answer, refusal, pick, one_number}
use Rattle.terms.specs.Cases.{less, same}
use Rattle.octets.specs.Octets.{sum8}
use Rattle.rules.specs.Table.{kind_of, measure_of}
use Rattle.rules.specs.Fields.{judge_of}
use Rattle.frame_spec.specs.Frame.{msg_type, sending_time, msg_seq_num, body_length, body, plain, check_sum, checked, read_of, Whole}

pub checked_on : (m : ℕ) (p : Paper) → m ≡ 0 → checked m p ≡ p
unfolding checked
checked_on m p e = rw (eq-eqb m 0 e)

pub checked_off : (m : ℕ) (p : Paper) → (m ≡ 0 → ⊥) → checked m p ≡ refusal m
unfolding checked
checked_off m p ne = rw (ne_eqb m 0 ne)

-- what an accepted frame answers
abbrev pub accepted : List ℕ → Paper
accepted s = answer 0 (msg_type s ∷ sending_time s ∷ msg_seq_num s ∷ body_length s ∷ [])

-- the number of the checks 2, 3, 4, and of those behind the sum
abbrev pub measure : List ℕ → ℕ
measure s = measure_of (kind_of (msg_type s)) (body_length s)

abbrev pub judgement : List ℕ → ℕ
judgement s = judge_of (kind_of (msg_type s)) (sending_time s) (body s)

module _ (s : List ℕ) where
  pub read_short : length s < 24 → read_of s ≡ refusal 1
  unfolding read_of
  read_short h = rw (lt-leb 24 (length s) h)

  pub read_measure : 24 ≤ length s → (measure s ≡ 0 → ⊥) → read_of s ≡ refusal (measure s)
  unfolding read_of
  read_measure h ne = rw (le-leb 24 (length s) h) (checked_off (measure s) _ ne)

  pub read_measured : (m : ℕ) → 24 ≤ length s → measure s ≡ m → (m ≡ 0 → ⊥) → read_of s ≡ refusal m
  read_measured m h e ne = read_measure h (λ (z : measure s ≡ 0). ne (sym e ∙ z)) ∙ ap refusal e

  pub read_cut : 24 ≤ length s → measure s ≡ 0 → length s < 28 + body_length s → read_of s ≡ refusal 1
  unfolding read_of
  read_cut h e l = rw (le-leb 24 (length s) h) (checked_on (measure s) _ e ∙ rw (lt-leb (28 + body_length s) (length s) l))

  module _ (w : Whole s) where
    behind : read_of s ≡ pick (eqb (check_sum s) (sum8 (plain s))) (checked (judgement s) (accepted s)) (refusal 5)
    unfolding read_of
    behind = rw (le-leb 24 (length s) w.header) (checked_on (measure s) _ w.measured ∙ rw (le-leb (28 + body_length s) (length s) w.there))

    pub read_sum : (check_sum s ≡ sum8 (plain s) → ⊥) → read_of s ≡ refusal 5
    read_sum ne = behind ∙ rw (ne_eqb (check_sum s) (sum8 (plain s)) ne)

    module _ (e : check_sum s ≡ sum8 (plain s)) where
      pub read_judged : (judgement s ≡ 0 → ⊥) → read_of s ≡ refusal (judgement s)
      read_judged ne = behind ∙ rw (eq-eqb (check_sum s) (sum8 (plain s)) e) (checked_off (judgement s) (accepted s) ne)

      pub read_judgement : (m : ℕ) → judgement s ≡ m → (m ≡ 0 → ⊥) → read_of s ≡ refusal m
      read_judgement m f ne = read_judged (λ (z : judgement s ≡ 0). ne (sym f ∙ z)) ∙ ap refusal f

      pub read_frame : judgement s ≡ 0 → read_of s ≡ accepted s
      read_frame f = behind ∙ rw (eq-eqb (check_sum s) (sum8 (plain s)) e) (checked_on (judgement s) (accepted s) f)

-- all that stands behind an accepted frame
pub record Good (s : List ℕ) : Type 0 where
  pub whole : Whole s
  pub sum : check_sum s ≡ sum8 (plain s)
  pub fine : judgement s ≡ 0

-- which facts stand behind an answer p of reading s
pub data Reading (s : List ℕ) (p : Paper) : Type 0 where
  r_short : p ≡ refusal 1 → length s < 24 → Reading s p
  r_measure : p ≡ refusal (measure s) → 24 ≤ length s → (measure s ≡ 0 → ⊥) → Reading s p
  r_cut : p ≡ refusal 1 → 24 ≤ length s → measure s ≡ 0 → length s < 28 + body_length s → Reading s p
  r_sum : p ≡ refusal 5 → Whole s → (check_sum s ≡ sum8 (plain s) → ⊥) → Reading s p
  r_judged : p ≡ refusal (judgement s) → Whole s → check_sum s ≡ sum8 (plain s) → (judgement s ≡ 0 → ⊥) → Reading s p
  r_frame : p ≡ accepted s → Good s → Reading s p

whole_view : (s : List ℕ) → Whole s → Reading s (read_of s)
whole_view s w =
    ⊎_elim (λ e.
    ⊎_elim (λ f. r_frame (read_frame s w e f) (record { whole = w; sum = e; fine = f }))
    (λ f. r_judged (read_judged s w e f) w e f)
    (same (judgement s) 0))
    (λ e. r_sum (read_sum s w e) w e)
    (same (check_sum s) (sum8 (plain s)))

pub reading : (s : List ℕ) → Reading s (read_of s)
reading s =
    ⊎_elim (λ h. r_short (read_short s h) h) (λ h.
    ⊎_elim (λ m.
    ⊎_elim (λ l. r_cut (read_cut s h m l) h m l) (λ l. whole_view s (record { header = h; measured = m; there = l }))
    (less (length s) (28 + body_length s)))
    (λ m. r_measure (read_measure s h m) h m)
    (same (measure s) 0))
    (less (length s) 24)

-- a frame that reads is good
good_of : (s : List ℕ) (p : Paper) → Reading s p → p.number ≡ 0 → Good s
good_of s p (r_short e h) z = absurd (omega (arith, one_number e))
good_of s p (r_measure e h m) z = absurd (m (sym (one_number e) ∙ z))
good_of s p (r_cut e h m l) z = absurd (omega (arith, one_number e))
good_of s p (r_sum e w n) z = absurd (omega (arith, one_number e))
good_of s p (r_judged e w n j) z = absurd (j (sym (one_number e) ∙ z))
good_of s p (r_frame e g) z = g

pub good : (s : List ℕ) → (read_of s).number ≡ 0 → Good s
good s z = good_of s (read_of s) (reading s) z

pub good_reads : (s : List ℕ) → Good s → read_of s ≡ accepted s
good_reads s g = read_frame s g.whole g.sum g.fine

-- what an accepted frame's paper says
module _ (s : List ℕ) (t time q n : ℕ) (e : answer 0 (t ∷ time ∷ q ∷ n ∷ []) ≡ read_of s) where
  pub read_done : (read_of s).number ≡ 0
  read_done = sym (one_number e)

  pub read_values : answer 0 (t ∷ time ∷ q ∷ n ∷ []) ≡ accepted s
  read_values = e ∙ good_reads s (good s read_done)

  pub read_length : n ≡ body_length s
  read_length = ap (λ (p : Paper). get_or p.values 3 0) read_values
