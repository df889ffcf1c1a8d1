-- Frame laws 1 and 3, on which the layers above lean: an answer other than 1 stays when bytes
-- follow, and 8,192 bytes never answer 1.
use Rattle.std.specs.Prelude.{ℕ, ◌+◌, ◌≤◌, ◌≡◌, List, ◌++◌, length, take, drop}
use Rattle.std.proofs.Common.{sym, ap, ◌∙◌, arith, length-append, length-drop}
use Rattle.std.proofs.lemmas.List.{take-append-le, drop-append-le}
use Rattle.terms.specs.Paper.{Paper, one_number}
use Rattle.octets.specs.Octets.{be, sum8}
use Rattle.octets.specs.Numerals.{numeral_append}
use Rattle.rules.specs.Table.{kind_of}
use Rattle.rules.specs.Outcomes.{measure_same, judge_same, measure_not_more}
use Rattle.rules.proofs.Outcomes.{judge_not_more}
use Rattle.frame_spec.specs.Frame.{msg_type, sending_time, msg_seq_num, body_length, body, plain, check_sum, read_of, Whole}
use Rattle.frame_spec.specs.Measures.{fits}
use Rattle.frame_spec.specs.Outcomes.{accepted, measure, judgement, Reading, r_short, r_measure, r_cut, r_sum, r_judged, r_frame, reading, read_measured, read_sum, read_judgement, read_frame}

longer : (s t : List ℕ) → length s ≤ length (s ++ t)
longer s t = simp length-append (omega arith)

module _ (s t : List ℕ) (h : 24 ≤ length s) where
  type_kept : msg_type (s ++ t) ≡ msg_type s
  type_kept = numeral_append 256 4 0 s t (omega arith)

  time_kept : sending_time (s ++ t) ≡ sending_time s
  time_kept = numeral_append 256 8 4 s t (omega arith)

  seq_kept : msg_seq_num (s ++ t) ≡ msg_seq_num s
  seq_kept = numeral_append 256 8 12 s t (omega arith)

  len_kept : body_length (s ++ t) ≡ body_length s
  len_kept = numeral_append 256 4 20 s t (omega arith)

  measure_kept : measure (s ++ t) ≡ measure s
  measure_kept = measure_same _ _ _ _ (ap kind_of type_kept) len_kept

module _ (s t : List ℕ) (w : Whole s) where
  whole_kept : Whole (s ++ t)
  whole_kept =
      record {
        header = omega (arith, longer s t, w.header);
        measured = measure_kept s t w.header ∙ w.measured;
        there = rw (len_kept s t w.header) (omega (arith, longer s t, w.there));
      }

  sum_kept : check_sum (s ++ t) ≡ check_sum s
  sum_kept =
      ap (λ (n : ℕ). be 4 (24 + n) (s ++ t)) (len_kept s t w.header)
      ∙ numeral_append 256 4 (24 + body_length s) s t (omega (arith, w.there))

  plain_kept : plain (s ++ t) ≡ plain s
  plain_kept =
      ap (λ (n : ℕ). take (24 + n) (s ++ t)) (len_kept s t w.header)
      ∙ take-append-le (24 + body_length s) s t (omega (arith, w.there))

  body_kept : body (s ++ t) ≡ body s
  body_kept =
      let d : body_length s ≤ length (drop 24 s) = simp length-drop (omega (arith, w.there)) in
      ap (λ (n : ℕ). take n (drop 24 (s ++ t))) (len_kept s t w.header)
      ∙ rw (drop-append-le 24 s t w.header, take-append-le (body_length s) (drop 24 s) t d)

  judged_kept : judgement (s ++ t) ≡ judgement s
  judged_kept = judge_same _ _ _ _ _ _ (ap kind_of (type_kept s t w.header)) (time_kept s t w.header) body_kept

  accepted_kept : accepted (s ++ t) ≡ accepted s
  accepted_kept = rw (type_kept s t w.header, time_kept s t w.header, seq_kept s t w.header, len_kept s t w.header)

kept_at : (s t : List ℕ) (p : Paper) → Reading s p → (p.number ≡ 1 → ⊥) → read_of (s ++ t) ≡ p
kept_at s t p (r_short e h) un = absurd (un (one_number e))
kept_at s t p (r_measure e h m) un = read_measured (s ++ t) (measure s) (omega (arith, longer s t)) (measure_kept s t h) m ∙ sym e
kept_at s t p (r_cut e h m l) un = absurd (un (one_number e))
kept_at s t p (r_sum e w n) un =
    read_sum (s ++ t) (whole_kept s t w) (λ x. n (sym (sum_kept s t w) ∙ x ∙ ap sum8 (plain_kept s t w))) ∙ sym e
kept_at s t p (r_judged e w f n) un =
    read_judgement (s ++ t) (whole_kept s t w) (sum_kept s t w ∙ f ∙ ap sum8 (sym (plain_kept s t w))) (judgement s) (judged_kept s t w) n ∙ sym e
kept_at s t p (r_frame e g) un =
    let w = g.whole in
    read_frame (s ++ t) (whole_kept s t w) (sum_kept s t w ∙ g.sum ∙ ap sum8 (sym (plain_kept s t w))) (judged_kept s t w ∙ g.fine) ∙ accepted_kept s t w ∙ sym e

-- LAW 1: an answer other than 1 stays when bytes follow
pub kept : (s t : List ℕ) → ((read_of s).number ≡ 1 → ⊥) → read_of (s ++ t) ≡ read_of s
kept s t un = kept_at s t (read_of s) (reading s) un

never : (s : List ℕ) (p : Paper) → 8192 ≤ length s → Reading s p → p.number ≡ 1 → ⊥
never s p l (r_short e h) z = omega arith
never s p l (r_measure e h m) z = measure_not_more _ _ (sym (one_number e) ∙ z)
never s p l (r_cut e h m k) z = omega (arith, (fits _ _ m).small)
never s p l (r_sum e w n) z = omega (arith, one_number e)
never s p l (r_judged e w f n) z = judge_not_more _ _ _ (sym (one_number e) ∙ z)
never s p l (r_frame e g) z = omega (arith, one_number e)

-- LAW 3: 8,192 bytes or more never answer 1
pub enough : (s : List ℕ) → 8192 ≤ length s → (read_of s).number ≡ 1 → ⊥
enough s l z = never s (read_of s) l (reading s) z
