-- `read_given`: reading gives a number exactly if its condition holds. For any bytes the condition
-- of the number given holds (`told`), and each condition leads to its number (`from`).
use Rattle.std.specs.Prelude.{ℕ, ◌+◌, ◌<◌, ◌≤◌, ◌≡◌, refl, true, false, List, ◌++◌, ◌↔◌, eqb, length, get_or}
use Rattle.std.proofs.Common.{sym, ap, ◌∙◌, ⊎_elim, arith, get_or-drop}
use Rattle.terms.specs.Paper.{pick}
use Rattle.terms.specs.Cases.{two, less, clash}
use Rattle.terms.specs.Checks.{or_else, else_on, else_is, else_assoc}
use Rattle.step_spec.specs.Pieces.{pieces}
use Rattle.step_spec.specs.Fields.{unreal_in, sound_of, judge_of}
use Rattle.step_spec.specs.Frame.{begin, front, body_start, body_length, body_end, long_check, type_check, head_of, sum_check, kind, fields, verdict_of, step_read_of}
use Rattle.step_spec.specs.FrontLaws.{front_length}
use Rattle.step_spec.specs.HeadLaws.{long_off, long_on, type_short, type_is}
use Rattle.step_spec.specs.Sound.{FieldsSound}
use Rattle.step_spec.specs.Given.{Begins, start_of, end_of, Types, fields_in, Unreal, Headed, Sized, Typed, Summed, Given0, Given1, Given3, Given5, Given7, Given23, Given24, Given25, Given26, waits_begin, waits_length, waits_type, waits_sum, Answer, n0, n1, n3, n5, n7, n23, n24, n25, n26, numeral, Reads}
use Rattle.step_spec.specs.Decided.{Decides, length_part}
use Rattle.step_spec.proofs.Decided.{begin_decides, holds_from, measures_pass, measured_start, type_part, measured_room, type_decides, sum_decides, waits_from, length_decides, refused_from, holds_to, refused_to, waits_not}
use Rattle.step_spec.proofs.FieldLaws.{judged_7, judged_26, judged_fine}
use Rattle.step_spec.proofs.Sound.{fields_sound, sound_fields}
use Rattle.step_spec.proofs.Stable.{never_1}
use Rattle.step_spec.specs.GivenRead.{unreal_from, unreal_to, time, fine, unsound, Judged, number_is}

-- what is judged of fields
pub judged_time : (type : ℕ) (fs : List ℕ) → Unreal (pieces fs) → judge_of type fs ≡ 7
judged_time type fs u = judged_7 type fs (unreal_from (pieces fs) u)

real_of : (fs : List ℕ) → (Unreal (pieces fs) → ⊥) → unreal_in (pieces fs) ≡ false
real_of fs n = ⊎_elim (λ (t : unreal_in (pieces fs) ≡ true). absurd (n (unreal_to (pieces fs) t))) (λ (f : unreal_in (pieces fs) ≡ false). f) (two (unreal_in (pieces fs)))

pub judged_fields : (type : ℕ) (fs : List ℕ) → (Unreal (pieces fs) → ⊥) → (FieldsSound type fs → ⊥) → judge_of type fs ≡ 26
judged_fields type fs n m = judged_26 type fs (real_of fs n) (⊎_elim (λ (t : sound_of type fs ≡ true). absurd (m (fields_sound type fs t))) (λ (f : sound_of type fs ≡ false). f) (two (sound_of type fs)))

pub judged_all : (type : ℕ) (fs : List ℕ) → (Unreal (pieces fs) → ⊥) → FieldsSound type fs → judge_of type fs ≡ 0
judged_all type fs n w = judged_fine type fs (real_of fs n) (sound_fields type fs w)

pub judged : (type : ℕ) (fs : List ℕ) → Judged type fs
judged type fs =
    ⊎_elim (λ (u : unreal_in (pieces fs) ≡ true). time (unreal_to (pieces fs) u)) (λ (u : unreal_in (pieces fs) ≡ false).
    let n : Unreal (pieces fs) → ⊥ = λ (x : Unreal (pieces fs)). clash (unreal_from (pieces fs) x) u in
    ⊎_elim (λ (t : sound_of type fs ≡ true). fine n (fields_sound type fs t)) (λ (f : sound_of type fs ≡ false). unsound n (λ (w : FieldsSound type fs). clash (sound_fields type fs w) f)) (two (sound_of type fs)))
    (two (unreal_in (pieces fs)))

-- THE CHECKS IN A ROW

z23 : ◌≡◌ {A = ℕ} 23 0 → ⊥
z23 e = omega arith

z24 : ◌≡◌ {A = ℕ} 24 0 → ⊥
z24 e = omega arith

z25 : ◌≡◌ {A = ℕ} 25 0 → ⊥
z25 e = omega arith

z5 : ◌≡◌ {A = ℕ} 5 0 → ⊥
z5 e = omega arith

one : ◌≡◌ {A = ℕ} 1 0 → ⊥
one e = omega arith

module _ (s : List ℕ) where
  abbrev c5 : ℕ
  c5 = sum_check (body_end s) s

  abbrev c7 : ℕ
  c7 = judge_of (kind s) (fields s)

  verdict_row : verdict_of s ≡ or_else (front 23 begin s) (or_else (length_part s) (or_else (long_check s) (or_else (type_check s) (or_else c5 c7))))
  unfolding verdict_of head_of
  verdict_row = simp else_assoc

  eleven : Begins s → 11 ≤ length s
  eleven b = front_length 23 begin s z23 (holds_from (begin_decides s) b)

  row_23 : (v : ℕ) → front 23 begin s ≡ v → (v ≡ 0 → ⊥) → verdict_of s ≡ v
  row_23 v e ne = verdict_row ∙ else_is _ _ v e ne

  past_23 : Begins s → verdict_of s ≡ or_else (length_part s) (or_else (long_check s) (or_else (type_check s) (or_else c5 c7)))
  past_23 b = verdict_row ∙ else_on _ _ (holds_from (begin_decides s) b)

  row_24 : Begins s → (v : ℕ) → length_part s ≡ v → (v ≡ 0 → ⊥) → verdict_of s ≡ v
  row_24 b v e ne = past_23 b ∙ else_is _ _ v e ne

  module _ (n : ℕ) where
    past_24 : Headed n s → verdict_of s ≡ or_else (long_check s) (or_else (type_check s) (or_else c5 c7))
    past_24 h = past_23 h.begins ∙ else_on _ _ (measures_pass n s h.measures)

    start_is : Headed n s → body_start s ≡ start_of n
    start_is h = (measured_start n s h.measures).0

    long_is : Headed n s → body_length s ≡ n
    long_is h = (measured_start n s h.measures).1

    end_is : Headed n s → body_end s ≡ end_of n
    end_is h = rw (start_is h, long_is h)

    row_3 : Headed n s → 8192 < end_of n + 7 → verdict_of s ≡ 3
    row_3 h l = past_24 h ∙ else_is _ _ 3 (long_off s (rw (end_is h) l)) (λ (z : 3 ≡ 0). omega arith)

    past_3 : Sized n s → verdict_of s ≡ or_else (type_check s) (or_else c5 c7)
    past_3 h = past_24 h.before ∙ else_on _ _ (long_on s (rw (end_is h.before) h.short))

    row_25 : Sized n s → (v : ℕ) → type_check s ≡ v → (v ≡ 0 → ⊥) → verdict_of s ≡ v
    row_25 h v e ne = past_3 h ∙ else_is _ _ v e ne

    -- a body that has room for a type
    type_part_lem : Sized n s → 5 ≤ n → type_check s ≡ type_part (start_of n) s
    type_part_lem h five = type_is s (rw (long_is h.before) five) ∙ rw (start_is h.before)

    deciding : Sized n s → (five : 5 ≤ n) → Decides 25 (type_part (start_of n)) (λ (u : List ℕ). (type : ℕ) × Types n type u) s
    deciding h five = type_decides n five s (measured_room n s h.before.measures)

    module _ (type : ℕ) where
      past_25 : Typed n type s → verdict_of s ≡ or_else c5 c7
      past_25 h = past_3 h.before ∙ else_on _ _ (type_part_lem h.before h.types.five ∙ holds_from (deciding h.before h.types.five) (type, h.types))

      sum_part : Typed n type s → c5 ≡ sum_check (end_of n) s
      sum_part h = ap (λ (e : ℕ). sum_check e s) (end_is h.before.before)

      row_5 : Typed n type s → (v : ℕ) → sum_check (end_of n) s ≡ v → (v ≡ 0 → ⊥) → verdict_of s ≡ v
      row_5 h v e ne = past_25 h ∙ else_is _ _ v (sum_part h ∙ e) ne

      kind_is : Typed n type s → kind s ≡ type
      kind_is h =
          ap (λ (p : ℕ). get_or s (p + 3) 0) (start_is h.before.before)
          ∙ sym (get_or-drop (start_of n) s 3 0)
          ∙ ap (λ (l : List ℕ). get_or l 3 0) h.types.text

      fields_is : Typed n type s → fields s ≡ fields_in n s
      fields_is h = rw (start_is h.before.before, long_is h.before.before)

      row_7 : Summed n type s → (v : ℕ) → judge_of type (fields_in n s) ≡ v → verdict_of s ≡ v
      row_7 h v e = past_25 h.before ∙ else_on _ _ (sum_part h.before ∙ holds_from (sum_decides n s) h.sums) ∙ rw (kind_is h.before, fields_is h.before) e

  -- FROM THE CONDITION TO THE NUMBER

  from_1 : Given1 s → verdict_of s ≡ 1
  from_1 (waits_begin f t p) = row_23 1 (waits_from (begin_decides s) f t p) one
  from_1 (waits_length b f n t p) = row_24 b 1 (waits_from (length_decides s (eleven b)) (λ q. f q.0 q.1) t (n, p)) one
  from_1 (waits_type n h f type t p) = row_25 n h 1 (type_part_lem n h p.five ∙ waits_from (deciding n h p.five) (λ q. f q.0 q.1) t (type, p)) one
  from_1 (waits_sum n type h f t p) = row_5 n type h 1 (waits_from (sum_decides n s) f t p) one

  from_25 : (n : ℕ) → Sized n s → ((type : ℕ) (t : List ℕ) → Types n type (s ++ t) → ⊥) → verdict_of s ≡ 25
  from_25 n h f =
      ⊎_elim (λ (l : n < 5). row_25 n h 25 (type_short s (rw (long_is n h.before) l)) z25)
      (λ (l : 5 ≤ n). row_25 n h 25 (type_part_lem n h l ∙ refused_from (deciding n h l) (λ t q. f q.0 t q.1)) z25)
      (less n 5)

  pub from : (a : Answer) → Reads a s → verdict_of s ≡ numeral a
  from n0 (n, type, (h, w)) = row_7 n type h.before 0 (judged_all type (fields_in n s) h.real w)
  from n1 w = from_1 w
  from n3 (n, (h, l)) = row_3 n h l
  from n5 (n, type, (h, f)) = row_5 n type h 5 (refused_from (sum_decides n s) f) z5
  from n7 (n, type, (h, u)) = row_7 n type h 7 (judged_time type (fields_in n s) u)
  from n23 f = row_23 23 (refused_from (begin_decides s) f) z23
  from n24 (b, f) = row_24 b 24 (refused_from (length_decides s (eleven b)) (λ t q. f q.0 t q.1)) z24
  from n25 (n, (h, f)) = from_25 n h f
  from n26 (n, type, (h, f)) = row_7 n type h.before 26 (judged_fields type (fields_in n s) h.real f)

  -- FROM THE NUMBER TO THE CONDITION

  record Told : Type 0 where
    answer : Answer
    number : verdict_of s ≡ numeral answer
    condition : Reads answer s

  gives : (a : Answer) → Reads a s → Told
  gives a w = record { answer = a; number = from a w; condition = w }

  told_7 : (n type : ℕ) → Summed n type s → Judged type (fields_in n s) → Told
  told_7 n type h (time u) = gives n7 (n, type, (h, u))
  told_7 n type h (unsound u f) = gives n26 (n, type, (record { before = h; real = u }, f))
  told_7 n type h (fine u w) = gives n0 (n, type, (record { before = h; real = u }, w))

  told_5 : (n type : ℕ) → Typed n type s → Told
  told_5 n type h =
      let d = sum_decides n s in
      ⊎_elim (λ (e : sum_check (end_of n) s ≡ 0). told_7 n type (record { before = h; sums = holds_to d e }) (judged type (fields_in n s))) (λ w.
      ⊎_elim (λ (e : sum_check (end_of n) s ≡ 1). let m = d.mends e in gives n1 (waits_sum n type h (waits_not d e) m.0 m.1)) (λ (e : sum_check (end_of n) s ≡ 5). gives n5 (n, type, (h, refused_to d e))) w)
      d.range

  told_25 : (n : ℕ) → Sized n s → Told
  told_25 n h =
      ⊎_elim (λ (l : n < 5). gives n25 (n, (h, λ type t p. absurd (omega (arith, p.five))))) (λ (l : 5 ≤ n).
      let d = deciding n h l in
      ⊎_elim (λ (e : type_part (start_of n) s ≡ 0). let q = holds_to d e in told_5 n q.0 (record { before = h; types = q.1 })) (λ w.
      ⊎_elim (λ (e : type_part (start_of n) s ≡ 1). let m = d.mends e in gives n1 (waits_type n h (λ type p. waits_not d e (type, p)) m.1.0 m.0 m.1.1))
      (λ (e : type_part (start_of n) s ≡ 25). gives n25 (n, (h, λ type t p. refused_to d e t (type, p))))
      w)
      d.range)
      (less n 5)

  told_24 : Begins s → Told
  told_24 b =
      let d = length_decides s (eleven b) in
      ⊎_elim (λ (e : length_part s ≡ 0).
      let q = holds_to d e in
      let n = q.0 in
      let h : Headed n s = record { begins = b; measures = q.1 } in
      ⊎_elim (λ (l : 8192 < end_of n + 7). gives n3 (n, (h, l))) (λ (l : end_of n + 7 ≤ 8192). told_25 n (record { before = h; short = l })) (less 8192 (end_of n + 7))) (λ w.
      ⊎_elim (λ (e : length_part s ≡ 1). let m = d.mends e in gives n1 (waits_length b (λ n p. waits_not d e (n, p)) m.1.0 m.0 m.1.1))
      (λ (e : length_part s ≡ 24). gives n24 (b, λ n t p. refused_to d e t (n, p)))
      w)
      d.range

  told : Told
  told =
      let d = begin_decides s in
      ⊎_elim (λ (e : front 23 begin s ≡ 0). told_24 (holds_to d e)) (λ w.
      ⊎_elim (λ (e : front 23 begin s ≡ 1). let m = d.mends e in gives n1 (waits_begin (waits_not d e) m.0 m.1)) (λ (e : front 23 begin s ≡ 23). gives n23 (refused_to d e)) w)
      d.range

-- an answer by its number
answer_of : ℕ → Answer
answer_of n = pick (eqb n 0) n0 (pick (eqb n 1) n1 (pick (eqb n 3) n3 (pick (eqb n 5) n5 (pick (eqb n 7) n7 (pick (eqb n 23) n23 (pick (eqb n 24) n24 (pick (eqb n 25) n25 n26)))))))

answer_of_lem : (a : Answer) → answer_of (numeral a) ≡ a
unfolding answer_of
answer_of_lem n0 = refl
answer_of_lem n1 = refl
answer_of_lem n3 = refl
answer_of_lem n5 = refl
answer_of_lem n7 = refl
answer_of_lem n23 = refl
answer_of_lem n24 = refl
answer_of_lem n25 = refl
answer_of_lem n26 = refl

-- READING GIVES A NUMBER EXACTLY IF ITS CONDITION HOLDS
pub read_given : (a : Answer) (s : List ℕ) → ((step_read_of s).number ≡ numeral a) ↔ Reads a s
read_given a s = (to, λ (w : Reads a s). number_is s ∙ from s a w)
  where
    to : (step_read_of s).number ≡ numeral a → Reads a s
    to e =
        let t = told s in
        let same_answer : t.answer ≡ a = sym (answer_of_lem t.answer) ∙ ap answer_of (sym t.number ∙ sym (number_is s) ∙ e) ∙ answer_of_lem a in
        rw same_answer at t.condition

-- and gives no other
pub read_numbered : (s : List ℕ) → (a : Answer) × ((step_read_of s).number ≡ numeral a)
read_numbered s = ((told s).answer, number_is s ∙ (told s).number)

pub given_0 : (s : List ℕ) → ((step_read_of s).number ≡ 0) ↔ Given0 s
given_0 = read_given n0

pub given_1 : (s : List ℕ) → ((step_read_of s).number ≡ 1) ↔ Given1 s
given_1 = read_given n1

pub given_3 : (s : List ℕ) → ((step_read_of s).number ≡ 3) ↔ Given3 s
given_3 = read_given n3

pub given_5 : (s : List ℕ) → ((step_read_of s).number ≡ 5) ↔ Given5 s
given_5 = read_given n5

pub given_7 : (s : List ℕ) → ((step_read_of s).number ≡ 7) ↔ Given7 s
given_7 = read_given n7

pub given_23 : (s : List ℕ) → ((step_read_of s).number ≡ 23) ↔ Given23 s
given_23 = read_given n23

pub given_24 : (s : List ℕ) → ((step_read_of s).number ≡ 24) ↔ Given24 s
given_24 = read_given n24

pub given_25 : (s : List ℕ) → ((step_read_of s).number ≡ 25) ↔ Given25 s
given_25 = read_given n25

pub given_26 : (s : List ℕ) → ((step_read_of s).number ≡ 26) ↔ Given26 s
given_26 = read_given n26

-- 8,192 bytes or more never answer 1
pub reading_never_1 : (s : List ℕ) → 8192 ≤ length s → (step_read_of s).number ≡ 1 → ⊥
reading_never_1 s h e = never_1 s h (sym (number_is s) ∙ e)
