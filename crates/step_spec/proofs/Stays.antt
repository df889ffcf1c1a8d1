-- Laws for later walks: an answer but 1 stays when bytes follow.
use Rattle.std.specs.Prelude.{ℕ, suc, ◌+◌, ◌-◌, ◌<◌, ◌≤◌, ◌≡◌, true, false, List, [], ◌∷◌, ◌++◌, eqb, get_or, take}
use Rattle.std.proofs.Math.Path.{refl, sym}
use Rattle.std.proofs.Common.{ap, ◌∙◌, append-nil, arith, length-append, take_all, ne_eqb, lt-ltb, eqb-true}
use Rattle.std.proofs.Math.Logic.{⊎_elim}
use Rattle.std.proofs.Math.ListN.{length, drop, length-take, length-drop, get_or-append}
use Rattle.std.proofs.Math.Seq.{drop-append-le, take-append-add, take-append_seam}
use Rattle.std.proofs.lemmas.List.{take-append-le}
use Rattle.std.proofs.lemmas.Bool.{eqb-false}
use Rattle.terms.specs.Paper.{one_number}
use Rattle.terms.specs.Cases.{two, less, same, clash}
use Rattle.terms.specs.Checks.{or_else, else_both, else_stays}
use Rattle.digits.specs.Digits.{plain, is_digit, decimal_at}
use Rattle.octets.specs.Octets.{sum8}
use Rattle.step_spec.specs.Pieces.{SOH}
use Rattle.step_spec.specs.FieldLaws.{decimal_same}
use Rattle.step_spec.specs.Frame.{begin, length_tag, type_tag, trailer_of, front, digit_run, window, length_check, body_start, body_length, body_end, long_check, kind_check, type_check, head_of, sum_check, kind, fields, verdict_of, step_read_of}
use Rattle.step_spec.specs.FrontLaws.{reads_on, reads_off, front_length, run_le}
use Rattle.step_spec.specs.HeadLaws.{type_short, type_is}
use Rattle.step_spec.specs.Exactly.{LengthField}
use Rattle.step_spec.proofs.Exactly.{length_field}
use Rattle.step_spec.proofs.HeadLaws.{length_zero, length_more, length_many, sum_is, sum_open, sum_short, sum_room}
use Rattle.step_spec.specs.Stays.{kind_stays, front_stays}

-- THE LENGTH FIELD

run_stays : (w t : List ℕ) → digit_run w < length w → digit_run (w ++ t) ≡ digit_run w
unfolding digit_run
run_stays [] t h = absurd (omega arith)
run_stays (x ∷ xs) t h =
    ⊎_elim (λ (e : is_digit x ≡ true). rw e (ap suc (run_stays xs t (omega (arith, rw e at h))))) (λ (e : is_digit x ≡ false). rw e) (two (is_digit x))

run_more : (w t : List ℕ) → digit_run w ≤ digit_run (w ++ t)
unfolding digit_run
run_more [] t = omega arith
run_more (x ∷ xs) t = ⊎_elim (λ (e : is_digit x ≡ true). rw e (omega (arith, run_more xs t))) (λ (e : is_digit x ≡ false). rw e (omega arith)) (two (is_digit x))

-- a needless zero stays one
not_plain : (k b : ℕ) → plain k b ≡ false → (k ≡ 1 → ⊥) × (b ≡ 48)
not_plain k b h =
    ⊎_elim (λ (e : eqb k 1 ≡ true). absurd (clash refl (rw e at h))) (λ (e : eqb k 1 ≡ false).
    (eqb-false k 1 e, ⊎_elim (λ (f : eqb b 48 ≡ true). eqb-true b 48 f) (λ (f : eqb b 48 ≡ false). absurd (clash refl (rw (e, f) at h))) (two (eqb b 48))))
    (two (eqb k 1))

zero_run : (w : List ℕ) → get_or w 0 0 ≡ 48 → 1 ≤ digit_run w
unfolding digit_run
zero_run [] h = absurd (omega arith)
zero_run (x ∷ xs) h = rw h (omega arith)

first_stays : (w t : List ℕ) → 1 ≤ length w → get_or (w ++ t) 0 0 ≡ get_or w 0 0
first_stays w t h = get_or-append w t 0 0 h

still_not_plain : (k b : ℕ) → 2 ≤ k → b ≡ 48 → plain k b ≡ false
still_not_plain k b h e = rw (ne_eqb k 1 (λ (z : k ≡ 1). omega arith), e)

decimal_stays : (w t : List ℕ) (k : ℕ) → k ≤ length w → decimal_at 0 k (w ++ t) ≡ decimal_at 0 k w
decimal_stays w t k h = sym (decimal_same 0 (length w) (w ++ t) (simp length-append (omega arith)) k h) ∙ ap (decimal_at 0 k) (take-append_seam w t)

pub length_stays : (w t : List ℕ) → (length_check w ≡ 1 → ⊥) → length_check (w ++ t) ≡ length_check w
unfolding length_check
length_stays w t h =
    ⊎_elim (λ (m : 9 < digit_run w). length_many (w ++ t) (digit_run (w ++ t)) refl (omega (arith, run_more w t)) ∙ sym (length_many w _ refl m)) (λ (few : digit_run w ≤ 9).
    ⊎_elim (λ (p : plain (digit_run w) (get_or w 0 0) ≡ true).
    ⊎_elim (λ (l : digit_run w < length w).
    let b : get_or (w ++ t) (digit_run w) 0 ≡ get_or w (digit_run w) 0 = get_or-append w t 0 (digit_run w) l in
    rw (run_stays w t l, first_stays w t (omega arith), b, decimal_stays w t (digit_run w) (omega arith), lt-ltb (digit_run w) (length w) l, lt-ltb (digit_run w) (length (w ++ t)) (simp length-append (omega arith))))
    (λ (l : length w ≤ digit_run w). absurd (h (length_more w _ refl few p l)))
    (less (digit_run w) (length w)))
    (λ (p : plain (digit_run w) (get_or w 0 0) ≡ false).
    let n = not_plain (digit_run w) (get_or w 0 0) p in
    let z = zero_run w n.1 in
    let two_digits : 2 ≤ digit_run w = omega (arith, n.0, z) in
    length_zero (w ++ t) (digit_run (w ++ t)) refl (still_not_plain (digit_run (w ++ t)) (get_or (w ++ t) 0 0) (omega (arith, run_more w t)) (first_stays w t (omega (arith, run_le w)) ∙ n.1)) ∙ sym (length_zero w _ refl p))
    (two (plain (digit_run w) (get_or w 0 0))))
    (less 9 (digit_run w))

-- a part of what follows
take_more : (n : ℕ) (d t : List ℕ) → take n (d ++ t) ≡ take n d ++ take (n - length d) t
take_more n d t =
    ⊎_elim (λ (l : n < length d). let e : n - length d ≡ 0 = omega arith in take-append-le n d t (omega arith) ∙ rw e (sym (append-nil (take n d))))
    (λ (l : length d ≤ n). let e : n ≡ length d + (n - length d) = omega arith in ap (λ (m : ℕ). take m (d ++ t)) e ∙ take-append-add d t (n - length d) ∙ rw (take_all n d l))
    (less n (length d))

module _ (s t : List ℕ) where
  abbrev st : List ℕ
  st = s ++ t

  pub window_more : 13 ≤ length s → window st ≡ window s ++ take (10 - length (drop 13 s)) t
  window_more h = rw (drop-append-le 13 s t h) (take_more 10 (drop 13 s) t)

  module _ (h : 13 ≤ length s) (m : length_check (window s) ≡ 0) where
    L : LengthField (window s)
    L = length_field (window s) m

    run_same : digit_run (window st) ≡ digit_run (window s)
    run_same = rw (window_more h) (run_stays (window s) _ L.there)

    start_same : body_start st ≡ body_start s
    unfolding body_start
    start_same = rw run_same

    long_same : body_length st ≡ body_length s
    unfolding body_length
    long_same = rw (run_same, window_more h, decimal_stays (window s) (take (10 - length (drop 13 s)) t) (digit_run (window s)) (omega (arith, L.there)))

    start_in : body_start s ≤ length s
    unfolding body_start
    start_in = omega (arith, L.there, length-take 10 (drop 13 s), length-drop 13 s)

    -- THE TYPE

    type_stays : (type_check s ≡ 1 → ⊥) → type_check st ≡ type_check s
    type_stays o =
        ⊎_elim (λ (l : body_length s < 5). type_short st (rw long_same l) ∙ sym (type_short s l)) (λ (l : 5 ≤ body_length s).
        let n : or_else (front 25 type_tag (drop (body_start s) s)) (kind_check (drop (body_start s + 3) s)) ≡ 1 → ⊥ = λ (e : or_else (front 25 type_tag (drop (body_start s) s)) (kind_check (drop (body_start s + 3) s)) ≡ 1). o (type_is s l ∙ e) in
        type_is st (rw long_same l) ∙ rw start_same
        (else_stays _ _ _ _ n
        (λ (a : front 25 type_tag (drop (body_start s) s) ≡ 1 → ⊥). rw (drop-append-le (body_start s) s t start_in) (front_stays 25 type_tag (drop (body_start s) s) t a))
        (λ (z : front 25 type_tag (drop (body_start s) s) ≡ 0) (b : kind_check (drop (body_start s + 3) s) ≡ 1 → ⊥).
        let r : body_start s + 3 ≤ length s = omega (arith, start_in, front_length 25 type_tag (drop (body_start s) s) (λ (y : 25 ≡ 0). omega arith) z, length-drop (body_start s) s) in
        rw (drop-append-le (body_start s + 3) s t r) (kind_stays (drop (body_start s + 3) s) t b))
        ∙ sym (type_is s l)))
        (less (body_length s) 5)

    longs_same : long_check st ≡ long_check s
    unfolding long_check
    longs_same = rw (start_same, long_same)

  -- THE FIRST CHECKS

  thirteen : front 23 begin s ≡ 0 → front 24 length_tag (drop 11 s) ≡ 0 → 13 ≤ length s
  thirteen a b = omega (arith, front_length 23 begin s (λ (y : 23 ≡ 0). omega arith) a, front_length 24 length_tag (drop 11 s) (λ (y : 24 ≡ 0). omega arith) b, length-drop 11 s)

  head_stays : (head_of s ≡ 1 → ⊥) → head_of st ≡ head_of s
  unfolding head_of
  head_stays o =
      else_stays _ _ _ _ o (λ a. front_stays 23 begin s t a) (λ z1 o1.
      let e : drop 11 st ≡ drop 11 s ++ t = drop-append-le 11 s t (front_length 23 begin s (λ (y : 23 ≡ 0). omega arith) z1) in
      else_stays _ _ _ _ o1 (λ a. rw e (front_stays 24 length_tag (drop 11 s) t a)) (λ z2 o2.
      let h = thirteen z1 z2 in
      else_stays _ _ _ _ o2 (λ a. rw (window_more h) (length_stays (window s) _ a)) (λ z3 o3.
      else_stays _ _ _ _ o3 (λ a. longs_same h z3) (λ z4 o4. type_stays h z3 o4))))

  -- THE SUM

  pub sum_stays : (e : ℕ) → 1 ≤ e → (sum_check e s ≡ 1 → ⊥) → sum_check e st ≡ sum_check e s
  sum_stays e one o =
      ⊎_elim (λ (l : length s < e). absurd (o (sum_short e s l))) (λ (l : e ≤ length s).
      let l2 : e ≤ length st = simp length-append (omega arith) in
      let b : get_or st (e - 1) 0 ≡ get_or s (e - 1) 0 = get_or-append s t 0 (e - 1) (omega arith) in
      ⊎_elim (λ (c : get_or s (e - 1) 0 ≡ SOH).
      sum_is e st l2 (b ∙ c) ∙ rw (take-append-le e s t l, drop-append-le e s t l) (front_stays 5 (trailer_of (sum8 (take e s))) (drop e s) t (λ (y : front 5 (trailer_of (sum8 (take e s))) (drop e s) ≡ 1). o (sum_is e s l c ∙ y))) ∙ sym (sum_is e s l c))
      (λ (c : get_or s (e - 1) 0 ≡ SOH → ⊥). sum_open e st l2 (λ (y : get_or st (e - 1) 0 ≡ SOH). c (sym b ∙ y)) ∙ sym (sum_open e s l c))
      (same (get_or s (e - 1) 0) SOH))
      (less (length s) e)

  -- THE WHOLE

  record Same : Type 0 where
    starts : body_start st ≡ body_start s
    longs : body_length st ≡ body_length s
    five : 5 ≤ body_length s
    near : 14 ≤ body_start s

  same_of : head_of s ≡ 0 → Same
  unfolding head_of body_start
  same_of z =
      let a = else_both _ _ z in
      let b = else_both _ _ a.1 in
      let c = else_both _ _ b.1 in
      let d = else_both _ _ c.1 in
      let h = thirteen a.0 b.0 in
      record {
        starts = start_same h c.0;
        longs = long_same h c.0;
        five = ⊎_elim (λ (l : body_length s < 5). absurd (omega (arith, d.1, type_short s l))) (λ (l : 5 ≤ body_length s). l) (less (body_length s) 5);
        near = omega arith;
      }

  kind_same : (m : Same) → body_end s ≤ length s → kind st ≡ kind s
  kind_same m l = rw m.starts (get_or-append s t 0 (body_start s + 3) (omega (arith, m.five)))

  fields_same : (m : Same) → body_end s ≤ length s → fields st ≡ fields s
  fields_same m l = rw (m.starts, m.longs, drop-append-le (body_start s + 5) s t (omega (arith, m.five))) (take-append-le (body_length s - 5) (drop (body_start s + 5) s) t (simp length-drop (omega (arith, m.five))))

  pub verdict_stays : (verdict_of s ≡ 1 → ⊥) → verdict_of st ≡ verdict_of s
  unfolding verdict_of
  verdict_stays o =
      else_stays _ _ _ _ o head_stays (λ z o1.
      let m = same_of z in
      else_stays _ _ _ _ o1 (λ a. rw (m.starts, m.longs) (sum_stays (body_end s) (omega (arith, m.near)) a)) (λ y o2.
      let l = sum_room (body_end s) s y in
      rw (kind_same m l, fields_same m l)))

  -- an answer but 1 stays when bytes follow
  pub reading_stays : ((step_read_of s).number ≡ 1 → ⊥) → step_read_of st ≡ step_read_of s
  unfolding verdict_of
  reading_stays o =
      ⊎_elim (λ (z : verdict_of s ≡ 0).
      let a = else_both _ _ z in
      let m = same_of a.0 in
      let l = sum_room (body_end s) s (else_both _ _ a.1).0 in
      reads_on st (verdict_stays (λ (y : verdict_of s ≡ 1). omega arith) ∙ z) ∙ rw (kind_same m l, m.starts, m.longs) (sym (reads_on s z)))
      (λ (z : verdict_of s ≡ 0 → ⊥).
      let w = reads_off s (verdict_of s) refl z in
      reads_off st (verdict_of s) (verdict_stays (λ (y : verdict_of s ≡ 1). o (one_number w ∙ y))) z ∙ sym w)
      (same (verdict_of s) 0)
