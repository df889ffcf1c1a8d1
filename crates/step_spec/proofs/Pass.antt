-- One pass over the fields serves 7 and 26: it fails where a field does not fit, stands twice,
-- lacks, or is a time that is not real.
use Rattle.std.specs.Prelude.{ℕ, suc, ◌+◌, ◌^◌, ◌<◌, ◌≤◌, ◌≡◌, Bool, ◌&&◌, ◌||◌, ◌⊎◌, ltb, length, drop, set}
use Rattle.std.proofs.Math.Path.{refl, sym, ap}
use Rattle.std.proofs.Common.{◌∙◌, inl, inr, arith, length-set, get_or-take, get_or-set_other}
use Rattle.std.proofs.Math.Bool.{true, false, not}
use mathlib.Core.List.{List, [], ◌∷◌}
use Rattle.std.proofs.Math.Logic.{⊎_elim}
use Rattle.std.proofs.Math.Dec.{eqb}
use Rattle.std.proofs.Math.ListN.{get_or, take}
use Rattle.std.proofs.Math.Seq.{get_or-set_same}
use borrow.Author.Tests.{eqb-true, ltb-true, not-true}
use Rattle.terms.specs.Paper.{Paper}
use Rattle.terms.specs.Cases.{two, less, same, clash, and_false}
use Rattle.digits.specs.Digits.{decimal_at, decimal_of, width_in, number, nothing}
use Rattle.digits.specs.Laws.{both}
use Rattle.digits.specs.Texts.{decimal_written, decimal_width}
use Rattle.octets.specs.Octets.{digits_of}
use Rattle.step_tags.specs.Table.{T, Row, rows, row_in, row_of, row_at, has, rows_of}
use Rattle.step_tags.specs.Forms.{some, form_ok, is_unreal, good_value, fit_row}
use Rattle.step_tags.specs.Masks.{is_set}
use Rattle.step_tags.specs.Laws.{row_behind, rows_has, has_row}
use Rattle.step_spec.specs.Pieces.{SOH, equals, until_of, pieces, closed}
use Rattle.step_spec.specs.PieceLaws.{until_found}
use Rattle.step_spec.specs.Fields.{is_field, tag_of, value_of, fits, all_below, complete, passes, sound_from, sound_of, none, begins52, unreal_in, judge_of}
use Rattle.step_spec.specs.FieldLaws.{piece, below_each, fit, unfit_type, unfit_form, tag_52, unreal_end, unreal_here, unreal_next}
use Rattle.step_spec.specs.Exactly.{decimal_cases}
use Rattle.step_spec.specs.Undecided.{row_has}
use Rattle.step_spec.specs.Seen.{seen_in, seen_get, seen_long, seen_set}
use Rattle.step_spec.proofs.FieldLaws.{judged_fine, judged_26, sound_unfit, sound_twice, sound_on, sound_no_field, sound_end}
use Rattle.step_spec.specs.Pass.{fine_of, fine_from}

-- what it says of the judgement
pub fine_judged : (type : ℕ) (s : List ℕ) → fine_of type s ≡ true → judge_of type s ≡ 0
unfolding fine_from sound_of
fine_judged type s h = let b = both (sound_from type none s) _ h in judged_fine type s (not-true _ b.1) b.0

pub unfine_judged : (type : ℕ) (s : List ℕ) → fine_of type s ≡ false → unreal_in (pieces s) ≡ false → judge_of type s ≡ 26
unfolding fine_from sound_of
unfine_judged type s h u = judged_26 type s u (by_case (sound_from type none s) (rw u at h))
  where
    by_case : (b : Bool) → (b && true) ≡ false → b ≡ false
    by_case true e = e
    by_case false e = refl

-- THE TAG 52: a field of it begins `52=`

module _ (p : List ℕ) (f : is_field p ≡ true) (t : tag_of p ≡ 52) where
  abbrev q : ℕ
  q = until_of equals p

  said : decimal_at 0 q p ≡ number 52
  unfolding is_field tag_of some
  said =
      ⊎_elim (λ (d : (v : ℕ) × (decimal_at 0 q p ≡ number v)). d.1 ∙ ap number (sym (ap (λ (x : Paper). get_or x.values 0 0) d.1) ∙ t))
      (λ (d : decimal_at 0 q p ≡ nothing). absurd (clash (both (ltb q (length p)) _ f).1 (ap (λ (x : Paper). some x.values) d)))
      (decimal_cases 0 q p)

  pub mark_52 : q ≡ 2
  unfolding width_in
  mark_52 = sym (decimal_width 0 q p 52 said)

  long : q < length p
  unfolding is_field
  long = ltb-true _ _ (both (ltb q (length p)) _ f).0

  front_52 : take 2 p ≡ 53 ∷ 50 ∷ []
  unfolding width_in decimal_of digits_of
  front_52 = ap (λ (n : ℕ). take n p) (sym mark_52) ∙ sym (decimal_written 0 q p 52 said)

  pub text_52 : begins52 p ≡ true
  text_52 =
      let a : get_or p 0 0 ≡ 53 = sym (get_or-take 2 p 0 0 (omega arith)) ∙ ap (λ (l : List ℕ). get_or l 0 0) front_52 in
      let b : get_or p 1 0 ≡ 50 = sym (get_or-take 2 p 1 0 (omega arith)) ∙ ap (λ (l : List ℕ). get_or l 1 0) front_52 in
      let c : get_or p 2 0 ≡ equals = ap (λ (n : ℕ). get_or p n 0) (sym mark_52) ∙ until_found equals p long in
      rw (a, b, c)

  pub value_52 : value_of p ≡ drop 3 p
  unfolding value_of
  value_52 = rw mark_52

-- the form of a time is that of 52 alone
pub time_row : (t : ℕ) → eqb (row_at (row_of t)).form T ≡ true → t ≡ 52
unfolding row_at rows all_below
time_row t h =
    ⊎_elim (λ (l : row_of t < 27). let e = eqb-true (row_of t) 5 (only (eqb (row_at (row_of t)).form T) _ (below_each (λ (i : ℕ). not (eqb (row_at i).form T) || eqb i 5) 27 (row_of t) refl l) h) in sym (row_has t l) ∙ ap (λ (i : ℕ). (row_at i).tag) e)
    (λ (l : 27 ≤ row_of t). absurd (clash h (ap (λ (r : Row). eqb r.form T) (row_behind (row_of t) l))))
    (less (row_of t) 27)
  where
    only : (a b : Bool) → (not a || b) ≡ true → a ≡ true → b ≡ true
    only true b h e = h
    only false b h e = absurd (clash e refl)

form_52 : eqb (row_at (row_of 52)).form T ≡ true
unfolding row_of row_in row_at rows
form_52 = refl

row_52 : row_of 52 ≡ 5
unfolding row_of row_in rows
row_52 = refl

-- A SECOND 52 FAILS, so only the first decides

seen_52 : (type : ℕ) (seen : List Bool) (ps : List (List ℕ)) → length seen ≡ 27 → get_or seen 5 false ≡ true → passes type seen ps ≡ true → unreal_in ps ≡ false
unfolding passes unreal_in
seen_52 type seen [] l s h = refl
seen_52 type seen (p ∷ ps) l s h =
    let a = both (fits type p && not (get_or seen (row_of (tag_of p)) false)) _ h in
    let b = both (fits type p) (not (get_or seen (row_of (tag_of p)) false)) a.0 in
    let n : begins52 p ≡ false = not_52 (two (begins52 p)) (not-true _ b.1) in
    rw n (seen_52 type (set seen (row_of (tag_of p)) true) ps (length-set seen (row_of (tag_of p)) true ∙ l) (kept (row_of (tag_of p)) (same 5 (row_of (tag_of p)))) a.1)
  where
    not_52 : (begins52 p ≡ true) ⊎ (begins52 p ≡ false) → get_or seen (row_of (tag_of p)) false ≡ false → begins52 p ≡ false
    not_52 (inl t) e = absurd (clash s (ap (λ (i : ℕ). get_or seen i false) (sym (ap row_of (tag_52 p t) ∙ row_52)) ∙ e))
    not_52 (inr f) e = f

    kept : (r : ℕ) → (5 ≡ r) ⊎ (5 ≡ r → ⊥) → get_or (set seen r true) 5 false ≡ true
    kept r (inl e) = rw (← e) (get_or-set_same seen 5 true false (omega arith))
    kept r (inr n) = get_or-set_other seen r 5 true false n ∙ s

-- A FIELD AT THE FRONT

module _ (type : ℕ) (t : List ℕ) (found : until_of SOH t < length t) (is : is_field (piece t) ≡ true) where
  abbrev p : List ℕ
  p = piece t

  abbrev r : ℕ
  r = row_of (tag_of p)

  abbrev rest : List ℕ
  rest = drop (suc (until_of SOH t)) t

  abbrev good : Bool
  good = good_value (row_at r).form (row_at r).width (value_of p)

  row_good : good ≡ true → fit_row (tag_of p) (value_of p) ≡ r
  unfolding fit_row
  row_good g = rw g

  row_bad : good ≡ false → fit_row (tag_of p) (value_of p) ≡ 27
  unfolding fit_row
  row_bad g = rw g

  -- a value that is not good has not its form, or is a time that is not real
  bad_value : (seen : List Bool) → good ≡ false → fine_from type seen t ≡ false
  unfolding fine_from good_value
  bad_value seen g =
      ⊎_elim (λ (s : form_ok r (value_of p) ≡ true).
      let u = unreal_of (form_ok r (value_of p)) (eqb (row_at r).form T) (is_unreal (value_of p)) s g in
      let w = time_row (tag_of p) u.0 in
      let y : unreal_in (pieces t) ≡ true = sym (unreal_here t (omega arith) (text_52 p is w)) ∙ rw (← value_52 p is w) u.1 in
      rw y (and_false (sound_from type seen t)))
      (λ (s : form_ok r (value_of p) ≡ false). rw (sound_unfit type seen t found (unfit_form type p s)))
      (two (form_ok r (value_of p)))
    where
      unreal_of : (a b c : Bool) → a ≡ true → (a && not (b && c)) ≡ false → (b ≡ true) × (c ≡ true)
      unreal_of true true true s e = (refl, refl)
      unreal_of true true false s e = absurd (clash refl e)
      unreal_of true false c s e = absurd (clash refl e)
      unreal_of false b c s e = absurd (clash s refl)

  -- the field may not stand: not in a row of the type, or in one that is seen
  pub pass_stops : (m : ℕ) → (is_set (rows_of type) (fit_row (tag_of p) (value_of p)) && not (is_set m (fit_row (tag_of p) (value_of p)))) ≡ false → fine_from type (seen_in 27 m) t ≡ false
  unfolding fine_from
  pass_stops m h =
      ⊎_elim (λ (g : good ≡ true).
      ⊎_elim (λ (a : has type r ≡ true).
      let l = has_row type r a in
      let n : is_set m r ≡ true = not_not (is_set m r) (rw (row_good g, rows_has type r, a) at h) in
      rw (sound_twice type (seen_in 27 m) t found (seen_get 27 m r l ∙ n)))
      (λ (a : has type r ≡ false). rw (sound_unfit type (seen_in 27 m) t found (unfit_type type p a)))
      (two (has type r)))
      (λ (g : good ≡ false). bad_value (seen_in 27 m) g)
      (two good)
    where
      not_not : (b : Bool) → not b ≡ false → b ≡ true
      not_not true e = refl
      not_not false e = sym e

  -- it may: what is left decides
  module _ (m : ℕ) (h : (is_set (rows_of type) (fit_row (tag_of p) (value_of p)) && not (is_set m (fit_row (tag_of p) (value_of p)))) ≡ true) where
    has_fit : has type (fit_row (tag_of p) (value_of p)) ≡ true
    has_fit = sym (rows_has type (fit_row (tag_of p) (value_of p))) ∙ (both _ _ h).0

    is_good : good ≡ true
    is_good = ⊎_elim (λ (g : good ≡ true). g) (λ (g : good ≡ false). absurd (omega (arith, has_row type (fit_row (tag_of p) (value_of p)) has_fit, row_bad g))) (two good)

    pub stands_row : fit_row (tag_of p) (value_of p) ≡ r
    stands_row = row_good is_good

    pub stands_small : r < 27
    stands_small = omega (arith, has_row type (fit_row (tag_of p) (value_of p)) has_fit, stands_row)

    pub stands_new : is_set m r ≡ false
    stands_new = rw stands_row at (not-true (is_set m (fit_row (tag_of p) (value_of p))) (both (is_set (rows_of type) (fit_row (tag_of p) (value_of p))) _ h).1)

    formed : form_ok r (value_of p) ≡ true
    unfolding good_value
    formed = (both _ _ is_good).0

    real : eqb (row_at r).form T ≡ true → is_unreal (value_of p) ≡ false
    unfolding good_value
    real e = rw e at (not-true (eqb (row_at r).form T && is_unreal (value_of p)) (both (form_ok r (value_of p)) _ is_good).1)

    sound_next : sound_from type (seen_in 27 m) t ≡ sound_from type (seen_in 27 (m + 2 ^ r)) rest
    sound_next =
        sound_on type (seen_in 27 m) t found (fit type p is (rw stands_row at has_fit) formed) (seen_get 27 m r stands_small ∙ stands_new)
        ∙ ap (λ (l : List Bool). sound_from type l rest) (sym (seen_set 27 m r stands_small stands_new))

    -- behind a real 52 no other matters
    after_52 : begins52 p ≡ true → (sound_from type (seen_in 27 (m + 2 ^ r)) rest && true) ≡ (sound_from type (seen_in 27 (m + 2 ^ r)) rest && not (unreal_in (pieces rest)))
    unfolding sound_from
    after_52 b =
        let five : r ≡ 5 = ap row_of (tag_52 p b) ∙ row_52 in
        let s : get_or (seen_in 27 (m + 2 ^ r)) 5 false ≡ true = ap (λ (i : ℕ). get_or (seen_in 27 (m + 2 ^ r)) i false) (sym five) ∙ ap (λ (l : List Bool). get_or l r false) (seen_set 27 m r stands_small stands_new) ∙ get_or-set_same (seen_in 27 m) r true false (omega (arith, seen_long 27 m, stands_small)) in
        by_case (closed rest) (passes type (seen_in 27 (m + 2 ^ r)) (pieces rest)) (unreal_in (pieces rest)) (seen_52 type (seen_in 27 (m + 2 ^ r)) (pieces rest) (seen_long 27 (m + 2 ^ r)) s)
      where
        by_case : (c a u : Bool) → (a ≡ true → u ≡ false) → ((c && a) && true) ≡ ((c && a) && not u)
        by_case true true u f = rw (f refl)
        by_case true false u f = refl
        by_case false a u f = refl

    pub pass_on : fine_from type (seen_in 27 m) t ≡ fine_from type (seen_in 27 (m + 2 ^ r)) rest
    unfolding fine_from
    pass_on =
        ⊎_elim (λ (b : begins52 p ≡ true).
        let w = tag_52 p b in
        let f : eqb (row_at r).form T ≡ true = rw w form_52 in
        let u : unreal_in (pieces t) ≡ false = sym (unreal_here t (omega arith) b) ∙ rw (← value_52 p is w) (real f) in
        rw (u, sound_next) (after_52 b))
        (λ (b : begins52 p ≡ false). rw (sound_next, ← unreal_next t (omega arith) b))
        (two (begins52 p))

-- NO FIELD, AND THE END

pub pass_no_field : (type : ℕ) (seen : List Bool) (t : List ℕ) → 0 < length t → (ltb (until_of SOH t) (length t) && is_field (piece t)) ≡ false → fine_from type seen t ≡ false
unfolding fine_from
pass_no_field type seen t l h = rw (sound_no_field type seen t l h)

pub pass_end : (type : ℕ) (seen : List Bool) (t : List ℕ) → length t ≤ 0 → complete type seen ≡ fine_from type seen t
unfolding fine_from
pass_end type seen t l = rw (sound_end type seen t l, ← unreal_end t l) (sym (and_true (complete type seen)))
  where
    and_true : (b : Bool) → (b && true) ≡ b
    and_true true = refl
    and_true false = refl
