-- A check that bytes to come may decide: what its 0, its 1 and its refusal say. And the four such
-- checks of reading.
use Rattle.std.specs.Prelude.{ℕ, suc, ◌+◌, ◌-◌, ◌^◌, ◌<◌, ◌≤◌, ◌≡◌, Bool, true, false, ◌&&◌, ◌⊎◌, eqb, leb, ltb, length, take, replicate}
use Rattle.std.proofs.Math.Path.{refl, sym, ap}
use Rattle.std.proofs.Common.{◌∙◌, inl, inr, lt_of_lt_of_le, arith, lit<, lit≤, length-drop, length-take, take-append-drop, drop_of_length-le, drop_at, drop-drop, take_all, take-take, get_or-take, drop-cons, get_or-drop, length-take-le}
use mathlib.Core.List.{List, [], ◌∷◌, ◌++◌, append_assoc, append-nil}
use Rattle.std.proofs.Math.Logic.{⊎_elim}
use Rattle.std.proofs.Math.Nat.{pow-le-pow_right}
use Rattle.std.proofs.Math.ListN.{get_or, drop, length-append, get_or-append}
use Rattle.std.proofs.lemmas.List.{length-replicate, drop-append-le, take-append-le, get_or_at}
use Rattle.terms.specs.Paper.{Paper, pick}
use Rattle.terms.specs.Cases.{two, less, same}
use Rattle.terms.specs.Checks.{or_else, else_on, else_off, else_both, else_one, else_stays}
use Rattle.octets.specs.Octets.{sum8, digits_of}
use Rattle.digits.specs.Digits.{is_digit, all_digits, said_by, decimal_at, decimal_of, shown_of, width_of, width_in, number, nothing, plain}
use Rattle.digits.specs.Laws.{length_decimal, all_decimal, said_decimal, said_below}
use Rattle.digits.specs.Texts.{given_decimal, decimal_given, decimal_written, shown_plain}
use Rattle.digits.specs.Widths.{Width, width_of_lem, width_most}
use Rattle.step_tags.specs.Table.{among, types}
use Rattle.step_tags.specs.Forms.{some}
use Rattle.step_spec.specs.Pieces.{SOH}
use Rattle.step_spec.specs.Frame.{begin, length_tag, type_tag, trailer_of, front, digit_run, window, length_check, body_start, body_length, kind_check, sum_check}
use Rattle.step_spec.specs.FrontLaws.{front_is, front_of_lem, front_length, run_le}
use Rattle.step_spec.specs.Exactly.{decimal_cases, kind_inv}
use Rattle.step_spec.specs.Stays.{front_stays, kind_stays}
use Rattle.step_spec.specs.Undecided.{front_undecided}
use Rattle.step_spec.specs.Given.{At, Begins, Measures, start_of, end_of, Types, Sums}
use Rattle.step_spec.proofs.Exactly.{length_field}
use Rattle.step_spec.proofs.HeadLaws.{length_good, length_zero, length_open, length_none, length_many, sum_is, sum_open, sum_room, sum_short}
use Rattle.step_spec.proofs.RoundTrip.{window_good, window_run, window_says}
use Rattle.step_spec.proofs.Stays.{window_more, length_stays, sum_stays}
use Rattle.step_spec.specs.Decided.{Decides, length_part, Kinded}

-- bytes that stand at a place, from what stands behind it
pub at_made : (ls r : List ℕ) (p : ℕ) (u : List ℕ) → drop p u ≡ ls ++ r → At ls p u
at_made ls r p u e = e ∙ ap (λ (l : List ℕ). ls ++ l) (sym (sym (drop-drop (length ls) p u) ∙ ap (drop (length ls)) e ∙ drop_at ls r (length ls) refl))

module _ {N : ℕ} {c : List ℕ → ℕ} {P : List ℕ → Type 0} {s : List ℕ} (d : Decides N c P s) where
  pub holds_to : c s ≡ 0 → P s
  holds_to e = rw (append-nil s) at (d.passes [] (ap c (append-nil s) ∙ e))

  pub holds_from : P s → c s ≡ 0
  holds_from p = sym (ap c (append-nil s)) ∙ d.passed [] (rw (append-nil s) p)

  pub refused_to : c s ≡ N → (t : List ℕ) → P (s ++ t) → ⊥
  refused_to e t p = d.no_0 (sym (d.stays t (λ (y : c s ≡ 1). d.no_1 (sym e ∙ y)) ∙ e) ∙ d.passed t p)

  pub refused_from : ((t : List ℕ) → P (s ++ t) → ⊥) → c s ≡ N
  refused_from f =
      ⊎_elim (λ (e : c s ≡ 0). absurd (f [] (rw (append-nil s) (holds_to e)))) (λ w.
      ⊎_elim (λ (e : c s ≡ 1). let m = d.mends e in absurd (f m.0 m.1)) (λ (e : c s ≡ N). e) w)
      d.range

  pub waits_not : c s ≡ 1 → P s → ⊥
  waits_not e p = omega (arith, e, holds_from p)

  pub waits_from : (P s → ⊥) → (t : List ℕ) → P (s ++ t) → c s ≡ 1
  waits_from f t p =
      ⊎_elim (λ (e : c s ≡ 0). absurd (f (holds_to e))) (λ w.
      ⊎_elim (λ (e : c s ≡ 1). e) (λ (e : c s ≡ N). absurd (refused_to e t p)) w)
      d.range

-- A LITERAL

front_range : (why : ℕ) (ls s : List ℕ) → (front why ls s ≡ 0) ⊎ ((front why ls s ≡ 1) ⊎ (front why ls s ≡ why))
unfolding front
front_range why [] s = inl refl
front_range why (l ∷ ls) [] = inr (inl refl)
front_range why (l ∷ ls) (x ∷ xs) = ⊎_elim (λ (e : eqb x l ≡ true). rw e (front_range why ls xs)) (λ (e : eqb x l ≡ false). rw e (inr (inr refl))) (two (eqb x l))

front_mends : (why : ℕ) (ls s : List ℕ) → (why ≡ 1 → ⊥) → front why ls s ≡ 1 → (t : List ℕ) × (s ++ t ≡ ls)
front_mends why ls s ne h = (drop (length s) ls, sym (front_undecided why ls s ne h).goes_on)

-- 23
pub begin_decides : (s : List ℕ) → Decides 23 (front 23 begin) Begins s
begin_decides s = record {
  no_0 = λ z. omega arith;
  no_1 = λ z. omega arith;
  range = front_range 23 begin s;
  passes = λ t e. front_is 23 begin (s ++ t) (λ (z : 23 ≡ 0). omega arith) e;
  passed = λ t p. ap (front 23 begin) p ∙ front_of_lem 23 begin (drop 11 (s ++ t));
  stays = λ t o. front_stays 23 begin s t o;
  mends = λ e. let m = front_mends 23 begin s (λ (z : 23 ≡ 1). omega arith) e in (m.0, at_made begin [] 0 (s ++ m.0) m.1);
}

-- 24: THE LENGTH FIELD

-- digits to the end
run_all : (w : List ℕ) → length w ≤ digit_run w → all_digits w ≡ true
unfolding digit_run all_digits
run_all [] h = refl
run_all (x ∷ xs) h = ⊎_elim (λ (e : is_digit x ≡ true). rw e (run_all xs (omega (arith, rw e at h)))) (λ (e : is_digit x ≡ false). absurd (omega (arith, rw e at h))) (two (is_digit x))

-- a length that stands behind `9=`
module _ (n : ℕ) (few : n < 10 ^ 9) where
  far : n < 10 ^ 20
  far = lt_of_lt_of_le few (lit≤ tt)

  wide : Width n (width_of n)
  wide = width_of_lem n far

  nine_most : width_of n ≤ 9
  nine_most = width_most 9 wide (lit≤ tt) few

  shown_long : length (shown_of n) ≡ width_of n
  shown_long = length_decimal (width_of n) n

  module _ (s r : List ℕ) (e : drop 13 s ≡ shown_of n ++ (SOH ∷ r)) where
    abbrev ds : List ℕ
    ds = shown_of n

    first : plain (length ds) (get_or ds 0 0) ≡ true
    first = rw shown_long (shown_plain n far)

    pub told_passes : length_check (window s) ≡ 0
    told_passes = rw e (window_good ds r (all_decimal (width_of n) n) (omega (arith, shown_long, wide.some)) (omega (arith, shown_long, nine_most)) first)

    run_is : digit_run (window s) ≡ width_of n
    run_is = rw e (window_run ds r (all_decimal (width_of n) n) (omega (arith, shown_long, wide.some)) (omega (arith, shown_long, nine_most)) first ∙ shown_long)

    pub told_start : body_start s ≡ start_of n
    unfolding body_start
    told_start = rw run_is

    pub told_length : body_length s ≡ n
    unfolding body_length
    told_length =
        let q : decimal_at 0 (width_of n) (window s) ≡ number n
        = rw e (rw shown_long at (window_says ds r (all_decimal (width_of n) n) (omega (arith, shown_long, wide.some)) (omega (arith, shown_long, nine_most)) first) ∙ ap number (said_decimal (width_of n) n wide.below)) in
        rw (run_is, q)

-- digits with no needless zero are a shown number
shown_digits : (w r : List ℕ) (n : ℕ) → 1 ≤ length w → length w ≤ 9 → decimal_at 0 (length w) w ≡ number n → (n < 10 ^ 9) × (w ≡ shown_of n)
shown_digits w r n one few e =
    let g = (decimal_given 0 (length w) w n e).0 in
    let a : take (length w) (drop 0 w) ≡ w = take_all (length w) w (omega arith) in
    let b : said_by w < 10 ^ length w = said_below w (rw a at g.digits) in
    let c : said_by w ≡ n = rw a at g.says in
    let h : length w ≤ 9 = few in
    (rw (← c) (lt_of_lt_of_le b (pow-le-pow_right (lit≤ tt) h)), sym (decimal_written 0 (length w) w n e ∙ a))

-- what stands behind `9=` where the check passes
pub length_reads : (s : List ℕ) → length_check (window s) ≡ 0 → (drop 13 s ≡ shown_of (body_length s) ++ (SOH ∷ drop (body_start s) s)) × (body_length s < 10 ^ 9)
unfolding body_start body_length
length_reads s h =
    let L = length_field (window s) h in
    let k = digit_run (window s) in
    let v : decimal_at 0 k (window s) ≡ number (body_length s) = L.says ∙ ap number (sym (ap (λ (p : Paper). get_or p.values 0 0) L.says)) in
    let w = take k (drop 13 s) in
    let t : take k (window s) ≡ w = take-take k 10 (drop 13 s) (omega (arith, L.few)) in
    let inside : 13 + k < length s = omega (arith, L.there, length-take 10 (drop 13 s), length-drop 13 s) in
    let soh : get_or s (13 + k) 0 ≡ SOH = sym (get_or-take 10 (drop 13 s) k 0 (omega (arith, L.few)) ∙ get_or-drop 13 s k 0) ∙ L.ends in
    let g = (decimal_given 0 k (window s) (body_length s) v).0 in
    let low : said_by (take k (window s)) < 10 ^ k = rw (length-take-le k (window s) (omega (arith, L.there))) at (said_below (take k (window s)) g.digits) in
    let few : k ≤ 9 = L.few in
    let e : suc (13 + k) ≡ 14 + k = omega arith in (
      sym (take-append-drop k (drop 13 s)) ∙ rw (← decimal_written 0 k (window s) (body_length s) v ∙ t, drop-drop k 13 s, drop-cons s (13 + k) 0 inside, soh, e),
      rw (← g.says) (lt_of_lt_of_le low (pow-le-pow_right (lit≤ tt) few)),
    )

-- a row of two checks says 0, 1 or N where each does
else_range : {N a b : ℕ} → (a ≡ 0) ⊎ ((a ≡ 1) ⊎ (a ≡ N)) → (b ≡ 0) ⊎ ((b ≡ 1) ⊎ (b ≡ N)) → (or_else a b ≡ 0) ⊎ ((or_else a b ≡ 1) ⊎ (or_else a b ≡ N))
else_range {N} {a} {b} p q =
    ⊎_elim (λ (z : a ≡ 0). rw (else_on a b z) q) (λ (z : a ≡ 0 → ⊥). rw (else_off a b z) p) (same a 0)

length_range : (w : List ℕ) → (length_check w ≡ 0) ⊎ ((length_check w ≡ 1) ⊎ (length_check w ≡ 24))
unfolding length_check
length_range w = three (leb (digit_run w) 9 && plain (digit_run w) (get_or w 0 0)) (ltb (digit_run w) (length w)) (eqb (get_or w (digit_run w) 0) SOH && some (decimal_at 0 (digit_run w) w).values)
  where
    three : (a b c : Bool) → let r = pick {A = ℕ} a (pick {A = ℕ} b (pick {A = ℕ} c 0 24) 1) 24 in (r ≡ 0) ⊎ ((r ≡ 1) ⊎ (r ≡ 24))
    three true true true = inl refl
    three true true false = inr (inr refl)
    three true false c = inr (inl refl)
    three false b c = inr (inr refl)

none : (d : List ℕ) → length d ≤ 0 → d ≡ []
none [] h = refl
none (x ∷ xs) h = absurd (omega arith)

-- `9=0` SOH
zero_measures : (u : List ℕ) → drop 11 u ≡ length_tag ++ (48 ∷ SOH ∷ []) → (n : ℕ) × Measures n u
unfolding width_in decimal_of digits_of
zero_measures u e = (0, record { few = lit< tt; text = at_made (length_tag ++ (48 ∷ SOH ∷ [])) [] 11 u (e ∙ sym (append-nil _)) })

pub measures_pass : (n : ℕ) (u : List ℕ) → Measures n u → length_part u ≡ 0
measures_pass n u m =
    let r = drop (11 + length (length_tag ++ (shown_of n ++ (SOH ∷ [])))) u in
    let e : drop 11 u ≡ length_tag ++ (shown_of n ++ (SOH ∷ r)) = m.text ∙ ap (λ (l : List ℕ). length_tag ++ l) (append_assoc (shown_of n) (SOH ∷ []) r) in
    let d : drop 13 u ≡ shown_of n ++ (SOH ∷ r) = sym (drop-drop 2 11 u) ∙ ap (drop 2) e in
    else_on _ _ (ap (front 24 length_tag) e ∙ front_of_lem 24 length_tag (shown_of n ++ (SOH ∷ r))) ∙ told_passes n m.few u r d

-- a window that waits is digits, or nothing
window_waits : (w : List ℕ) → length_check w ≡ 1 → (length w ≤ 9) × (1 ≤ length w → (n : ℕ) × (decimal_at 0 (length w) w ≡ number n))
window_waits w h =
    ⊎_elim (λ (l : 9 < digit_run w). absurd (omega (arith, h, length_many w _ refl l))) (λ (few : digit_run w ≤ 9).
    ⊎_elim (λ (p : plain (digit_run w) (get_or w 0 0) ≡ true).
    ⊎_elim (λ (l : digit_run w < length w).
    ⊎_elim (λ (c : get_or w (digit_run w) 0 ≡ SOH).
    ⊎_elim (λ (d : (v : ℕ) × (decimal_at 0 (digit_run w) w ≡ number v)). absurd (omega (arith, h, length_good w _ refl few p l c d.0 d.1)))
    (λ (d : decimal_at 0 (digit_run w) w ≡ nothing). absurd (omega (arith, h, length_none w _ refl few p l c d)))
    (decimal_cases 0 (digit_run w) w))
    (λ (c : get_or w (digit_run w) 0 ≡ SOH → ⊥). absurd (omega (arith, h, length_open w _ refl few p l c)))
    (same (get_or w (digit_run w) 0) SOH))
    (λ (l : length w ≤ digit_run w).
    let e : digit_run w ≡ length w = omega (arith, run_le w) in
    (omega arith, λ (one : 1 ≤ length w). digits_say w one (omega arith) (run_all w l) (rw e at p)))
    (less (digit_run w) (length w)))
    (λ (p : plain (digit_run w) (get_or w 0 0) ≡ false). absurd (omega (arith, h, length_zero w _ refl p)))
    (two (plain (digit_run w) (get_or w 0 0))))
    (less 9 (digit_run w))
  where
    digits_say : (v : List ℕ) → 1 ≤ length v → length v ≤ 9 → all_digits v ≡ true → plain (length v) (get_or v 0 0) ≡ true → (n : ℕ) × (decimal_at 0 (length v) v ≡ number n)
    digits_say v one few a p =
        let t : take (length v) (drop 0 v) ≡ v = take_all (length v) v (omega arith) in
        (said_by v, given_decimal 0 (length v) v (said_by v) (record { place = record { some = one; few = omega arith; within = omega arith }; digits = rw t a; says = rw t }) p)

-- the check and what it says, where `8=FIXT.1.1` stands in front
module _ (s : List ℕ) (eleven : 11 ≤ length s) where
  tag_range : (length_part s ≡ 0) ⊎ ((length_part s ≡ 1) ⊎ (length_part s ≡ 24))
  tag_range = else_range (front_range 24 length_tag (drop 11 s)) (length_range (window s))

  length_passes : (t : List ℕ) → length_part (s ++ t) ≡ 0 → (n : ℕ) × Measures n (s ++ t)
  length_passes t e =
      let b = else_both (front 24 length_tag (drop 11 (s ++ t))) (length_check (window (s ++ t))) e in
      let q = length_reads (s ++ t) b.1 in
      let n = body_length (s ++ t) in
      let f : drop 11 (s ++ t) ≡ length_tag ++ drop 13 (s ++ t) = front_is 24 length_tag (drop 11 (s ++ t)) (λ (z : 24 ≡ 0). omega arith) b.0 ∙ ap (λ (l : List ℕ). length_tag ++ l) (drop-drop 2 11 (s ++ t)) in
      let r = drop (body_start (s ++ t)) (s ++ t) in
      (n, record { few = q.1; text = at_made (length_tag ++ (shown_of n ++ (SOH ∷ []))) r 11 (s ++ t) (f ∙ ap (λ (l : List ℕ). length_tag ++ l) (q.0 ∙ sym (append_assoc (shown_of n) (SOH ∷ []) r))) })

  length_passed : (t : List ℕ) → (n : ℕ) × Measures n (s ++ t) → length_part (s ++ t) ≡ 0
  length_passed t (n, m) = measures_pass n (s ++ t) m

  length_keeps : (t : List ℕ) → (length_part s ≡ 1 → ⊥) → length_part (s ++ t) ≡ length_part s
  length_keeps t o =
      else_stays _ _ _ _ o (λ a. rw (drop-append-le 11 s t eleven) (front_stays 24 length_tag (drop 11 s) t a))
      (λ z b. let h : 13 ≤ length s = omega (arith, front_length 24 length_tag (drop 11 s) (λ (y : 24 ≡ 0). omega arith) z, length-drop 11 s) in rw (window_more s t h) (length_stays (window s) _ b))

  -- some digits and SOH behind it
  length_mends : length_part s ≡ 1 → (t : List ℕ) × ((n : ℕ) × Measures n (s ++ t))
  length_mends e =
      ⊎_elim (λ (z : front 24 length_tag (drop 11 s) ≡ 1).
      let m = front_mends 24 length_tag (drop 11 s) (λ (y : 24 ≡ 1). omega arith) z in
      let t : List ℕ = m.0 ++ (48 ∷ SOH ∷ []) in
      (t, zero_measures (s ++ t) (drop-append-le 11 s t eleven ∙ sym (append_assoc (drop 11 s) m.0 (48 ∷ SOH ∷ [])) ∙ ap (λ (l : List ℕ). l ++ (48 ∷ SOH ∷ [])) m.1)))
      (λ (z : front 24 length_tag (drop 11 s) ≡ 1 → ⊥).
      let b = else_one (front 24 length_tag (drop 11 s)) (length_check (window s)) e z in
      let f : drop 11 s ≡ length_tag ++ drop 13 s = front_is 24 length_tag (drop 11 s) (λ (y : 24 ≡ 0). omega arith) b.0 ∙ ap (λ (l : List ℕ). length_tag ++ l) (drop-drop 2 11 s) in
      let w = window_waits (window s) b.1 in
      let k : length (drop 13 s) ≤ 9 = omega (arith, w.0, length-take 10 (drop 13 s)) in
      let same_bytes : window s ≡ drop 13 s = take_all 10 (drop 13 s) (omega arith) in
      more (drop 13 s) f (rw same_bytes at w.0) (rw same_bytes at w.1) (less 0 (length (drop 13 s))))
      (same (front 24 length_tag (drop 11 s)) 1)
    where
      more : (d : List ℕ) → drop 11 s ≡ length_tag ++ d → length d ≤ 9 → (1 ≤ length d → (n : ℕ) × (decimal_at 0 (length d) d ≡ number n)) → (0 < length d) ⊎ (length d ≤ 0) → (t : List ℕ) × ((n : ℕ) × Measures n (s ++ t))
      more d f few says (inl l) =
          let v = says l in
          let q = shown_digits d [] v.0 l few v.1 in
          let t : List ℕ = SOH ∷ [] in
          (t, (v.0, record { few = q.0; text = at_made (length_tag ++ (shown_of v.0 ++ t)) [] 11 (s ++ t) (drop-append-le 11 s t eleven ∙ ap (λ (x : List ℕ). x ++ t) (f ∙ ap (λ (x : List ℕ). length_tag ++ x) q.1) ∙ sym (append-nil _)) }))
      more d f few says (inr l) =
          let t : List ℕ = 48 ∷ SOH ∷ [] in
          (t, zero_measures (s ++ t) (drop-append-le 11 s t eleven ∙ ap (λ (x : List ℕ). x ++ t) (f ∙ ap (λ (x : List ℕ). length_tag ++ x) (none d l))))

  pub length_decides : Decides 24 length_part (λ (u : List ℕ). (n : ℕ) × Measures n u) s
  length_decides = record { no_0 = λ z. omega arith; no_1 = λ z. omega arith; range = tag_range; passes = length_passes; passed = length_passed; stays = length_keeps; mends = length_mends }

-- what it says of the place and the length of the body
pub measured_start : (n : ℕ) (s : List ℕ) → Measures n s → (body_start s ≡ start_of n) × (body_length s ≡ n)
measured_start n s m =
    let r = drop (11 + length (length_tag ++ (shown_of n ++ (SOH ∷ [])))) s in
    let d : drop 13 s ≡ shown_of n ++ (SOH ∷ r) = sym (drop-drop 2 11 s) ∙ ap (drop 2) (m.text ∙ ap (λ (l : List ℕ). length_tag ++ l) (append_assoc (shown_of n) (SOH ∷ []) r)) in
    (told_start n m.few s r d, told_length n m.few s r d)

pub measured_room : (n : ℕ) (s : List ℕ) → Measures n s → start_of n ≤ length s
measured_room n s m = room (length s) (omega (arith, ap length m.text, length-append (length_tag ++ (shown_of n ++ (SOH ∷ []))) (drop (11 + length (length_tag ++ (shown_of n ++ (SOH ∷ [])))) s), length-append (shown_of n) (SOH ∷ []), shown_long n m.few, length-drop 11 s))
  where
    room : (l : ℕ) → 11 + (2 + (width_of n + 1)) ≤ l → start_of n ≤ l
    room l h = omega arith

-- 25: THE TYPE

kind_range : (y : List ℕ) → (kind_check y ≡ 0) ⊎ ((kind_check y ≡ 1) ⊎ (kind_check y ≡ 25))
unfolding kind_check
kind_range [] = inr (inl refl)
kind_range (x ∷ xs) = ⊎_elim (λ (e : among x types ≡ true). rw e (front_range 25 (SOH ∷ []) xs)) (λ (e : among x types ≡ false). rw e (inr (inr refl))) (two (among x types))

kind_mends : (y : List ℕ) → kind_check y ≡ 1 → Kinded y
unfolding kind_check among
kind_mends [] h = record { type = 48; more = 48 ∷ SOH ∷ []; known = refl; text = refl }
kind_mends (x ∷ xs) h =
    ⊎_elim (λ (e : among x types ≡ true). let m = front_mends 25 (SOH ∷ []) xs (λ (z : 25 ≡ 1). omega arith) (rw e at h) in record { type = x; more = m.0; known = e; text = ap (λ (l : List ℕ). x ∷ l) m.1 })
    (λ (e : among x types ≡ false). absurd (omega (arith, rw e at h)))
    (two (among x types))

abbrev pub type_part : ℕ → List ℕ → ℕ
type_part p u = or_else (front 25 type_tag (drop p u)) (kind_check (drop (p + 3) u))

module _ (n : ℕ) (five : 5 ≤ n) (s : List ℕ) (room : start_of n ≤ length s) where
  abbrev p : ℕ
  p = start_of n

  type_passes : (u : List ℕ) → type_part p u ≡ 0 → (type : ℕ) × Types n type u
  type_passes u e =
      let b = else_both (front 25 type_tag (drop p u)) (kind_check (drop (p + 3) u)) e in
      let k = kind_inv (drop (p + 3) u) b.1 in
      let type = get_or (drop (p + 3) u) 0 0 in
      let f : drop p u ≡ type_tag ++ drop (p + 3) u = front_is 25 type_tag (drop p u) (λ (z : 25 ≡ 0). omega arith) b.0 ∙ ap (λ (l : List ℕ). type_tag ++ l) (drop-drop 3 p u) in
      (type, record { five = five; known = k.1; text = at_made (type_tag ++ (type ∷ SOH ∷ [])) (drop 2 (drop (p + 3) u)) p u (f ∙ ap (λ (l : List ℕ). type_tag ++ l) k.0) })

  type_passed : (u : List ℕ) → (type : ℕ) × Types n type u → type_part p u ≡ 0
  unfolding kind_check
  type_passed u (type, w) =
      let r = drop (p + 5) u in
      let d : drop (p + 3) u ≡ type ∷ SOH ∷ r = sym (drop-drop 3 p u) ∙ ap (drop 3) w.text in
      else_on _ _ (ap (front 25 type_tag) w.text ∙ front_of_lem 25 type_tag (type ∷ SOH ∷ r)) ∙ ap kind_check d ∙ rw w.known (front_of_lem 25 (SOH ∷ []) r)

  type_keeps : (t : List ℕ) → (type_part p s ≡ 1 → ⊥) → type_part p (s ++ t) ≡ type_part p s
  type_keeps t o =
      else_stays _ _ _ _ o (λ a. rw (drop-append-le p s t room) (front_stays 25 type_tag (drop p s) t a))
      (λ z b. rw (drop-append-le (p + 3) s t (omega (arith, front_length 25 type_tag (drop p s) (λ (y : 25 ≡ 0). omega arith) z, length-drop p s))) (kind_stays (drop (p + 3) s) t b))

  -- `35=`, a type and SOH, where all before is there
  type_made : (t : List ℕ) (type : ℕ) → among type types ≡ true → drop p s ++ t ≡ type_tag ++ (type ∷ SOH ∷ []) → (t : List ℕ) × ((type : ℕ) × Types n type (s ++ t))
  type_made t type k e = (t, (type, record { five = five; known = k; text = at_made (type_tag ++ (type ∷ SOH ∷ [])) [] p (s ++ t) (drop-append-le p s t room ∙ e ∙ sym (append-nil (type_tag ++ (type ∷ SOH ∷ [])))) }))

  type_mends : type_part p s ≡ 1 → (t : List ℕ) × ((type : ℕ) × Types n type (s ++ t))
  unfolding among
  type_mends e =
      ⊎_elim (λ (z : front 25 type_tag (drop p s) ≡ 1).
      let m = front_mends 25 type_tag (drop p s) (λ (y : 25 ≡ 1). omega arith) z in
      type_made (m.0 ++ (48 ∷ SOH ∷ [])) 48 refl (sym (append_assoc (drop p s) m.0 (48 ∷ SOH ∷ [])) ∙ ap (λ (l : List ℕ). l ++ (48 ∷ SOH ∷ [])) m.1))
      (λ (z : front 25 type_tag (drop p s) ≡ 1 → ⊥).
      let b = else_one (front 25 type_tag (drop p s)) (kind_check (drop (p + 3) s)) e z in
      let f : drop p s ≡ type_tag ++ drop (p + 3) s = front_is 25 type_tag (drop p s) (λ (y : 25 ≡ 0). omega arith) b.0 ∙ ap (λ (l : List ℕ). type_tag ++ l) (drop-drop 3 p s) in
      let k = kind_mends (drop (p + 3) s) b.1 in
      type_made k.more k.type k.known (ap (λ (l : List ℕ). l ++ k.more) f ∙ ap (λ (l : List ℕ). type_tag ++ l) k.text))
      (same (front 25 type_tag (drop p s)) 1)

  pub type_decides : Decides 25 (type_part p) (λ (u : List ℕ). (type : ℕ) × Types n type u) s
  type_decides = record {
    no_0 = λ z. omega arith;
    no_1 = λ z. omega arith;
    range = else_range (front_range 25 type_tag (drop p s)) (kind_range (drop (p + 3) s));
    passes = λ t e. type_passes (s ++ t) e;
    passed = λ t q. type_passed (s ++ t) q;
    stays = type_keeps;
    mends = type_mends;
  }

-- 5: THE SUM

module _ (n : ℕ) (s : List ℕ) where
  abbrev e : ℕ
  e = end_of n

  sum_passes : (u : List ℕ) → sum_check e u ≡ 0 → Sums n u
  unfolding sum8
  sum_passes u h =
      let l = sum_room e u h in
      ⊎_elim (λ (c : get_or u (e - 1) 0 ≡ SOH).
      record { there = l; last = c; trailer = at_made (trailer_of (sum8 (take e u))) _ e u (front_is 5 (trailer_of (sum8 (take e u))) (drop e u) (λ (z : 5 ≡ 0). omega arith) (sym (sum_is e u l c) ∙ h)) })
      (λ (c : get_or u (e - 1) 0 ≡ SOH → ⊥). absurd (omega (arith, h, sum_open e u l c)))
      (same (get_or u (e - 1) 0) SOH)

  sum_passed : (u : List ℕ) → Sums n u → sum_check e u ≡ 0
  unfolding sum8
  sum_passed u w = sum_is e u w.there w.last ∙ ap (front 5 (trailer_of (sum8 (take e u)))) w.trailer ∙ front_of_lem 5 (trailer_of (sum8 (take e u))) _

  sum_range : (sum_check e s ≡ 0) ⊎ ((sum_check e s ≡ 1) ⊎ (sum_check e s ≡ 5))
  sum_range =
      ⊎_elim (λ (l : length s < e). inr (inl (sum_short e s l))) (λ (l : e ≤ length s).
      ⊎_elim (λ (c : get_or s (e - 1) 0 ≡ SOH). rw (sum_is e s l c) (front_range 5 (trailer_of (sum8 (take e s))) (drop e s))) (λ (c : get_or s (e - 1) 0 ≡ SOH → ⊥). inr (inr (sum_open e s l c))) (same (get_or s (e - 1) 0) SOH))
      (less (length s) e)

  -- the trailer that belongs there
  whole_made : (b t : List ℕ) → e ≤ length b → get_or b (e - 1) 0 ≡ SOH → drop e b ++ t ≡ trailer_of (sum8 (take e b)) → Sums n (b ++ t)
  unfolding sum8
  whole_made b t l c h =
      record {
        there = simp length-append (omega arith);
        last = get_or-append b t 0 (e - 1) (omega arith) ∙ c;
        trailer = rw (take-append-le e b t l) (at_made (trailer_of (sum8 (take e b))) [] e (b ++ t) (drop-append-le e b t l ∙ h ∙ sym (append-nil (trailer_of (sum8 (take e b))))));
      }

  sum_mends : sum_check e s ≡ 1 → (t : List ℕ) × Sums n (s ++ t)
  sum_mends h =
      ⊎_elim (λ (l : length s < e).
      let z : List ℕ = replicate (e - length s - 1) 0 ++ (SOH ∷ []) in
      let b = s ++ z in
      let k : length b ≡ e = length-append s z ∙ filled l in
      let c : get_or b (e - 1) 0 ≡ SOH = ap (λ (x : List ℕ). get_or x (e - 1) 0) (sym (append_assoc s (replicate (e - length s - 1) 0) (SOH ∷ []))) ∙ get_or_at (s ++ replicate (e - length s - 1) 0) SOH [] 0 (e - 1) (length-append s (replicate (e - length s - 1) 0) ∙ short l) in
      let t = trailer_of (sum8 (take e b)) in
      let d : drop e b ≡ [] = drop_of_length-le b {i = e} (omega arith) in
      (z ++ t, rw (← append_assoc s z t) (whole_made b t (omega arith) c (ap (λ (x : List ℕ). x ++ t) d))))
      (λ (l : e ≤ length s).
      ⊎_elim (λ (c : get_or s (e - 1) 0 ≡ SOH).
      let m = front_mends 5 (trailer_of (sum8 (take e s))) (drop e s) (λ (y : 5 ≡ 1). omega arith) (sym (sum_is e s l c) ∙ h) in
      (m.0, whole_made s m.0 l c m.1))
      (λ (c : get_or s (e - 1) 0 ≡ SOH → ⊥). absurd (omega (arith, h, sum_open e s l c)))
      (same (get_or s (e - 1) 0) SOH))
      (less (length s) e)
    where
      filled : length s < e → length s + length (replicate {A = ℕ} (e - length s - 1) 0 ++ (SOH ∷ [])) ≡ e
      filled l = simp (length-append, length-replicate) (omega arith)

      short : length s < e → length s + length (replicate {A = ℕ} (e - length s - 1) 0) ≡ e - 1
      short l = simp length-replicate (omega arith)

  pub sum_decides : Decides 5 (sum_check e) (Sums n) s
  sum_decides = record {
    no_0 = λ z. omega arith;
    no_1 = λ z. omega arith;
    range = sum_range;
    passes = λ t h. sum_passes (s ++ t) h;
    passed = λ t w. sum_passed (s ++ t) w;
    stays = λ t o. sum_stays s t e (omega arith) o;
    mends = sum_mends;
  }
