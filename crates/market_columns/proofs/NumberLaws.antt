-- The laws of a number column. `number_says`, `says_number`: a value is given exactly when the
-- column has 003's form. `column_back`: writing what
-- was read gives the same bytes. `column_fore`: reading what was written gives the value.
use Rattle.std.specs.Prelude.{ℕ, zero, suc, ◌+◌, ◌-◌, ◌*◌, ◌/◌, ◌%◌, ◌<◌, ◌≤◌, ◌^◌, ◌≡◌, refl, true, false, ◌&&◌, drop, replicate}
use Rattle.std.proofs.Common.{sym, ◌∙◌, inl, inr, add-one, pow-suc, mod-eq_of_lt, div-add-mod', mod-lt, div-lt_iff_lt-mul, add-mul, one-mul, mul-le-mul_right, pow-add, arith, lit<, lit≤, length-append, take-append-drop, drop_of_length-le, drop-drop, drop-cons, take_at, drop_at, take_all, length-take-le, get_or-append-add, le-leb, leb-true, eq-eqb, ne_eqb, eqb-true}
use Rattle.std.proofs.Math.Path.{ap}
use Rattle.std.proofs.Math.Logic.{⊎_elim}
use mathlib.Core.List.{List, [], ◌∷◌, ◌++◌, append_assoc}
use Rattle.std.proofs.Math.Nat.{add-zero, pow-zero, mul-add-div_right, mul-add-mod_self_right, div-eq_of_lt, pow-le-pow_right}
use Rattle.std.proofs.Math.Dec.{leb, eqb}
use Rattle.std.proofs.Math.ListN.{length, get_or, take, length-drop, get_or-eq_default}
use Rattle.std.proofs.lemmas.List.{length-replicate, get_or_at}
use Rattle.std.proofs.Math.Seq.{drop-append-add}
use Rattle.terms.specs.Cases.{two, less, same}
use Rattle.terms.specs.Paper.{Paper}
use Rattle.digits.specs.Digits.{decimal_of, shown_of, width_of, width_in, number, nothing, digits_at, decimal_at, all_digits}
use Rattle.digits.specs.Widths.{Width, width_of_lem, width_large}
use Rattle.digits.specs.Laws.{length_decimal, all_decimal, said_decimal, said_below, all_each, digit_bounds}
use Rattle.digits.specs.Texts.{Says, given_number, number_given, given_decimal, decimal_given, digits_written, decimal_written, shown_plain}
use Rattle.market_columns.specs.Numbers.{amount, spaces, sign_of, behind, decimals_at, unless0, joined, start_of, whole_of, number_in, sign_text, decimals_text, number_text, column_text}
use Rattle.market_columns.specs.Pieces.{Either, digits_either, decimal_either, decimal_same, digits_same, spaces_most, spaces_stand, spaces_front, spaces_none}
use Rattle.market_columns.specs.NumberLaws.{ten_pos, NumberFits, decimals_long, SaysOrNot}

-- the column t with d decimals has 003's form, and says v units with the sign m
pub record NumberSays (d : ℕ) (t : List ℕ) (m v : ℕ) : Type 0 where
  pub few : length t ≤ 19
  pub sign : sign_of (get_or t (spaces t) 0) ≡ m
  pub hi : ℕ
  pub lo : ℕ
  pub whole : decimal_at (start_of t) (whole_of d t) t ≡ number hi
  pub parts : decimals_at d (start_of t + whole_of d t) t ≡ number lo
  pub units : hi * 10 ^ d + lo ≡ v
  pub signed : (eqb m 1 && eqb v 0) ≡ false

pub decimals_either : (d p : ℕ) (t : List ℕ) → Either (decimals_at d p t)
unfolding decimals_at
decimals_either d p t =
    ⊎_elim (λ (e : eqb d 0 ≡ true). rw e (inr (0, refl)))
    (λ (f : eqb d 0 ≡ false). rw f (⊎_elim (λ (e : eqb (get_or t p 0) 46 ≡ true). rw e (digits_either (p + 1) d t)) (λ (g : eqb (get_or t p 0) 46 ≡ false). rw g (inl refl)) (two (eqb (get_or t p 0) 46))))
    (two (eqb d 0))

no_amount : (m v : ℕ) → nothing ≡ amount m v → ⊥
no_amount m v e = omega (arith, ap (λ (p : Paper). length p.values) e)

-- GIVEN EXACTLY WHEN

pub says_number : {d : ℕ} {t : List ℕ} {m v : ℕ} → NumberSays d t m v → number_in d t ≡ amount m v
unfolding number_in joined
says_number {d} {t} {m} {v} r = rw (le-leb (length t) 19 r.few, r.whole, r.parts, r.units, r.sign, r.signed)

module _ (d : ℕ) (t : List ℕ) (m v : ℕ) where
  split : length t ≤ 19 → joined d (sign_of (get_or t (spaces t) 0)) (decimal_at (start_of t) (whole_of d t) t).values (decimals_at d (start_of t + whole_of d t) t).values ≡ amount m v → NumberSays d t m v
  unfolding joined
  split few e =
      ⊎_elim (λ (n : decimal_at (start_of t) (whole_of d t) t ≡ nothing). absurd (no_amount m v (rw n at e)))
      (λ (h : (x : ℕ) × (decimal_at (start_of t) (whole_of d t) t ≡ number x)).
      ⊎_elim (λ (n : decimals_at d (start_of t + whole_of d t) t ≡ nothing). absurd (no_amount m v (rw (h.1, n) at e)))
      (λ (l : (x : ℕ) × (decimals_at d (start_of t + whole_of d t) t ≡ number x)). found h.0 l.0 h.1 l.1 (rw (h.1, l.1) at e))
      (decimals_either d (start_of t + whole_of d t) t))
      (decimal_either (start_of t) (whole_of d t) t)
    where
      found : (x y : ℕ) → decimal_at (start_of t) (whole_of d t) t ≡ number x → decimals_at d (start_of t + whole_of d t) t ≡ number y → unless0 (sign_of (get_or t (spaces t) 0)) (x * 10 ^ d + y) ≡ amount m v → NumberSays d t m v
      found x y p q u =
          ⊎_elim (λ (z : (eqb (sign_of (get_or t (spaces t) 0)) 1 && eqb (x * 10 ^ d + y) 0) ≡ true). absurd (no_amount m v (rw z at u)))
          (λ (z : (eqb (sign_of (get_or t (spaces t) 0)) 1 && eqb (x * 10 ^ d + y) 0) ≡ false).
          let a : amount (sign_of (get_or t (spaces t) 0)) (x * 10 ^ d + y) ≡ amount m v = rw z at u in
          let b : sign_of (get_or t (spaces t) 0) ≡ m = ap (λ (r : Paper). get_or r.values 0 0) a in
          let c : x * 10 ^ d + y ≡ v = ap (λ (r : Paper). get_or r.values 1 0) a in
          record { few = few; sign = b; hi = x; lo = y; whole = p; parts = q; units = c; signed = rw (b, c) at z })
          (two (eqb (sign_of (get_or t (spaces t) 0)) 1 && eqb (x * 10 ^ d + y) 0))

  pub number_says : number_in d t ≡ amount m v → NumberSays d t m v
  unfolding number_in
  number_says e =
      ⊎_elim (λ (h : leb (length t) 19 ≡ true). split (leb-true (length t) 19 h) (rw h at e)) (λ (f : leb (length t) 19 ≡ false). absurd (no_amount m v (rw f at e))) (two (leb (length t) 19))

pub whole_of_lem : (d hi lo : ℕ) → lo < 10 ^ d → (hi * 10 ^ d + lo) / 10 ^ d ≡ hi
whole_of_lem d hi lo h = mul-add-div_right (ten_pos d) hi lo ∙ rw (div-eq_of_lt h, add-zero)

pub parts_of : (d hi lo : ℕ) → lo < 10 ^ d → (hi * 10 ^ d + lo) % 10 ^ d ≡ lo
parts_of d hi lo h = mul-add-mod_self_right hi (10 ^ d) lo ∙ mod-eq_of_lt h

-- a number of fewer digits than are counted
few_digits : (f v : ℕ) → width_in f v < f → v < 10 ^ f
few_digits zero v h = absurd (omega arith)
few_digits (suc f) v h =
    ⊎_elim (λ (l : 9 < v). rw pow-suc ((div-lt_iff_lt-mul (lit< tt)).0 (few_digits f (v / 10) (omega (arith, width_large f v l))))) (λ (l : v ≤ 9). rw pow-suc (omega (arith, ten_pos f))) (less 9 v)

-- COLUMN-BACK

chain : (p q : ℕ) (t : List ℕ) → take q (drop p t) ++ drop (p + q) t ≡ drop p t
chain p q t = rw (← drop-drop q p t) (take-append-drop q (drop p t))

sign_place : (t : List ℕ) (k : ℕ) → sign_text (sign_of (get_or t k 0)) ≡ take (sign_of (get_or t k 0)) (drop k t)
sign_place t k =
    ⊎_elim (λ (e : eqb (get_or t k 0) 45 ≡ true). rw e (minus (eqb-true (get_or t k 0) 45 e))) (λ (f : eqb (get_or t k 0) 45 ≡ false). rw f) (two (eqb (get_or t k 0) 45))
  where
    minus : get_or t k 0 ≡ 45 → 45 ∷ [] ≡ take 1 (drop k t)
    minus e =
        ⊎_elim (λ (l : k < length t). rw (drop-cons t k 0 l, e)) (λ (l : length t ≤ k). absurd (omega (arith, get_or-eq_default t 0 {n = k} l))) (less k (length t))

-- decimals that say lo, from the place p on
module _ (d p lo : ℕ) (t : List ℕ) (g : decimals_at d p t ≡ number lo) where
  point : 0 < d → (get_or t p 0 ≡ 46) × (digits_at (p + 1) d t ≡ number lo)
  unfolding decimals_at
  point some =
      let q = rw (ne_eqb d 0 (λ (z : d ≡ 0). omega arith)) at g in
      ⊎_elim (λ (e : eqb (get_or t p 0) 46 ≡ true). (eqb-true (get_or t p 0) 46 e, rw e at q))
      (λ (f : eqb (get_or t p 0) 46 ≡ false). absurd (omega (arith, ap (λ (x : Paper). length x.values) (rw f at q))))
      (two (eqb (get_or t p 0) 46))

  lo_some : 0 < d → lo < 10 ^ d
  lo_some some =
      let r = number_given (p + 1) d t lo (point some).1 in
      let l : length (take d (drop (p + 1) t)) ≡ d = length-take-le d (drop (p + 1) t) (rw length-drop (omega (arith, r.place.within))) in
      rw (r.says, l) at (said_below (take d (drop (p + 1) t)) r.digits)

  pub lo_below : lo < 10 ^ d
  unfolding decimals_at
  lo_below =
      ⊎_elim (λ (z : d ≡ 0). rw (z, pow-zero) (omega (arith, ap (λ (x : Paper). get_or x.values 0 0) (rw (eq-eqb d 0 z) at g))))
      (λ (f : d ≡ 0 → ⊥). lo_some (omega arith))
      (same d 0)

  decimals_back : (v : ℕ) → v % 10 ^ d ≡ lo → p + behind d ≡ length t → decimals_text d v ≡ drop p t
  decimals_back v o e =
      ⊎_elim (λ (z : d ≡ 0). let b : eqb d 0 ≡ true = eq-eqb d 0 z in rw b (sym (none (rw b at e))))
      (λ (f : d ≡ 0 → ⊥). let b : eqb d 0 ≡ false = ne_eqb d 0 f in rw b (some (omega arith) (rw b at e)))
      (same d 0)
    where
      none : p + 0 ≡ length t → drop p t ≡ []
      none h = drop_of_length-le t {i = p} (omega arith)

      some : 0 < d → p + (d + 1) ≡ length t → 46 ∷ decimal_of d (v % 10 ^ d) ≡ drop p t
      some h k =
          let q : take d (drop (p + 1) t) ≡ drop (p + 1) t = take_all d (drop (p + 1) t) (rw length-drop (omega arith)) in
          rw (o, digits_written (p + 1) d t lo (point h).1, q, drop-cons t p 0 (omega arith), (point h).0, ← add-one p)

module _ (d : ℕ) (t : List ℕ) (m v : ℕ) (r : NumberSays d t m v) where
  said : Says (start_of t) (whole_of d t) t r.hi
  said = (decimal_given (start_of t) (whole_of d t) t r.hi r.whole).0

  ends : start_of t + whole_of d t + behind d ≡ length t
  ends = omega (arith, said.place.some)

  starts : start_of t ≡ spaces t + m
  starts = ap (λ (x : ℕ). spaces t + x) r.sign

  low : r.lo < 10 ^ d
  low = lo_below d (start_of t + whole_of d t) r.lo t r.parts

  pub text_back : number_text d m v ≡ drop (spaces t) t
  unfolding number_text
  text_back =
      let w : v / 10 ^ d ≡ r.hi = ap (λ (x : ℕ). x / 10 ^ d) (sym r.units) ∙ whole_of_lem d r.hi r.lo low in
      let p : v % 10 ^ d ≡ r.lo = ap (λ (x : ℕ). x % 10 ^ d) (sym r.units) ∙ parts_of d r.hi r.lo low in
      let g : sign_text m ≡ take m (drop (spaces t) t) = rw r.sign at (sign_place t (spaces t)) in
      rw (w, decimals_back d (start_of t + whole_of d t) r.lo t r.parts v p ends, decimal_written (start_of t) (whole_of d t) t r.hi r.whole, chain (start_of t) (whole_of d t) t, g, starts, chain (spaces t) m t)

  -- writing what was read gives the same bytes
  pub says_back : column_text (length t) d m v ≡ t
  unfolding column_text
  says_back =
      let k : length t - (length t - spaces t) ≡ spaces t = omega (arith, spaces_most t) in
      rw (text_back, length-drop, k, ← spaces_stand t) (take-append-drop (spaces t) t)

pub column_back : (d : ℕ) (t : List ℕ) (m v : ℕ) → number_in d t ≡ amount m v → column_text (length t) d m v ≡ t
column_back d t m v e = says_back d t m v (number_says d t m v e)

digit_first : (a c : List ℕ) → all_digits a ≡ true → 1 ≤ length a → (spaces (a ++ c) ≡ 0) × (sign_of (get_or (a ++ c) 0 0) ≡ 0)
digit_first [] c h l = absurd (omega arith)
digit_first (b ∷ a) c h l =
    let k = digit_bounds b (all_each (b ∷ a) 0 h l) in
    (spaces_none b (a ++ c) (λ (e : b ≡ 32). omega (arith, k.0)), rw (ne_eqb b 45 (λ (e : b ≡ 45). omega (arith, k.0))))

decimals_fore : (d v : ℕ) (a : List ℕ) → d ≤ 19 → decimals_at d (length a) (a ++ decimals_text d v) ≡ number (v % 10 ^ d)
unfolding decimals_at
decimals_fore d v a h =
    ⊎_elim (λ (z : d ≡ 0). rw (eq-eqb d 0 z) (ap number (rw (z, pow-zero) (omega arith)))) (λ (f : d ≡ 0 → ⊥). rw (ne_eqb d 0 f, get_or_at a 46 (decimal_of d (v % 10 ^ d)) 0 (length a) refl) (read (omega arith))) (same d 0)
  where
    read : 1 ≤ d → digits_at (length a + 1) d (a ++ (46 ∷ decimal_of d (v % 10 ^ d))) ≡ number (v % 10 ^ d)
    read l =
        let n : length (decimal_of d (v % 10 ^ d)) ≡ d = length_decimal d (v % 10 ^ d) in
        let e : take d (decimal_of d (v % 10 ^ d)) ≡ decimal_of d (v % 10 ^ d) = take_all d (decimal_of d (v % 10 ^ d)) (omega arith) in
        let q : take d (drop (length a + 1) (a ++ (46 ∷ decimal_of d (v % 10 ^ d)))) ≡ take d (drop 0 (decimal_of d (v % 10 ^ d))) = rw (drop-append-add a (46 ∷ decimal_of d (v % 10 ^ d)) 1) in
        digits_same (length a + 1) d (a ++ (46 ∷ decimal_of d (v % 10 ^ d))) 0 (decimal_of d (v % 10 ^ d)) (simp length-append (omega arith)) (omega arith) q
        ∙ given_number 0 d (decimal_of d (v % 10 ^ d)) (v % 10 ^ d)
        (record { place = record { some = l; few = h; within = omega arith }; digits = rw e (all_decimal d (v % 10 ^ d)); says = rw e (said_decimal d (v % 10 ^ d) (mod-lt v (ten_pos d))) })

module _ (w d m v : ℕ) (f : NumberFits w d m v) where
  abbrev hi : ℕ
  hi = v / 10 ^ d

  abbrev x : List ℕ
  x = number_text d m v

  abbrev k : ℕ
  k = w - length x

  sign_long : length (sign_text m) ≡ m
  sign_long =
      ⊎_elim (λ (z : m ≡ 1). rw z) (λ (z : m ≡ 1 → ⊥). let o : m ≡ 0 = omega (arith, f.sign) in rw o) (same m 1)

  long : length x ≡ m + (width_of hi + behind d)
  unfolding number_text
  long = simp (length-append, length_decimal, decimals_long) (ap (λ (n : ℕ). n + (width_of (v / 10 ^ d) + behind d)) sign_long)

  pub column_long : length (column_text w d m v) ≡ w
  unfolding column_text
  column_long = simp (length-append, length-replicate) (omega (arith, f.room))

  small : hi < 10 ^ 20
  small = few_digits 20 hi (omega (arith, f.few, f.room, long))

  wide : Width hi (width_of hi)
  wide = width_of_lem hi small

  shown_long : length (shown_of hi) ≡ width_of hi
  shown_long = length_decimal (width_of hi) hi

  -- the first byte of the text is a minus or a digit
  front : (spaces x ≡ 0) × (sign_of (get_or x 0 0) ≡ m)
  unfolding number_text
  front =
      ⊎_elim (λ (z : m ≡ 1). rw z (spaces_none 45 (shown_of (v / 10 ^ d) ++ decimals_text d v) (λ (e : 45 ≡ 32). omega arith), refl))
      (λ (z : m ≡ 1 → ⊥). let o : m ≡ 0 = omega (arith, f.sign) in rw o (digit_first (shown_of (v / 10 ^ d)) (decimals_text d v) (all_decimal (width_of (v / 10 ^ d)) (v / 10 ^ d)) (rw length_decimal wide.some)))
      (same m 1)

  abbrev t : List ℕ
  t = column_text w d m v

  t_spaces : spaces t ≡ k
  unfolding column_text
  t_spaces = spaces_front k x front.0

  t_sign : sign_of (get_or t (spaces t) 0) ≡ m
  unfolding column_text
  t_sign =
      let e : get_or (replicate k 32 ++ x) k 0 ≡ get_or x 0 0 = rw (length-replicate {A = ℕ} k 32, add-zero k) at (get_or-append-add (replicate k 32) x 0 0) in
      rw t_spaces (ap sign_of e ∙ front.1)

  t_start : start_of t ≡ k + m
  t_start = rw (t_sign, t_spaces)

  t_whole : whole_of d t ≡ width_of hi
  t_whole = rw (t_start, column_long) (omega (arith, long, f.room))

  -- what stands before the decimals, and before the whole part
  abbrev head : List ℕ
  head = replicate k 32 ++ sign_text m

  head_long : length head ≡ k + m
  head_long = simp (length-append, length-replicate) (ap (λ (n : ℕ). k + n) sign_long)

  parted : t ≡ head ++ (shown_of hi ++ decimals_text d v)
  unfolding column_text number_text
  parted = simp append_assoc

  whole_fore : decimal_at (start_of t) (whole_of d t) t ≡ number hi
  whole_fore =
      let e : take (width_of hi) (shown_of hi) ≡ shown_of hi = take_all (width_of hi) (shown_of hi) (omega (arith, shown_long)) in
      let q : take (width_of hi) (drop (k + m) t) ≡ take (width_of hi) (drop 0 (shown_of hi))
      = rw (parted, drop_at head (shown_of hi ++ decimals_text d v) (k + m) head_long, take_at (shown_of hi) (decimals_text d v) (width_of hi) shown_long, e) in
      rw (t_whole, t_start)
      (decimal_same (k + m) (width_of hi) t 0 (shown_of hi) (rw column_long (omega (arith, long, f.room))) (omega (arith, shown_long)) q
      ∙ given_decimal 0 (width_of hi) (shown_of hi) hi
      (record { place = record { some = wide.some; few = omega (arith, long, f.room, f.few); within = omega (arith, shown_long) }; digits = rw e (all_decimal (width_of hi) hi); says = rw e (said_decimal (width_of hi) hi wide.below) })
      (shown_plain hi small))

  pub d_few : d ≤ 19
  d_few = ⊎_elim (λ (z : d ≡ 0). omega arith) (λ (n : d ≡ 0 → ⊥). let b : behind d ≡ d + 1 = rw (ne_eqb d 0 n) in omega (arith, b, long, f.room, f.few)) (same d 0)

  parts_fore : decimals_at d (start_of t + whole_of d t) t ≡ number (v % 10 ^ d)
  parts_fore =
      let l : length (head ++ shown_of hi) ≡ k + m + width_of hi = rw (length-append head (shown_of hi), head_long, shown_long) in
      let p : t ≡ (head ++ shown_of hi) ++ decimals_text d v = parted ∙ sym (append_assoc head (shown_of hi) (decimals_text d v)) in
      rw (t_whole, t_start, ← l, p) (decimals_fore d v (head ++ shown_of hi) d_few)

  pub fits_says : NumberSays d t m v
  fits_says = record { few = rw column_long f.few; sign = t_sign; hi = hi; lo = v % 10 ^ d; whole = whole_fore; parts = parts_fore; units = div-add-mod' v (10 ^ d); signed = f.signed }

  -- 64 bits hold its units
  pub units_below : v < 256 ^ 8
  units_below =
      let e : width_of hi + d ≤ 19
      = ⊎_elim (λ (z : d ≡ 0). omega (arith, long, f.room, f.few)) (λ (n : d ≡ 0 → ⊥). let b : behind d ≡ d + 1 = rw (ne_eqb d 0 n) in omega (arith, b, long, f.room, f.few)) (same d 0) in
      let a : hi * 10 ^ d + 10 ^ d ≤ 10 ^ width_of hi * 10 ^ d = rw (add-mul, one-mul) at (mul-le-mul_right {m = hi + 1} {n = 10 ^ width_of hi} (10 ^ d) (omega (arith, wide.below))) in
      let b : 10 ^ width_of hi * 10 ^ d ≤ 10 ^ 19 = rw (← pow-add 10 (width_of hi) d) (pow-le-pow_right {n = 10} (lit< tt) {i = width_of hi + d} {j = 19} e) in
      omega (arith, a, b, div-add-mod' v (10 ^ d), mod-lt v (ten_pos d))

  -- reading what was written gives the value
  pub column_fore : number_in d (column_text w d m v) ≡ amount m v
  column_fore = says_number fits_says

-- WHAT IS READ FITS; AND A COLUMN SAYS ONE AMOUNT OR NONE

sign_few : (b : ℕ) → sign_of b ≤ 1
sign_few b = ⊎_elim (λ (e : eqb b 45 ≡ true). rw e (lit≤ tt)) (λ (e : eqb b 45 ≡ false). rw e (lit≤ tt)) (two (eqb b 45))

pub says_fits : (d : ℕ) (t : List ℕ) (m v : ℕ) → NumberSays d t m v → NumberFits (length t) d m v
says_fits d t m v r =
    record {
      few = r.few;
      sign = rw r.sign at (sign_few (get_or t (spaces t) 0));
      signed = r.signed;
      room = rw (text_back d t m v r, length-drop) (omega arith);
    }

pub number_either : (d : ℕ) (t : List ℕ) → SaysOrNot (number_in d t)
unfolding number_in joined
number_either d t =
    ⊎_elim (λ (f : leb (length t) 19 ≡ true). rw f (inner f)) (λ (f : leb (length t) 19 ≡ false). rw f (inl refl)) (two (leb (length t) 19))
  where
    one : (m v : ℕ) → SaysOrNot (unless0 m v)
    one m v = ⊎_elim (λ (e : (eqb m 1 && eqb v 0) ≡ true). rw e (inl refl)) (λ (e : (eqb m 1 && eqb v 0) ≡ false). rw e (inr (m, (v, refl)))) (two (eqb m 1 && eqb v 0))

    inner : leb (length t) 19 ≡ true → SaysOrNot (joined d (sign_of (get_or t (spaces t) 0)) (decimal_at (start_of t) (whole_of d t) t).values (decimals_at d (start_of t + whole_of d t) t).values)
    inner f =
        ⊎_elim (λ (n : decimal_at (start_of t) (whole_of d t) t ≡ nothing). rw n (inl refl))
        (λ (h : (x : ℕ) × (decimal_at (start_of t) (whole_of d t) t ≡ number x)).
        ⊎_elim (λ (n : decimals_at d (start_of t + whole_of d t) t ≡ nothing). rw (h.1, n) (inl refl))
        (λ (l : (x : ℕ) × (decimals_at d (start_of t + whole_of d t) t ≡ number x)). rw (h.1, l.1) (one (sign_of (get_or t (spaces t) 0)) (h.0 * 10 ^ d + l.0)))
        (decimals_either d (start_of t + whole_of d t) t))
        (decimal_either (start_of t) (whole_of d t) t)
