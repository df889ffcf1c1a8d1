-- Reading decimal text: a number is given exactly when the bytes say one, what is laid is read, and
-- what is read is laid again as it stood. And no zero is needless.
use Rattle.std.specs.Prelude.{ℕ, ◌+◌, ◌-◌, ◌<◌, ◌≤◌, ◌^◌, ◌≡◌, Bool, true, false, not, ◌&&◌, ◌||◌, List, [], ◌∷◌, leb, eqb, length, get_or, take, drop}
use Rattle.std.proofs.Common.{sym, ap, ◌∙◌, inl, inr, ⊎_elim, add-zero, zero-add, zero-mul, one-mul, mul-le-mul_right, arith, lit<, lit≤, length-drop, length-take-le, take_all, refl, get_or-take, get_or-drop, leb-true, eqb-true, le-leb, eq-eqb, ne_eqb}
use Rattle.std.proofs.Math.Bool.{false-or, or-true}
use Rattle.std.proofs.Math.Nat.{pow-le-pow_right}
use Rattle.std.proofs.lemmas.Bool.{eqb-false, not-true}
use Rattle.terms.specs.Paper.{Paper}
use Rattle.terms.specs.Cases.{two}
use Rattle.octets.specs.Overlays.{length_laid, mid_laid}
use Rattle.octets.specs.Papers.{laid_if_room, laid_there}
use Rattle.digits.specs.Digits.{decimal_of, width_of, shown_of, all_digits, said_by, number, nothing, said_if_digits, readable, digits_at, plain, decimal_at}
use Rattle.digits.specs.Widths.{Width, width_of_lem, width_most, width_one}
use Rattle.digits.specs.Laws.{both, length_decimal, all_rest, all_each, digit_bounds, said_cons, said_below, all_decimal, said_decimal, decimal_said}

-- NO NEEDLESS ZERO

-- a 0 in front adds nothing, and any other digit as much as fewer digits can't say
front_zero : (x : ℕ) (t : List ℕ) → all_digits t ≡ true → x ≡ 48 → said_by (x ∷ t) < 10 ^ length t
front_zero x t h e =
    let z : x - 48 ≡ 0 = omega arith in
    rw (said_cons x t, z, zero-mul, zero-add) (said_below t h)

front_more : (x : ℕ) (t : List ℕ) → 48 < x → 10 ^ length t ≤ said_by (x ∷ t)
front_more x t h = rw (said_cons x t) (omega (arith, mul-le-mul_right {m = 1} {n = x - 48} (10 ^ length t) (omega arith), one-mul (10 ^ length t)))

or_left : (a b : Bool) → a ≡ true → (a || b) ≡ true
or_left a b e = rw e

or_right : (a b : Bool) → b ≡ true → (a || b) ≡ true
or_right a b e = rw (e, or-true a)

-- digits with no needless zero are as many as their number has
pub plain_width : (t : List ℕ) → all_digits t ≡ true → 1 ≤ length t → plain (length t) (get_or t 0 0) ≡ true → Width (said_by t) (length t)
plain_width [] h l p = absurd (omega arith)
plain_width (x ∷ t) h l p =
    record {
      some = l;
      below = said_below (x ∷ t) h;
      least = ⊎_elim (λ (e : eqb (length (x ∷ t)) 1 ≡ true). inl (eqb-true (length (x ∷ t)) 1 e)) (λ (f : eqb (length (x ∷ t)) 1 ≡ false). inr (front f)) (two (eqb (length (x ∷ t)) 1));
    }
  where
    not_48 : eqb (length (x ∷ t)) 1 ≡ false → eqb x 48 ≡ false
    not_48 f = not-true (eqb x 48) (rw (f, false-or) at p)

    front : eqb (length (x ∷ t)) 1 ≡ false → 10 ^ (length (x ∷ t) - 1) ≤ said_by (x ∷ t)
    front f =
        let e : length (x ∷ t) - 1 ≡ length t = omega arith in
        let k : 48 ≤ x = (digit_bounds x (all_each (x ∷ t) 0 h l)).0 in
        let d : x ≡ 48 → ⊥ = eqb-false x 48 (not_48 f) in
        rw e (front_more x t (omega arith))

-- and the digits of a number, no more than it has, have no needless zero
pub width_plain : (t : List ℕ) → all_digits t ≡ true → Width (said_by t) (length t) → plain (length t) (get_or t 0 0) ≡ true
width_plain [] h u = absurd (omega (arith, u.some))
width_plain (x ∷ t) h u =
    ⊎_elim (λ (e : length (x ∷ t) ≡ 1). or_left (eqb (length (x ∷ t)) 1) (not (eqb x 48)) (eq-eqb (length (x ∷ t)) 1 e))
    (λ (k : 10 ^ (length (x ∷ t) - 1) ≤ said_by (x ∷ t)). or_right (eqb (length (x ∷ t)) 1) (not (eqb x 48)) (ap not (ne_eqb x 48 (λ (e : x ≡ 48). front e k))))
    u.least
  where
    front : x ≡ 48 → 10 ^ (length (x ∷ t) - 1) ≤ said_by (x ∷ t) → ⊥
    front e k =
        let m : length (x ∷ t) - 1 ≡ length t = omega arith in
        omega (arith, rw m at k, front_zero x t (all_rest x t h) e)

-- the text that is laid for a number has none
pub shown_plain : (v : ℕ) → v < 10 ^ 20 → plain (width_of v) (get_or (shown_of v) 0 0) ≡ true
shown_plain v h =
    let u : Width v (width_of v) = width_of_lem v h in
    let l : length (shown_of v) ≡ width_of v = length_decimal (width_of v) v in
    let e : said_by (shown_of v) ≡ v = said_decimal (width_of v) v u.below in
    let w : Width (said_by (shown_of v)) (length (shown_of v)) = rw (l, e) u in
    rw l at (width_plain (shown_of v) (all_decimal (width_of v) v) w)

-- GIVEN EXACTLY WHEN

pub said_there : (t : List ℕ) → all_digits t ≡ true → said_if_digits t ≡ number (said_by t)
unfolding said_if_digits
said_there t h = rw h

-- where the front of a text is all of it
pub said_whole : (t : List ℕ) (i v : ℕ) → length t ≤ i → all_digits (take i t) ≡ true → v ≡ said_by (take i t) → number v ≡ said_if_digits t
said_whole t i v h d e =
    let a : take i t ≡ t = take_all i t h in
    ap number (e ∙ ap said_by a) ∙ sym (said_there t (ap all_digits (sym a) ∙ d))

pub said_lacks : (t : List ℕ) → all_digits t ≡ false → said_if_digits t ≡ nothing
unfolding said_if_digits
said_lacks t h = rw h

pub digits_there : (at n : ℕ) (s : List ℕ) → readable at n (length s) ≡ true → digits_at at n s ≡ said_if_digits (take n (drop at s))
unfolding digits_at
digits_there at n s h = rw h

pub digits_lack : (at n : ℕ) (s : List ℕ) → readable at n (length s) ≡ false → digits_at at n s ≡ nothing
unfolding digits_at
digits_lack at n s h = rw h

-- the test of a needless zero
module _ (n b first : ℕ) (e : b ≡ first) where
  unless : (x y : Bool) → not (not x && y) ≡ x || not y
  unless true y = refl
  unless false y = refl

  test : plain n first ≡ not (not (eqb n 1) && eqb b 48)
  test = rw e (sym (unless (eqb n 1) (eqb first 48)))

  pub plain_tested : not (eqb n 1) && eqb b 48 ≡ false → plain n first ≡ true
  plain_tested h = test ∙ ap not h

  pub needless_tested : not (eqb n 1) && eqb b 48 ≡ true → plain n first ≡ false
  needless_tested h = test ∙ ap not h

pub plain_there : (at n : ℕ) (s : List ℕ) → plain n (get_or s at 0) ≡ true → decimal_at at n s ≡ digits_at at n s
unfolding decimal_at
plain_there at n s h = rw h

pub plain_lacks : (at n : ℕ) (s : List ℕ) → plain n (get_or s at 0) ≡ false → decimal_at at n s ≡ nothing
unfolding decimal_at
plain_lacks at n s h = rw h

pub decimal_lacks : (at n : ℕ) (s : List ℕ) → readable at n (length s) ≡ false → decimal_at at n s ≡ nothing
decimal_lacks at n s h = ⊎_elim (λ (p : plain n (get_or s at 0) ≡ true). plain_there at n s p ∙ digits_lack at n s h) (plain_lacks at n s) (two (plain n (get_or s at 0)))

-- n bytes from a place on, of len bytes, can say a number
pub record Readable (at n len : ℕ) : Type 0 where
  pub some : 1 ≤ n
  pub few : n ≤ 19
  pub within : at + n ≤ len

pub readable_is : (at n len : ℕ) → readable at n len ≡ true → Readable at n len
readable_is at n len e =
    let p = both (leb 1 n && leb n 19) (leb (at + n) len) e in
    let q = both (leb 1 n) (leb n 19) p.0 in
    record { some = leb-true 1 n q.0; few = leb-true n 19 q.1; within = leb-true (at + n) len p.1 }

pub is_readable : (at n len : ℕ) → Readable at n len → readable at n len ≡ true
is_readable at n len r = rw (le-leb 1 n r.some, le-leb n 19 r.few, le-leb (at + n) len r.within)

-- the n bytes of s from the place at on say v
pub record Says (at n : ℕ) (s : List ℕ) (v : ℕ) : Type 0 where
  pub place : Readable at n (length s)
  pub digits : all_digits (take n (drop at s)) ≡ true
  pub says : said_by (take n (drop at s)) ≡ v

number_one : (u v : ℕ) → number u ≡ number v → u ≡ v
number_one u v e = ap (λ (p : Paper). get_or p.values 0 0) e

no_number : (v : ℕ) → nothing ≡ number v → ⊥
no_number v e = omega (arith, ap (λ (p : Paper). length p.values) e)

-- a number is given exactly when the bytes say it
pub given_number : (at n : ℕ) (s : List ℕ) (v : ℕ) → Says at n s v → digits_at at n s ≡ number v
given_number at n s v g = digits_there at n s (is_readable at n (length s) g.place) ∙ said_there (take n (drop at s)) g.digits ∙ ap number g.says

pub number_given : (at n : ℕ) (s : List ℕ) (v : ℕ) → digits_at at n s ≡ number v → Says at n s v
number_given at n s v e =
    ⊎_elim (λ (r : readable at n (length s) ≡ true). told r (sym (digits_there at n s r) ∙ e)) (λ (f : readable at n (length s) ≡ false). absurd (no_number v (sym (digits_lack at n s f) ∙ e))) (two (readable at n (length s)))
  where
    told : readable at n (length s) ≡ true → said_if_digits (take n (drop at s)) ≡ number v → Says at n s v
    told r k =
        ⊎_elim (λ (d : all_digits (take n (drop at s)) ≡ true). record { place = readable_is at n (length s) r; digits = d; says = number_one (said_by (take n (drop at s))) v (sym (said_there (take n (drop at s)) d) ∙ k) })
        (λ (f : all_digits (take n (drop at s)) ≡ false). absurd (no_number v (sym (said_lacks (take n (drop at s)) f) ∙ k)))
        (two (all_digits (take n (drop at s))))

pub given_decimal : (at n : ℕ) (s : List ℕ) (v : ℕ) → Says at n s v → plain n (get_or s at 0) ≡ true → decimal_at at n s ≡ number v
given_decimal at n s v g p = plain_there at n s p ∙ given_number at n s v g

pub decimal_given : (at n : ℕ) (s : List ℕ) (v : ℕ) → decimal_at at n s ≡ number v → Says at n s v × (plain n (get_or s at 0) ≡ true)
decimal_given at n s v e =
    ⊎_elim (λ (p : plain n (get_or s at 0) ≡ true). (number_given at n s v (sym (plain_there at n s p) ∙ e), p)) (λ (f : plain n (get_or s at 0) ≡ false). absurd (no_number v (sym (plain_lacks at n s f) ∙ e))) (two (plain n (get_or s at 0)))

-- WHAT IS LAID IS READ

module _ (at n v : ℕ) (d : List ℕ) (room : at + n ≤ length d) where
  -- the text stands where it was laid
  digits_piece : take n (drop at (laid_if_room at (decimal_of n v) d)) ≡ decimal_of n v
  digits_piece =
      let l : length (decimal_of n v) ≡ n = length_decimal n v in
      rw (laid_there at n (decimal_of n v) d l (le-leb (at + n) (length d) room)) (rw l at (mid_laid at (decimal_of n v) d (omega arith)))

  digits_length : length (laid_if_room at (decimal_of n v) d) ≡ length d
  digits_length =
      let l : length (decimal_of n v) ≡ n = length_decimal n v in
      rw (laid_there at n (decimal_of n v) d l (le-leb (at + n) (length d) room)) (length_laid at (decimal_of n v) d (omega arith))

  pub digits_read : 1 ≤ n → n ≤ 19 → v < 10 ^ n → digits_at at n (laid_if_room at (decimal_of n v) d) ≡ number v
  digits_read some few small =
      given_number at n (laid_if_room at (decimal_of n v) d) v
      (record { place = record { some = some; few = few; within = omega (arith, digits_length) }; digits = rw digits_piece (all_decimal n v); says = rw digits_piece (said_decimal n v small) })

-- the first byte of a piece
piece_first : (s : List ℕ) (at n : ℕ) → 1 ≤ n → get_or (take n (drop at s)) 0 0 ≡ get_or s at 0
piece_first s at n h = get_or-take n (drop at s) 0 0 h ∙ get_or-drop at s 0 0 ∙ rw (add-zero at)

pub decimal_read : (at v : ℕ) (d : List ℕ) → at + width_of v ≤ length d → v < 10 ^ 19 → decimal_at at (width_of v) (laid_if_room at (shown_of v) d) ≡ number v
decimal_read at v d room h =
    let u : Width v (width_of v) = width_of_lem v (omega arith) in
    let e : get_or (shown_of v) 0 0 ≡ get_or (laid_if_room at (shown_of v) d) at 0
    = ap (λ (t : List ℕ). get_or t 0 0) (sym (digits_piece at (width_of v) v d room)) ∙ piece_first (laid_if_room at (shown_of v) d) at (width_of v) u.some in
    plain_there at (width_of v) (laid_if_room at (shown_of v) d) (rw e at (shown_plain v (omega arith)))
    ∙ digits_read at (width_of v) v d room u.some (width_most 19 u (lit≤ tt) h) u.below

-- WHAT IS READ IS LAID AGAIN AS IT STOOD

module _ (at n : ℕ) (s : List ℕ) (v : ℕ) where
  piece_length : Says at n s v → length (take n (drop at s)) ≡ n
  piece_length g = length-take-le n (drop at s) (simp length-drop (omega (arith, g.place.within)))

  says_written : Says at n s v → decimal_of n v ≡ take n (drop at s)
  says_written g = rw (← g.says) (rw (piece_length g) at (decimal_said (take n (drop at s)) g.digits))

  pub digits_written : digits_at at n s ≡ number v → decimal_of n v ≡ take n (drop at s)
  digits_written e = says_written (number_given at n s v e)

  -- with no needless zero there are as many digits as the number has
  pub decimal_width : decimal_at at n s ≡ number v → width_of v ≡ n
  decimal_width e =
      let g = (decimal_given at n s v e).0 in
      let l : length (take n (drop at s)) ≡ n = piece_length g in
      let p : plain n (get_or (take n (drop at s)) 0 0) ≡ true = rw (piece_first s at n g.place.some) (decimal_given at n s v e).1 in
      let u : Width v n = rw (l, g.says) at (plain_width (take n (drop at s)) g.digits (omega (arith, g.place.some)) (rw l p)) in
      width_one (width_of_lem v (omega (arith, u.below, pow-le-pow_right {n = 10} (lit< tt) {i = n} {j = 19} g.place.few))) u

  pub decimal_written : decimal_at at n s ≡ number v → shown_of v ≡ take n (drop at s)
  decimal_written e = rw (decimal_width e) (says_written (decimal_given at n s v e).0)
