-- The check 26, a piece at a time: what a pass over the fields may conclude at each.
use Prim.Native.Nat.{ℕ, zero, suc, ◌+◌, ◌-◌, ◌<◌, ◌≤◌}
use Rattle.std.specs.Prelude.{◌≡◌, Bool, false, ◌&&◌, ◌⊎◌, eqb, ltb, drop}
use Rattle.std.proofs.Math.Path.{refl, sym, ap}
use Rattle.std.proofs.Common.{◌∙◌, add-one, add-zero, lit<, lit≤, drop_of_length-le, length-take-le, take-add, drop_at, drop-drop, take_all, get_or-take, get_or-drop}
use Rattle.std.proofs.Math.Bool.{true}
use mathlib.Core.List.{List, [], ◌∷◌}
use Rattle.std.proofs.Math.Logic.{inl, inr, ⊎_elim}
use native.Mathlib.Omega.{arith}
use Rattle.std.proofs.Math.Dec.{leb}
use Rattle.std.proofs.Math.ListN.{length, get_or, take, length-drop, get_or-eq_default}
use Rattle.std.proofs.Math.Seq.{take-take}
use borrow.Author.Tests.{lt-ltb, le-ltb, le-leb, ltb-true, eqb-true}
use Rattle.terms.specs.Paper.{Paper, answer, refusal, pick, one_number}
use Rattle.terms.specs.Cases.{two, less, clash, and_false}
use Rattle.digits.specs.Laws.{both}
use Rattle.digits.specs.Digits.{decimal_at, digits_at, all_digits, said_by, number, nothing}
use Rattle.digits.specs.Texts.{Says, given_decimal, decimal_lacks}
use Rattle.octets.specs.Octets.{numeral}
use Rattle.step_tags.specs.Table.{row_of, has}
use Rattle.step_tags.specs.Forms.{form_ok, some, is_unreal}
use Rattle.step_spec.specs.Pieces.{SOH, equals, until_of, pieces}
use Rattle.step_spec.specs.PieceLaws.{part, until_le, pieces_cut, pieces_last}
use Rattle.step_spec.specs.Fields.{is_field, tag_of, value_of, fits, all_below, begins52, unreal_in, field_front}

-- the piece at the front
abbrev pub piece : List ℕ → List ℕ
piece t = take (until_of SOH t) t

-- the row that it says
abbrev pub row_in : List ℕ → ℕ
row_in t = row_of (tag_of (piece t))

module _ (type : ℕ) (p : List ℕ) where
  pub unfit_field : is_field p ≡ false → fits type p ≡ false
  unfolding fits
  unfit_field h = rw h

  pub unfit_type : has type (row_of (tag_of p)) ≡ false → fits type p ≡ false
  unfolding fits
  unfit_type h = rw (h, and_false)

  pub unfit_form : form_ok (row_of (tag_of p)) (value_of p) ≡ false → fits type p ≡ false
  unfolding fits
  unfit_form h = rw (h, and_false)

  pub fit : is_field p ≡ true → has type (row_of (tag_of p)) ≡ true → form_ok (row_of (tag_of p)) (value_of p) ≡ true → fits type p ≡ true
  unfolding fits
  fit a b c = rw (a, b, c)

-- ALL THAT A TYPE NEEDS

module _ (f : ℕ → Bool) where
  pub below_one : (i : ℕ) → all_below i f ≡ true → f i ≡ true → all_below (i + 1) f ≡ true
  unfolding all_below
  below_one i a b = rw (add-one i, a, b)

  pub below_stops : (i n : ℕ) → i < n → f i ≡ false → all_below n f ≡ false
  unfolding all_below
  below_stops i zero h e = absurd (omega arith)
  below_stops i (suc n) h e = ⊎_elim (λ (k : i ≡ n). rw (← k, e) (and_false (all_below i f))) (λ (l : i < n). rw (below_stops i n l e)) (last i n h)
    where
      last : (i n : ℕ) → i < suc n → (i ≡ n) ⊎ (i < n)
      last i n h = ⊎_elim (λ (l : i < n). inr l) (λ (l : n ≤ i). inl (omega arith)) (less i n)

  pub below_each : (n i : ℕ) → all_below n f ≡ true → i < n → f i ≡ true
  below_each n i a h = ⊎_elim (λ (t : f i ≡ true). t) (λ (e : f i ≡ false). absurd (clash a (below_stops i n h e))) (two (f i))

-- THE FIELD AT A PLACE

-- what a field's paper says of the bytes t behind the place at
pub record FieldIs (at : ℕ) (t : List ℕ) (tag value n next : ℕ) : Type 0 where
  pub found : until_of SOH t < length t
  pub is : is_field (piece t) ≡ true
  pub tags : tag ≡ tag_of (piece t)
  pub starts : value ≡ at + until_of equals (piece t) + 1
  pub long : n ≡ length (value_of (piece t))
  pub ends : next ≡ at + until_of SOH t + 1

module _ (at : ℕ) (t : List ℕ) where
  abbrev test : Bool
  test = ltb (until_of SOH t) (length t) && is_field (piece t)

  abbrev answer_is : Paper
  answer_is = answer 0 (tag_of (piece t) ∷ (at + until_of equals (piece t) + 1) ∷ length (value_of (piece t)) ∷ (at + until_of SOH t + 1) ∷ [])

  front_there : test ≡ true → field_front at t ≡ answer_is
  unfolding field_front
  front_there h = rw h

  front_lacks : test ≡ false → field_front at t ≡ refusal 26
  unfolding field_front
  front_lacks h = rw h

  pub field_there : until_of SOH t < length t → is_field (piece t) ≡ true → field_front at t ≡ answer_is
  field_there h e = front_there (rw (lt-ltb _ _ h, e))

  pub field_open : length t ≤ until_of SOH t → field_front at t ≡ refusal 26
  field_open h = front_lacks (rw (le-ltb _ _ h))

  pub field_none : is_field (piece t) ≡ false → field_front at t ≡ refusal 26
  field_none e = front_lacks (rw e (and_false (ltb (until_of SOH t) (length t))))

  pub field_is : (tag v n next : ℕ) → answer 0 (tag ∷ v ∷ n ∷ next ∷ []) ≡ field_front at t → FieldIs at t tag v n next
  field_is tag v n next e = ⊎_elim there (λ (f : test ≡ false). absurd (omega (arith, one_number (e ∙ front_lacks f)))) (two test)
    where
      there : test ≡ true → FieldIs at t tag v n next
      there h =
          let w = e ∙ front_there h in
          let b = both (ltb (until_of SOH t) (length t)) (is_field (piece t)) h in
          record {
            found = ltb-true _ _ b.0;
            is = b.1;
            tags = ap (λ (p : Paper). get_or p.values 0 0) w;
            starts = ap (λ (p : Paper). get_or p.values 1 0) w;
            long = ap (λ (p : Paper). get_or p.values 2 0) w;
            ends = ap (λ (p : Paper). get_or p.values 3 0) w;
          }

  pub field_not : refusal 26 ≡ field_front at t → test ≡ false
  field_not e = ⊎_elim (λ (h : test ≡ true). absurd (omega (arith, one_number (e ∙ front_there h)))) (λ (f : test ≡ false). f) (two test)

-- THE VALUE IN ITS BYTES

-- behind m bytes of the first n
pub drop_take : (m k : ℕ) (l : List ℕ) → m ≤ length l → drop m (take (m + k) l) ≡ take k (drop m l)
drop_take m k l h = rw (take-add m k l) (drop_at (take m l) (take k (drop m l)) m (length-take-le m l h))

split_of : (u m : ℕ) → m ≤ u → u ≡ m + (u - m)
split_of u m h = omega arith

sum_of : (at q : ℕ) → at + q + 1 ≡ at + (q + 1)
sum_of at q = omega arith

module _ (at u : ℕ) (s : List ℕ) (room : u ≤ length (drop at s)) where
  -- the part of s that a value of a piece of u bytes is
  value_mid : (q : ℕ) → q < u → take (length (drop (q + 1) (take u (drop at s)))) (drop (at + q + 1) s) ≡ drop (q + 1) (take u (drop at s))
  value_mid q h =
      let d : drop (q + 1) (take u (drop at s)) ≡ take (u - (q + 1)) (drop (q + 1) (drop at s))
      = ap (λ (n : ℕ). drop (q + 1) (take n (drop at s))) (split_of u (q + 1) (omega arith)) ∙ drop_take (q + 1) (u - (q + 1)) (drop at s) (omega arith) in
      let n : length (take (u - (q + 1)) (drop (q + 1) (drop at s))) ≡ u - (q + 1) = length-take-le _ _ (simp length-drop (omega (arith, rw length-drop at room))) in
      let p : drop (at + q + 1) s ≡ drop (q + 1) (drop at s) = ap (λ (n : ℕ). drop n s) (sum_of at q) ∙ sym (drop-drop (q + 1) at s) in
      rw (d, n, p)

  first_same : (k : ℕ) → 0 < k → k ≤ u → get_or (take u (drop at s)) 0 0 ≡ get_or s at 0
  first_same k p h = get_or-take u (drop at s) 0 0 (omega arith) ∙ get_or-drop at s 0 0 ∙ rw (add-zero at)

  digits_same : (k : ℕ) → 0 < k → k ≤ u → digits_at 0 k (take u (drop at s)) ≡ digits_at at k s
  unfolding digits_at
  digits_same k p h =
      let a : leb (0 + k) (length (take u (drop at s))) ≡ true = le-leb (0 + k) (length (take u (drop at s))) (rw (length-take-le u (drop at s) room) (omega arith)) in
      let b : leb (at + k) (length s) ≡ true = le-leb (at + k) (length s) (omega (arith, rw length-drop at room)) in
      let e : take k (take u (drop at s)) ≡ take k (drop at s) = take-take k u (drop at s) h in
      rw (a, b, e)

  -- the number of the first k bytes of a piece is that of the bytes themselves
  pub decimal_same : (k : ℕ) → k ≤ u → decimal_at 0 k (take u (drop at s)) ≡ decimal_at at k s
  unfolding decimal_at
  decimal_same k h =
      ⊎_elim (λ (p : 0 < k). rw (first_same k p h, digits_same k p h))
      (λ (z : k ≤ 0). let e : k ≡ 0 = omega arith in rw e (decimal_lacks 0 0 (take u (drop at s)) refl ∙ sym (decimal_lacks at 0 s refl)))
      (less 0 k)

-- a value is the part of s that its paper names
pub value_there : (at : ℕ) (s : List ℕ) → is_field (piece (drop at s)) ≡ true → take (length (value_of (piece (drop at s)))) (drop (at + until_of equals (piece (drop at s)) + 1) s) ≡ value_of (piece (drop at s))
unfolding value_of is_field
value_there at s f =
    let r = until_le SOH (drop at s) in
    let q : until_of equals (piece (drop at s)) < length (piece (drop at s)) = ltb-true _ _ (both (ltb (until_of equals (piece (drop at s))) (length (piece (drop at s)))) _ f).0 in
    value_mid at (until_of SOH (drop at s)) s r (until_of equals (piece (drop at s))) (rw (length-take-le (until_of SOH (drop at s)) (drop at s) r) at q)

-- THE CHECK 7, A PIECE AT A TIME

pub unreal_front : (s : List ℕ) → 0 < length s → unreal_in (pieces s) ≡ pick (begins52 (piece s)) (is_unreal (drop 3 (piece s))) (unreal_in (pieces (drop (suc (until_of SOH s)) s)))
unfolding unreal_in pieces
unreal_front s p =
    ⊎_elim (λ (h : until_of SOH s < length s). ap unreal_in (pieces_cut s h))
    (λ (h : length s ≤ until_of SOH s). let d : drop (suc (until_of SOH s)) s ≡ [] = drop_of_length-le s {i = suc (until_of SOH s)} (omega arith) in ap unreal_in (pieces_last s p h) ∙ rw (take_all (until_of SOH s) s h, d))
    (less (until_of SOH s) (length s))

-- WHAT THE LOOPS FIND

-- from a place to the end
pub until_all : (b at : ℕ) (s : List ℕ) → until_of b (part s at (length s)) ≡ until_of b (drop at s)
until_all b at s = ap (until_of b) (take_all (length s - at) (drop at s) (simp length-drop (omega arith)))

-- the first SOH behind the place at stands at `end`, and the first `=` before it at `mark`
module _ (at : ℕ) (s : List ℕ) (end mark : ℕ) (e : end ≡ at + until_of SOH (drop at s)) (m : mark ≡ at + until_of equals (piece (drop at s))) where
  piece_long : length (piece (drop at s)) ≡ until_of SOH (drop at s)
  piece_long = length-take-le (until_of SOH (drop at s)) (drop at s) (until_le SOH (drop at s))

  moved : decimal_at 0 (until_of equals (piece (drop at s))) (piece (drop at s)) ≡ decimal_at at (mark - at) s
  moved =
      let k : mark - at ≡ until_of equals (piece (drop at s)) = omega arith in
      decimal_same at (until_of SOH (drop at s)) s (until_le SOH (drop at s)) (until_of equals (piece (drop at s))) (omega (arith, piece_long, until_le equals (piece (drop at s)))) ∙ rw k

  pub no_mark : mark ≡ end → field_front at (drop at s) ≡ refusal 26
  unfolding is_field
  no_mark h = field_none at (drop at s) (rw (le-ltb (until_of equals (piece (drop at s))) (length (piece (drop at s))) (omega (arith, piece_long))))

  pub no_tag : nothing ≡ decimal_at at (mark - at) s → field_front at (drop at s) ≡ refusal 26
  unfolding is_field some
  no_tag h = field_none at (drop at s) (rw (moved ∙ sym h) (and_false (ltb (until_of equals (piece (drop at s))) (length (piece (drop at s))))))

  module _ (tag : ℕ) (found : end < length s) (some-mark : mark < end) (h : number tag ≡ decimal_at at (mark - at) s) where
    field_good : is_field (piece (drop at s)) ≡ true
    unfolding is_field some
    field_good = rw (lt-ltb (until_of equals (piece (drop at s))) (length (piece (drop at s))) (omega (arith, piece_long)), moved ∙ sym h)

    tag_good : tag_of (piece (drop at s)) ≡ tag
    unfolding tag_of
    tag_good = ap (λ (p : Paper). get_or p.values 0 0) (moved ∙ sym h)

    value_long : length (value_of (piece (drop at s))) ≡ end - mark - 1
    unfolding value_of
    value_long = length-drop (until_of equals (piece (drop at s)) + 1) (piece (drop at s)) ∙ omega (arith, piece_long)

    pub field_found : answer 0 (tag ∷ (mark + 1) ∷ (end - mark - 1) ∷ (end + 1) ∷ []) ≡ field_front at (drop at s)
    field_found = sym (field_there at (drop at s) (simp length-drop (omega arith)) field_good ∙ rw (tag_good, value_long, ← m, ← e))

-- the value of a field lies within the bytes
pub value_room : (at : ℕ) (s : List ℕ) (tag v n next : ℕ) → FieldIs at (drop at s) tag v n next → v + n < length s
unfolding value_of is_field
value_room at s tag v n next f =
    let l = length-take-le (until_of SOH (drop at s)) (drop at s) (until_le SOH (drop at s)) in
    let q : until_of equals (piece (drop at s)) < length (piece (drop at s)) = ltb-true _ _ (both (ltb (until_of equals (piece (drop at s))) (length (piece (drop at s)))) _ f.is).0 in
    omega (arith, l, q, f.found, f.starts, f.long, length-drop at s, length-drop (until_of equals (piece (drop at s)) + 1) (piece (drop at s)))

pub value_is : (at : ℕ) (s : List ℕ) (tag v n next : ℕ) → FieldIs at (drop at s) tag v n next → take n (drop v s) ≡ value_of (piece (drop at s))
value_is at s tag v n next f = rw (f.long, f.starts) (value_there at s f.is)

-- `52=` AT THE FRONT OF A PIECE

pub short_52 : (p : List ℕ) → length p < 3 → begins52 p ≡ false
short_52 p h = rw (get_or-eq_default p 0 {n = 2} (omega arith)) (and_false (eqb (get_or p 0 0) 53 && eqb (get_or p 1 0) 50))

pub long_52 : (p : List ℕ) → begins52 p ≡ true → 3 ≤ length p
long_52 p h = ⊎_elim (λ (l : length p < 3). absurd (clash h (short_52 p l))) (λ (l : 3 ≤ length p). l) (less (length p) 3)

module _ (at u : ℕ) (s : List ℕ) (three : 3 ≤ u) where
  byte_at : (k : ℕ) → k < 3 → get_or (take u (drop at s)) k 0 ≡ get_or s (at + k) 0
  byte_at k h = get_or-take u (drop at s) k 0 (omega arith) ∙ get_or-drop at s k 0

  pub there_52 : begins52 (take u (drop at s)) ≡ ((eqb (get_or s at 0) 53 && eqb (get_or s (at + 1) 0) 50) && eqb (get_or s (at + 2) 0) equals)
  there_52 = rw (byte_at 0 (lit< tt), byte_at 1 (lit< tt), byte_at 2 (lit< tt), add-zero at)

  pub behind_52 : u ≤ length (drop at s) → drop 3 (take u (drop at s)) ≡ take (u - 3) (drop (at + 3) s)
  behind_52 room = ap (λ (n : ℕ). drop 3 (take n (drop at s))) (split_of u 3 three) ∙ drop_take 3 (u - 3) (drop at s) (omega arith) ∙ rw drop-drop

-- `52=` is the tag 52
until_52 : (r : List ℕ) → until_of equals (53 ∷ 50 ∷ 61 ∷ r) ≡ 2
unfolding until_of
until_52 r = refl

said_52 : (r : List ℕ) → get_or (decimal_at 0 (until_of equals (53 ∷ 50 ∷ 61 ∷ r)) (53 ∷ 50 ∷ 61 ∷ r)).values 0 0 ≡ 52
unfolding all_digits said_by numeral
said_52 r =
    let g : Says 0 2 (53 ∷ 50 ∷ 61 ∷ r) 52 = record { place = record { some = lit≤ tt; few = lit≤ tt; within = omega arith }; digits = refl; says = refl } in
    let e : decimal_at 0 2 (53 ∷ 50 ∷ 61 ∷ r) ≡ number 52 = given_decimal 0 2 (53 ∷ 50 ∷ 61 ∷ r) 52 g refl in
    rw (until_52 r, e)

pub tag_52 : (x : List ℕ) → begins52 x ≡ true → tag_of x ≡ 52
unfolding tag_of
tag_52 x h =
    let l = long_52 x h in
    let a = both (eqb (get_or x 0 0) 53 && eqb (get_or x 1 0) 50) (eqb (get_or x 2 0) equals) h in
    let b = both (eqb (get_or x 0 0) 53) (eqb (get_or x 1 0) 50) a.0 in
    let e : x ≡ 53 ∷ 50 ∷ 61 ∷ drop 3 x = three x l ∙ rw (eqb-true (get_or x 0 0) 53 b.0, eqb-true (get_or x 1 0) 50 b.1, eqb-true (get_or x 2 0) 61 a.1) in
    ap (λ (s : List ℕ). get_or (decimal_at 0 (until_of equals s) s).values 0 0) e ∙ said_52 (drop 3 x)
  where
    three : (s : List ℕ) → 3 ≤ length s → s ≡ get_or s 0 0 ∷ get_or s 1 0 ∷ get_or s 2 0 ∷ drop 3 s
    three [] h = absurd (omega arith)
    three (a ∷ []) h = absurd (omega arith)
    three (a ∷ b ∷ []) h = absurd (omega arith)
    three (a ∷ b ∷ c ∷ s) h = refl

-- the check 7 at the piece at the front
module _ (s : List ℕ) (p : 0 < length s) where
  pub unreal_here : begins52 (piece s) ≡ true → is_unreal (drop 3 (piece s)) ≡ unreal_in (pieces s)
  unreal_here e = sym (unreal_front s p ∙ rw e)

  pub unreal_next : begins52 (piece s) ≡ false → unreal_in (pieces (drop (suc (until_of SOH s)) s)) ≡ unreal_in (pieces s)
  unreal_next e = sym (unreal_front s p ∙ rw e)

pub unreal_end : (s : List ℕ) → length s ≤ 0 → false ≡ unreal_in (pieces s)
unfolding unreal_in pieces
unreal_end [] h = refl
unreal_end (x ∷ xs) h = absurd (omega arith)

pub unreal_none : (s : List ℕ) → 0 < length s → begins52 (piece s) ≡ false → length s ≤ until_of SOH s → false ≡ unreal_in (pieces s)
unreal_none s p e h = unreal_end (drop (suc (until_of SOH s)) s) (simp length-drop (omega arith)) ∙ unreal_next s p e
