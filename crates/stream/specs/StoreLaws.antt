-- The lent store: bytes cleared, moved to its front and kept, with zeros behind them; and bytes in
-- two parts.
use Rattle.std.specs.Prelude.{ℕ, ◌+◌, ◌-◌, ◌≤◌, ◌<◌, ◌≡◌, refl, true, false, ◌&&◌, List, [], ◌∷◌, ◌++◌, eqb, leb, length, take, drop, get_or, set, replicate}
use Rattle.std.proofs.Math.Path.{sym}
use Rattle.std.proofs.Common.{ap, ap₂, ◌∙◌, ⊎_elim, append_assoc, arith, zero-add, length-append, length-drop, take-append-drop, length-take-le, take_all, drop_at, get_or-append-add, get_or-drop}
use Rattle.std.specs.Int.Bits.{bit_or, or_zero_l, or_add_and}
use Rattle.std.proofs.lemmas.Nat.{and_le_r}
use Rattle.std.proofs.lemmas.List.{length-replicate, get_or-replicate, replicate-append-replicate, drop-append-le}
use Rattle.std.proofs.Math.Seq.{drop-drop, drop-append-add}
use borrow.Author.Tests.{eqb-true, ne_eqb, le-leb, lt-leb, leb-true}
use Rattle.terms.specs.Cases.{same, less}
use Rattle.std.specs.List.{copy_within}
use borrow.Rule.Slice.PartMut.{put_mid}
use Rattle.octets.specs.Octets.{laid}
use Rattle.octets.specs.Overlays.{laid_nil, laid_front, laid_more, laid_all, laid_next, length_laid}
use Rattle.octets.specs.Papers.{laid_if_room, lay_next}
use Rattle.ledger_spec.proofs.Tests.{both}
use Rattle.stream_spec.specs.State.{head_of, all_zero}
use Rattle.stream_spec.specs.StateLaws.{zero_step}
use Rattle.stream_spec.specs.Window.{take_drop, padded, laid_in}
use Rattle.stream_spec.specs.CutLaws.{head_take}
use Rattle.stream.specs.Standing.{store_of, blank_to, has_rest, rest_of}

-- ZEROS

zeros_are : (l : List ℕ) → all_zero l ≡ true → l ≡ replicate (length l) 0
unfolding all_zero
zeros_are [] z = refl
zeros_are (b ∷ l) z = let p = both (eqb b 0) (all_zero l) z in ap₂ (λ (x : ℕ) (r : List ℕ). x ∷ r) (eqb-true b 0 p.0) (zeros_are l p.1)

-- bytes put into one are 0 exactly where each is
or_blank : (a b : ℕ) → eqb (bit_or a b) 0 ≡ eqb a 0 && eqb b 0
or_blank a b =
    ⊎_elim (λ (z : a ≡ 0). rw (z, or_zero_l b))
    (λ (ne : a ≡ 0 → ⊥). ne_eqb (bit_or a b) 0 (λ (e : bit_or a b ≡ 0). ne (omega (arith, e, or_add_and a b, and_le_r a b))) ∙ sym (rw (ne_eqb a 0 ne)))
    (same a 0)

-- one byte more is looked at
pub blank_step : (all i : ℕ) (s : List ℕ) → i < length s → eqb (bit_or all (get_or s i 0)) 0 && all_zero (drop (i + 1) s) ≡ eqb all 0 && all_zero (drop i s)
blank_step all i s h = rw (or_blank all (get_or s i 0)) (zero_step (eqb all 0) i s h)

-- what lies behind n bytes of a store that is blank there
blank_are : (n : ℕ) (s : List ℕ) → all_zero (drop n s) ≡ true → drop n s ≡ replicate (length s - n) 0
blank_are n s z = zeros_are (drop n s) z ∙ rw (length-drop n s)

-- CLEARED, a byte at a time

pub clear_start : (a e : ℕ) (d : List ℕ) → d ≡ laid a (take (a - a) (replicate (e - a) 0)) d
clear_start a e d = let z : a - a ≡ 0 = omega arith in sym (ap (λ (i : ℕ). laid a (take i (replicate (e - a) 0)) d) z ∙ laid_nil a d)

-- one byte more is 0
pub clear_more : (a e i : ℕ) (d w : List ℕ) → a ≤ i → i < e → e ≤ length d → w ≡ laid a (take (i - a) (replicate (e - a) 0)) d → set w i 0 ≡ laid a (take (i + 1 - a) (replicate (e - a) 0)) d
clear_more a e i d w h k l q =
    let n = length-replicate {A = ℕ} (e - a) 0 in
    let p = laid_more a (i - a) (replicate (e - a) 0) d w (omega (arith, n)) (omega (arith, n)) q in
    let x : a + (i - a) ≡ i = omega arith in
    let y : i - a + 1 ≡ i + 1 - a = omega arith in
    rw (x, y, get_or-replicate {A = ℕ} (e - a) (i - a) 0 0 (omega arith)) at p

pub clear_all : (a e i : ℕ) (d : List ℕ) → e ≤ i → laid a (take (i - a) (replicate (e - a) 0)) d ≡ laid a (replicate (e - a) 0) d
clear_all a e i d h = laid_all a (i - a) (replicate (e - a) 0) d (omega (arith, length-replicate {A = ℕ} (e - a) 0))

-- MOVED, a byte at a time

-- a byte that is moved is still the one that was there
still : (a i : ℕ) (d w : List ℕ) → a + i < length d → w ≡ laid 0 (take i (drop a d)) d → get_or w (a + i) 0 ≡ get_or (drop a d) i 0
still a i d w h q =
    let l : length (take i (drop a d)) ≡ i = length-take-le i (drop a d) (omega (arith, length-drop a d)) in
    let x : a + i ≡ length (take i (drop a d)) + a = omega (arith, l) in
    let y : i + a ≡ a + i = omega arith in
    ap (λ (s : List ℕ). get_or s (a + i) 0) (q ∙ laid_front (take i (drop a d)) d)
    ∙ ap (λ (n : ℕ). get_or (take i (drop a d) ++ drop (length (take i (drop a d))) d) n 0) x
    ∙ get_or-append-add (take i (drop a d)) (drop (length (take i (drop a d))) d) a 0
    ∙ rw (l, get_or-drop i d a 0, get_or-drop a d i 0, y)

pub down_more : (a m i : ℕ) (d w : List ℕ) → i < m → a + m ≤ length d → w ≡ laid 0 (take i (drop a d)) d → set w i (get_or w (a + i) 0) ≡ laid 0 (take (i + 1) (drop a d)) d
down_more a m i d w h k q =
    let l = length-drop a d in
    let p = laid_more 0 i (drop a d) d w (omega (arith, l)) (omega (arith, l)) q in
    ap (λ (b : ℕ). set w i b) (still a i d w (omega arith) q) ∙ (rw (zero-add i) at p)

-- CLEARED AND MOVED, in one

-- the first bytes of a store, filled with 0
pub cleared : (n : ℕ) (d z : List ℕ) → n ≤ length d → z ≡ replicate (length (take n d)) 0 → z ++ drop n d ≡ blank_to n d
cleared n d z h q =
    let l : z ≡ replicate n 0 = q ∙ rw (length-take-le n d h) in
    rw l (sym (laid_front (replicate n 0) d ∙ ap (λ (i : ℕ). replicate {A = ℕ} n 0 ++ drop i d) (length-replicate {A = ℕ} n 0)))

-- a part of a store that was written over
pub put_back : (a e : ℕ) (xs ys : List ℕ) → length ys ≡ e - a → put_mid a (e - a) xs ys ≡ laid a ys xs
unfolding laid
put_back a e xs ys l = simp (drop-drop, l)

-- bytes copied into a part of a store
pub copied : (a e : ℕ) (d src part : List ℕ) → part ≡ src → e ≡ a + length src → put_mid a (e - a) d part ≡ laid a src d
copied a e d src part p q = put_back a e d part (ap length p ∙ omega (arith, q)) ∙ ap (λ (l : List ℕ). laid a l d) p

-- a part of a store, filled with 0
pub filled : (a e : ℕ) (xs ys : List ℕ) → e ≤ length xs → ys ≡ replicate (length (take (e - a) (drop a xs))) 0 → put_mid a (e - a) xs ys ≡ laid a (replicate (e - a) 0) xs
filled a e xs ys g p =
    let n : length (take (e - a) (drop a xs)) ≡ e - a = length-take-le (e - a) (drop a xs) (omega (arith, length-drop a xs)) in
    let q : ys ≡ replicate (e - a) 0 = p ∙ rw n in
    put_back a e xs ys (ap length q ∙ length-replicate (e - a) 0) ∙ ap (λ (l : List ℕ). laid a l xs) q

-- the bytes from a to e, moved to the front
pub moved : (a e : ℕ) (d v : List ℕ) → e ≤ length d → v ≡ copy_within d a e 0 → v ≡ laid 0 (take (e - a) (drop a d)) d
unfolding laid
moved a e d v h q = q ∙ rw (length-take-le (e - a) (drop a d) (omega (arith, length-drop a d)))

-- KEPT

-- bytes at the front of a store, and zeros behind them up to n
over_blank : (r d : List ℕ) (n : ℕ) → length r ≤ n → laid 0 r (blank_to n d) ≡ r ++ (replicate (n - length r) 0 ++ drop n d)
over_blank r d n h =
    let m : length r + (n - length r) ≡ n = omega arith in
    let z : replicate {A = ℕ} n 0 ≡ replicate (length r) 0 ++ replicate (n - length r) 0 = sym (replicate-append-replicate {A = ℕ} (length r) (n - length r) 0 ∙ rw m) in
    let f : blank_to n d ≡ replicate (length r) 0 ++ (replicate (n - length r) 0 ++ drop n d) = laid_front (replicate n 0) d ∙ ap (λ (i : ℕ). replicate {A = ℕ} n 0 ++ drop i d) (length-replicate {A = ℕ} n 0) ∙ ap (λ (s : List ℕ). s ++ drop n d) z ∙ append_assoc (replicate (length r) 0) (replicate (n - length r) 0) (drop n d) in
    laid_front r (blank_to n d) ∙ ap (λ (s : List ℕ). r ++ s) (ap (drop (length r)) f ∙ drop_at (replicate (length r) 0) (replicate (n - length r) 0 ++ drop n d) (length r) (length-replicate {A = ℕ} (length r) 0))

-- the bytes behind them were blank: they stand in front of zeros
pub front_store : (n : ℕ) (s d w : List ℕ) → n ≤ length d → all_zero (drop n d) ≡ true → w ≡ laid 0 s (blank_to n d) → w ≡ store_of (length d) s
front_store n s d w h z q =
    let b : n + (length d - n) ≡ length d = omega arith in
    padded s (blank_to n d) w (length d) q (laid_front (replicate n 0) d ∙ rw (length-replicate {A = ℕ} n 0, blank_are n d z, replicate-append-replicate {A = ℕ} n (length d - n) 0, b))

module _ (a e : ℕ) (d : List ℕ) (h : a ≤ e) (k : e ≤ length d) where
  abbrev rest : List ℕ
  rest = take (e - a) (drop a d)

  rest_long : length rest ≡ e - a
  rest_long = length-take-le (e - a) (drop a d) (omega (arith, length-drop a d))

  -- moved to the front and cleared behind
  pub shifted : (v w : List ℕ) → v ≡ laid 0 rest d → w ≡ laid (e - a) (replicate (e - (e - a)) 0) v → w ≡ laid 0 (drop a (take e d)) (blank_to e d)
  shifted v w p q =
      let l = rest_long in
      let z : List ℕ = replicate (e - (e - a)) 0 in
      let n : length (rest ++ z) ≡ e = length-append rest z ∙ omega (arith, l, length-replicate {A = ℕ} (e - (e - a)) 0) in
      laid_next (e - a) rest z d v w q p l (omega arith)
      ∙ laid_front (rest ++ z) d
      ∙ ap (λ (i : ℕ). (rest ++ z) ++ drop i d) n
      ∙ append_assoc rest z (drop e d)
      ∙ ap (λ (i : ℕ). rest ++ (replicate (e - i) 0 ++ drop e d)) (sym l)
      ∙ sym (over_blank rest d e (omega (arith, l)))
      ∙ ap (λ (s : List ℕ). laid 0 s (blank_to e d)) (take_drop a e d h)

  -- nothing to move
  pub shifted_none : a ≡ 0 → d ≡ laid 0 (drop a (take e d)) (blank_to e d)
  shifted_none z =
      let l : length (take e d) ≡ e = length-take-le e d k in
      let n : e - length (take e d) ≡ 0 = omega (arith, l) in
      sym (ap (λ (i : ℕ). laid 0 (drop i (take e d)) (blank_to e d)) z ∙ over_blank (take e d) d e (omega (arith, l)) ∙ rw (n, take-append-drop e d))

-- other bytes in place of the first n
pub kept_instead : (n : ℕ) (s d v w : List ℕ) → n ≤ length d → length s ≤ length d → v ≡ laid 0 (replicate (n - 0) 0) d → w ≡ laid_if_room 0 s v → w ≡ laid 0 s (blank_to n d)
kept_instead n s d v w h k p q =
    let m : n - 0 ≡ n = omega arith in
    let f : v ≡ blank_to n d = rw m at p in
    let l : length v ≡ length d = ap length f ∙ length_laid 0 (replicate n 0) d (omega (arith, length-replicate {A = ℕ} n 0)) in
    laid_in 0 s v w (omega (arith, k, l)) q ∙ rw f

-- FROM A PLACE ON, in one part and in two

pub tail_whole : (i : ℕ) (l : List ℕ) → take (length l - i) (drop i l) ≡ drop i l
tail_whole i l = take_all (length l - i) (drop i l) (omega (arith, length-drop i l))

pub both_before : (p : ℕ) (a b : List ℕ) → p < length a → take (length a - p) (drop p a) ++ b ≡ drop p (a ++ b)
both_before p a b h = rw (tail_whole p a) (sym (drop-append-le p a b (omega arith)))

pub both_behind : (p : ℕ) (a b : List ℕ) → length a ≤ p → drop (p - length a) b ≡ drop p (a ++ b)
both_behind p a b h = let i : p ≡ length a + (p - length a) = omega arith in sym (ap (λ (k : ℕ). drop k (a ++ b)) i ∙ drop-append-add a b (p - length a))

-- WHAT WAITS BEHIND A RUN

same_test : (a b c d : ℕ) → (a ≤ b → c ≤ d) → (b < a → d < c) → leb a b ≡ leb c d
same_test a b c d y n = ⊎_elim (λ (l : b < a). lt-leb a b l ∙ sym (lt-leb c d (n l))) (λ (l : a ≤ b). le-leb a b l ∙ sym (le-leb c d (y l))) (less b a)

module _ (room n at m : ℕ) where
  pub rest_lacks : room < n → false ≡ has_rest room n at m
  unfolding has_rest
  rest_lacks h = sym (rw (lt-leb n room h))

  pub rest_before : n ≤ room → at ≤ n → leb m (room - (n - at)) ≡ has_rest room n at m
  unfolding has_rest
  rest_before h k = same_test m (room - (n - at)) (n + m) (at + room) (λ l. omega arith) (λ l. omega arith) ∙ sym (rw (le-leb n room h, le-leb at (n + m) (omega arith)))

  pub rest_past : n ≤ room → n < at → m < at - n → false ≡ has_rest room n at m
  unfolding has_rest
  rest_past h k l = sym (rw (le-leb n room h, lt-leb at (n + m) (omega arith)))

  pub rest_behind : n ≤ room → n < at → at - n ≤ m → leb (m - (at - n)) room ≡ has_rest room n at m
  unfolding has_rest
  rest_behind h k l = same_test (m - (at - n)) room (n + m) (at + room) (λ i. omega arith) (λ i. omega arith) ∙ sym (rw (le-leb n room h, le-leb at (n + m) (omega arith)))

  pub rest_there : has_rest room n at m ≡ true → (n ≤ room) × ((at ≤ n + m) × (n + m ≤ at + room))
  unfolding has_rest
  rest_there e = let p = both (leb n room) _ e in let q = both (leb at (n + m)) _ p.1 in (leb-true _ _ p.0, (leb-true _ _ q.0, leb-true _ _ q.1))

module _ (n at : ℕ) (cut d : List ℕ) where
  pub rest_none : has_rest (length d) n at (length cut) ≡ false → d ≡ rest_of n at cut d
  unfolding rest_of
  rest_none f = sym (rw f)

  module _ (t : has_rest (length d) n at (length cut) ≡ true) where
    rest_is : rest_of n at cut d ≡ laid 0 (drop at (take n d ++ cut)) (blank_to n d)
    unfolding rest_of
    rest_is = rw t

    held : length (take n d) ≡ n
    held = length-take-le n d (rest_there (length d) n at (length cut) t).0

    left : length (drop at (take n d)) ≡ n - at
    left = length-drop at (take n d) ∙ rw held

    blanked : length (blank_to n d) ≡ length d
    blanked = length_laid 0 (replicate n 0) d (omega (arith, length-replicate {A = ℕ} n 0, (rest_there (length d) n at (length cut) t).0))

    rest_behind_left : at ≤ n → (w : List ℕ) → w ≡ laid 0 (drop at (take n d) ++ cut) (blank_to n d) → w ≡ rest_of n at cut d
    rest_behind_left h w q =
        q ∙ ap (λ (s : List ℕ). laid 0 s (blank_to n d)) (sym (drop-append-le at (take n d) cut (omega (arith, held)))) ∙ sym rest_is

    -- from a place among the n bytes on: the cut is laid behind what is left of them, where it has
    -- room, and it has
    pub rest_laid : at ≤ n → (v w : List ℕ) → v ≡ laid 0 (drop at (take n d)) (blank_to n d) → w ≡ laid_if_room (n - at) cut v → w ≡ rest_of n at cut d
    rest_laid h v w p q =
        let b = rest_there (length d) n at (length cut) t in
        rest_behind_left h w (lay_next (n - at) (drop at (take n d)) cut (blank_to n d) v w q p left (omega (arith, blanked, b.1.1, b.0)))

    -- or it is copied there
    pub rest_copied : at ≤ n → (v w : List ℕ) → v ≡ laid 0 (drop at (take n d)) (blank_to n d) → w ≡ laid (n - at) cut v → w ≡ rest_of n at cut d
    rest_copied h v w p q =
        let b = rest_there (length d) n at (length cut) t in
        rest_behind_left h w (laid_next (n - at) (drop at (take n d)) cut (blank_to n d) v w q p left (omega (arith, blanked, b.0)))

    -- from a place of the cut on
    pub rest_kept : n < at → (s w : List ℕ) → s ≡ drop (at - n) cut → w ≡ laid 0 s (blank_to n d) → w ≡ rest_of n at cut d
    rest_kept h s w e q =
        let f : s ≡ drop at (take n d ++ cut) = e ∙ ap (λ (i : ℕ). drop (at - i) cut) (sym held) ∙ both_behind at (take n d) cut (omega (arith, held)) in
        q ∙ ap (λ (l : List ℕ). laid 0 l (blank_to n d)) f ∙ sym rest_is

-- where the store is blank behind the n bytes, what is kept stands in front of zeros
pub rest_store : (n at : ℕ) (cut d : List ℕ) → n ≤ length d → all_zero (drop n d) ≡ true → at ≤ n + length cut → n + length cut ≤ at + length d → rest_of n at cut d ≡ store_of (length d) (drop at (head_of n d ++ cut))
unfolding has_rest
rest_store n at cut d h z k l =
    let t : has_rest (length d) n at (length cut) ≡ true = rw (le-leb n (length d) h, le-leb at (n + length cut) k, le-leb (n + length cut) (at + length d) l) in
    front_store n (drop at (take n d ++ cut)) d (rest_of n at cut d) h z (rest_is n at cut d t) ∙ rw (head_take n d h)
