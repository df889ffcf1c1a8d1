-- Four words turned so that a place stands in the first of them: the same map read round from
-- there, what it holds behind the k places after that one, and those k alone. Assumes nothing.
use mathlib.Core.Path.{◌≡◌, refl, sym, ap, ap₂, ◌∙◌, subst}
use mathlib.Core.Bool.{Bool, true}
use mathlib.Core.List.{List, [], ◌∷◌}
use mathlib.Core.Logic.{⊎_elim}
use Prim.Native.Nat.{ℕ, zero, suc, ◌+◌, ◌-◌, ◌*◌, ◌/◌, ◌%◌, ◌^◌, ◌≤◌, ◌<◌, min, max}
use native.Mathlib.Nat.{add-zero, zero-div, zero-mul, div-eq_of_lt, mod-eq_of_lt}
use native.Mathlib.Omega.{arith}
use borrow.Author.Tests.{lt-ltb, le-ltb, eq-eqb}
use lib.Bits.{differ, bit_and, bit_or, bit_xor, or_zero_r}
use lib.Dec.{eqb, ltb}
use lib.Count.{ones}
use lib.ListN.{get_or}
use lib.Pow.{pow_pos, shl-shr, shr-shr, shr_lt, low, mod-pow-add, mod-mod-pow}
use Rattle.terms.specs.Paper.{pick}
use Rattle.terms.specs.Cases.{less}
use Rattle.tick_map.specs.Bits.{bit, over, value_of, value_of_list, bits_in, map_of, Words}
use Rattle.tick_map.specs.declared.Map.{Map}
use Rattle.tick_map.specs.Ring.{rotated, without, only}
use Rattle.tick_map.proofs.Laws.{shr_low, shr_high, lt_of_shr}
use Rattle.tick_map.proofs.Digits.{bit_ext, bit_lt, bit_or_lem, bit_and_lem, bit_xor_lem, bit_none, bit_all, bit_all_out}
use Rattle.tick_map.proofs.Ring.{rotated_lt, rotated_bit, rotated_ones}
use Rattle.tick_map.proofs.Rotated.{rotated_round, rotated_zero, rotated_none}
use Rattle.tick_map.proofs.Places.{four_words, and_words, and_each, only_words}
use Rattle.tick_map.proofs.Stretch.{without_lt, without_read, only_lt, only_read}
use Rattle.tick_map.proofs.Words.{over_four, list_lt, list_bit, value_lt, zero_or, zero_over, same_zero, map_at, value_of_lem}

-- ---- the words from word j on

abbrev pub round : List ℕ → ℕ → List ℕ
round w j = get_or w ((j + 0) % 4) 0 ∷ get_or w ((j + 1) % 4) 0 ∷ get_or w ((j + 2) % 4) 0 ∷ get_or w ((j + 3) % 4) 0 ∷ []

-- chosen by two tests of j
pub round_chosen : (w : List ℕ) (j : ℕ) → j < 4
    → pick (ltb j 2) (pick (eqb (j % 2) 1) (get_or w 1 0) (get_or w 0 0)) (pick (eqb (j % 2) 1) (get_or w 3 0) (get_or w 2 0))
    ∷ pick (ltb j 2) (pick (eqb (j % 2) 1) (get_or w 2 0) (get_or w 1 0)) (pick (eqb (j % 2) 1) (get_or w 0 0) (get_or w 3 0))
    ∷ pick (ltb j 2) (pick (eqb (j % 2) 1) (get_or w 3 0) (get_or w 2 0)) (pick (eqb (j % 2) 1) (get_or w 1 0) (get_or w 0 0))
    ∷ pick (ltb j 2) (pick (eqb (j % 2) 1) (get_or w 0 0) (get_or w 3 0)) (pick (eqb (j % 2) 1) (get_or w 2 0) (get_or w 1 0))
    ∷ []
    ≡ round w j
round_chosen w zero l = refl
round_chosen w (suc zero) l = refl
round_chosen w (suc (suc zero)) l = refl
round_chosen w (suc (suc (suc zero))) l = refl
round_chosen w (suc (suc (suc (suc j)))) l = absurd (over_four j l)

module _ (w : List ℕ) (h : Words w) (j : ℕ) where
  pub round_words : Words (round w j)
  round_words = four_words _ _ _ _ (h.low ((j + 0) % 4)).fits (h.low ((j + 1) % 4)).fits (h.low ((j + 2) % 4)).fits (h.low ((j + 3) % 4)).fits

  round_at : (i : ℕ) → i < 4 → get_or (round w j) i 0 ≡ get_or w ((j + i) % 4) 0
  round_at zero l = refl
  round_at (suc zero) l = refl
  round_at (suc (suc zero)) l = refl
  round_at (suc (suc (suc zero))) l = refl
  round_at (suc (suc (suc (suc i)))) l = absurd (over_four i l)

  pub round_value : value_of_list (round w j) ≡ rotated (64 * j) (value_of_list w)
  round_value =
      bit_ext 256 _ _ (list_lt (round w j) round_words) (rotated_lt (64 * j) _ (list_lt w h))
      (λ i l.
      let p : (64 * j + i) % 256 < 256 = omega arith in
      let own : i / 64 < 4 = omega arith in
      let a : (j + i / 64) % 4 ≡ (64 * j + i) % 256 / 64 = omega arith in
      let b : i % 64 ≡ (64 * j + i) % 256 % 64 = omega arith in
      list_bit (round w j) round_words i l ∙ ap (λ (x : ℕ). bit x (i % 64)) (round_at (i / 64) own)
      ∙ ap₂ (λ (x y : ℕ). bit (get_or w x 0) y) a b
      ∙ sym (rotated_bit (64 * j) _ (list_lt w h) i l ∙ list_bit w h ((64 * j + i) % 256) p))

-- read round from t what was read round from s
pub rotated_twice : (s t m : ℕ) → m < 2 ^ 256 → rotated t (rotated s m) ≡ rotated (s + t) m
rotated_twice s t m hm =
    let lt = rotated_lt s m hm in
    bit_ext 256 _ _ (rotated_lt t _ lt) (rotated_lt (s + t) m hm)
    (λ i hi.
    let p : (t + i) % 256 < 256 = omega arith in
    let e : (s + (t + i) % 256) % 256 ≡ (s + t + i) % 256 = omega arith in
    rotated_bit t (rotated s m) lt i hi ∙ rotated_bit s m hm ((t + i) % 256) p ∙ ap (bit m) e ∙ sym (rotated_bit (s + t) m hm i hi))

-- a place by its word and its place there
pub rotated_turned : (s n m : ℕ) → m < 2 ^ 256 → rotated (s % 64 + n) (rotated (64 * (s / 64 % 4)) m) ≡ rotated (s + n) m
rotated_turned s n m hm =
    let e : (64 * (s / 64 % 4) + (s % 64 + n)) % 256 ≡ (s + n) % 256 = omega arith in
    rotated_twice (64 * (s / 64 % 4)) (s % 64 + n) m hm ∙ rotated_round (64 * (s / 64 % 4) + (s % 64 + n)) (s + n) m e

-- ---- what is left without a stretch

shl_none : (x k : ℕ) → x * 2 ^ k ≡ 0 → x ≡ 0
shl_none x k e = sym (shl-shr x k) ∙ ap (λ (y : ℕ). y / 2 ^ k) e ∙ zero-div (2 ^ k)

parts_none : (x y k : ℕ) → x * 2 ^ k + y ≡ 0 → (x ≡ 0) × (y ≡ 0)
parts_none x y k e = (shl_none x k (omega arith), omega arith)

-- nothing is left exactly where nothing is read from its end on
pub without_none : (s k m : ℕ) → m < 2 ^ 256 → eqb (without s k m) 0 ≡ eqb (rotated s m / 2 ^ k) 0
without_none s k m hm =
    same_zero (without s k m) (rotated s m / 2 ^ k)
    (λ e. shl_none (rotated s m / 2 ^ k) k (sym (without_read s k m hm) ∙ ap (rotated s) e ∙ rotated_zero s))
    (λ e. rotated_none s (without s k m) (without_lt s k m hm) (without_read s k m hm ∙ ap (λ (x : ℕ). x * 2 ^ k) e ∙ zero-mul (2 ^ k)))

-- a stretch of 256 places is the whole map
past : (k m : ℕ) → m < 2 ^ 256 → 256 ≤ k → m / 2 ^ k ≡ 0
past k m hm l =
    let e : k ≡ 256 + (k - 256) = omega arith in
    ap (λ (x : ℕ). m / 2 ^ x) e ∙ sym (shr-shr m 256 (k - 256)) ∙ ap (λ (x : ℕ). x / 2 ^ (k - 256)) (div-eq_of_lt hm) ∙ zero-div (2 ^ (k - 256))

pub without_all : (s k m : ℕ) → m < 2 ^ 256 → 256 ≤ k → true ≡ eqb (without s k m) 0
without_all s k m hm l = sym (without_none s k m hm ∙ eq-eqb _ 0 (past k (rotated s m) (rotated_lt s m hm) l))

pub mod_most : (k m : ℕ) → m < 2 ^ 256 → m % 2 ^ min k 256 ≡ m % 2 ^ k
mod_most k m hm = ⊎_elim
    (λ (l : k < 256). let e : min k 256 ≡ k = omega arith in ap (λ (x : ℕ). m % 2 ^ x) e)
    (λ (g : 256 ≤ k).
    let e : min k 256 ≡ 256 = omega arith in
    ap (λ (x : ℕ). m % 2 ^ x) e ∙ mod-eq_of_lt hm ∙ sym (mod-eq_of_lt (lt_of_shr m k (past k m hm g))))
    (less k 256)

-- four words, place q of the first one, and the k places behind it
module _ (a b c d q k : ℕ) (ha : a < 2 ^ 64) (hb : b < 2 ^ 64) (hc : c < 2 ^ 64) (hd : d < 2 ^ 64) (hq : q < 64) (hk : k < 256) where
  abbrev v : ℕ
  v = value_of a b c d

  abbrev end : ℕ
  end = q + 1 + k

  -- of the first word, the places up to q
  abbrev up_to : ℕ
  up_to = a % 2 ^ (q + 1)

  abbrev lifted : ℕ
  lifted = (a * 2 ^ (63 - q)) % 2 ^ 64

  abbrev left : ℕ
  left = rotated (q + 1) v / 2 ^ k

  lifted_is : lifted ≡ up_to * 2 ^ (63 - q)
  lifted_is =
      let e : 64 ≡ q + 1 + (63 - q) = omega arith in
      ap (λ (x : ℕ). (a * 2 ^ (63 - q)) % 2 ^ x) e ∙ mod-pow-add (a * 2 ^ (63 - q)) (q + 1) (63 - q)
      ∙ ap₂ (λ (x y : ℕ). x % 2 ^ (q + 1) * 2 ^ (63 - q) + y) (shl-shr a (63 - q)) (ap (λ (x : ℕ). x % 2 ^ (63 - q)) (sym (add-zero _)) ∙ low a (63 - q) (pow_pos (63 - q)))
      ∙ add-zero _

  first_is : v % 2 ^ (q + 1) ≡ up_to
  unfolding value_of
  first_is =
      let e : 63 - q + (q + 1) ≡ 64 = omega arith in
      sym (mod-mod-pow v (63 - q) (q + 1)) ∙ ap (λ (x : ℕ). v % 2 ^ x % 2 ^ (q + 1)) e ∙ ap (λ (x : ℕ). x % 2 ^ (q + 1)) (low (over (over d c) b) 64 ha)

  read : rotated (q + 1) v ≡ up_to * 2 ^ (255 - q) + v / 2 ^ (q + 1)
  unfolding rotated
  read =
      let e : (q + 1) % 256 ≡ q + 1 = omega arith in
      let f : 256 - (q + 1) ≡ 255 - q = omega arith in
      ap (λ (x : ℕ). (v % 2 ^ x) * 2 ^ (256 - x) + v / 2 ^ x) e ∙ ap₂ (λ (x y : ℕ). x * 2 ^ y + v / 2 ^ (q + 1)) first_is f

  left_near : end ≤ 256 → left ≡ up_to * 2 ^ (256 - end) + v / 2 ^ end
  left_near l =
      let e : 255 - q ≡ 256 - end + k = omega arith in
      ap (λ (x : ℕ). x / 2 ^ k) (read ∙ ap (λ (x : ℕ). up_to * 2 ^ x + v / 2 ^ (q + 1)) e)
      ∙ shr_low up_to (v / 2 ^ (q + 1)) (256 - end) k ∙ ap (λ (x : ℕ). up_to * 2 ^ (256 - end) + x) (shr-shr v (q + 1) k)

  -- where the places behind end in the first word again
  pub left_far : 256 ≤ end → lifted / 2 ^ (k - 192) ≡ left
  left_far l =
      let e : 255 - q + (q + 1) ≡ 256 = omega arith in
      let f : k ≡ 255 - q + (end - 256) = omega arith in
      let g : k - 192 ≡ 63 - q + (end - 256) = omega arith in
      ap₂ (λ (x y : ℕ). x / 2 ^ y) lifted_is g ∙ sym (shr-shr (up_to * 2 ^ (63 - q)) (63 - q) (end - 256)) ∙ ap (λ (x : ℕ). x / 2 ^ (end - 256)) (shl-shr up_to (63 - q))
      ∙ sym (ap₂ (λ (x y : ℕ). x / 2 ^ y) read f
      ∙ shr_high up_to (255 - q) (end - 256) (shr_lt (255 - q) (q + 1) (subst (λ (x : ℕ). v < 2 ^ x) (sym e) (value_lt a b c d ha hb hc hd))))

  -- where they end before: what is held up to q or from their end on
  left_none : (x : ℕ) → end ≤ 256 → (x ≡ 0 → (lifted ≡ 0) × (v / 2 ^ end ≡ 0)) → (lifted ≡ 0 → v / 2 ^ end ≡ 0 → x ≡ 0) → eqb x 0 ≡ eqb left 0
  left_none x l none all =
      same_zero x left
      (λ e. left_near l ∙ ap₂ (λ (y z : ℕ). y * 2 ^ (256 - end) + z) (shl_none up_to (63 - q) (sym lifted_is ∙ (none e).0)) (none e).1 ∙ add-zero _ ∙ zero-mul (2 ^ (256 - end)))
      (λ e.
      let p = parts_none up_to (v / 2 ^ end) (256 - end) (sym (left_near l) ∙ e) in
      all (lifted_is ∙ ap (λ (y : ℕ). y * 2 ^ (63 - q)) p.0 ∙ zero-mul (2 ^ (63 - q))) p.1)

  or_none : {x y : ℕ} → x ≡ 0 → y ≡ 0 → bit_or x y ≡ 0
  or_none e f = ap₂ bit_or e f ∙ or_zero_r 0

  sum_none : {x y : ℕ} (j : ℕ) → x ≡ 0 → y ≡ 0 → x * 2 ^ j + y ≡ 0
  sum_none j e f = ap₂ (λ (x y : ℕ). x * 2 ^ j + y) e f ∙ add-zero _ ∙ zero-mul (2 ^ j)

  pub left_first : end < 64 → eqb (bit_or (bit_or (bit_or (bit_or lifted (a / 2 ^ end)) b) c) d) 0 ≡ eqb left 0
  unfolding value_of
  left_first l =
      let e : 64 ≡ 64 - end + end = omega arith in
      let is : v / 2 ^ end ≡ over (over d c) b * 2 ^ (64 - end) + a / 2 ^ end =
      ap (λ (x : ℕ). (over (over d c) b * 2 ^ x + a) / 2 ^ end) e ∙ shr_low (over (over d c) b) a (64 - end) end in
      left_none (bit_or (bit_or (bit_or (bit_or lifted (a / 2 ^ end)) b) c) d) (omega arith)
      (λ z.
      let x = zero_or _ d z in
      let y = zero_or _ c x.0 in
      let t = zero_or _ b y.0 in
      let u = zero_or lifted (a / 2 ^ end) t.0 in
      (u.0, is ∙ sum_none (64 - end) (sum_none 64 (sum_none 64 x.1 y.1) t.1) u.1))
      (λ y z.
      let p = parts_none (over (over d c) b) (a / 2 ^ end) (64 - end) (sym is ∙ z) in
      let r = zero_over (over d c) b p.0 in
      let t = zero_over d c r.0 in
      or_none (or_none (or_none (or_none y p.1) r.1) t.1) t.0)

  -- behind the first word
  second : 64 ≤ end → v / 2 ^ end ≡ over (over d c) b / 2 ^ (end - 64)
  unfolding value_of
  second l = let e : end ≡ 64 + (end - 64) = omega arith in ap (λ (x : ℕ). v / 2 ^ x) e ∙ shr_high (over (over d c) b) 64 (end - 64) ha

  pub left_second : 64 ≤ end → end < 128 → eqb (bit_or (bit_or (bit_or lifted (b / 2 ^ (end - 64))) c) d) 0 ≡ eqb left 0
  left_second g l =
      let e : 64 ≡ 128 - end + (end - 64) = omega arith in
      let is : v / 2 ^ end ≡ over d c * 2 ^ (128 - end) + b / 2 ^ (end - 64) =
      second g ∙ ap (λ (x : ℕ). (over d c * 2 ^ x + b) / 2 ^ (end - 64)) e ∙ shr_low (over d c) b (128 - end) (end - 64) in
      left_none (bit_or (bit_or (bit_or lifted (b / 2 ^ (end - 64))) c) d) (omega arith)
      (λ z.
      let x = zero_or _ d z in
      let y = zero_or _ c x.0 in
      let u = zero_or lifted (b / 2 ^ (end - 64)) y.0 in
      (u.0, is ∙ sum_none (128 - end) (sum_none 64 x.1 y.1) u.1))
      (λ y z.
      let p = parts_none (over d c) (b / 2 ^ (end - 64)) (128 - end) (sym is ∙ z) in
      let t = zero_over d c p.0 in
      or_none (or_none (or_none y p.1) t.1) t.0)

  third : 128 ≤ end → v / 2 ^ end ≡ over d c / 2 ^ (end - 128)
  third l =
      let e : end - 64 ≡ 64 + (end - 128) = omega arith in
      second (omega arith) ∙ ap (λ (x : ℕ). over (over d c) b / 2 ^ x) e ∙ shr_high (over d c) 64 (end - 128) hb

  pub left_third : 128 ≤ end → end < 192 → eqb (bit_or (bit_or lifted (c / 2 ^ (end - 128))) d) 0 ≡ eqb left 0
  left_third g l =
      let e : 64 ≡ 192 - end + (end - 128) = omega arith in
      let is : v / 2 ^ end ≡ d * 2 ^ (192 - end) + c / 2 ^ (end - 128) =
      third g ∙ ap (λ (x : ℕ). (d * 2 ^ x + c) / 2 ^ (end - 128)) e ∙ shr_low d c (192 - end) (end - 128) in
      left_none (bit_or (bit_or lifted (c / 2 ^ (end - 128))) d) (omega arith)
      (λ z.
      let x = zero_or _ d z in
      let u = zero_or lifted (c / 2 ^ (end - 128)) x.0 in
      (u.0, is ∙ sum_none (192 - end) x.1 u.1))
      (λ y z.
      let p = parts_none d (c / 2 ^ (end - 128)) (192 - end) (sym is ∙ z) in
      or_none (or_none y p.1) p.0)

  pub left_fourth : 192 ≤ end → end < 256 → eqb (bit_or lifted (d / 2 ^ (end - 192))) 0 ≡ eqb left 0
  left_fourth g l =
      let e : end - 128 ≡ 64 + (end - 192) = omega arith in
      let is : v / 2 ^ end ≡ d / 2 ^ (end - 192) = third (omega arith) ∙ ap (λ (x : ℕ). over d c / 2 ^ x) e ∙ shr_high d 64 (end - 192) hc in
      left_none (bit_or lifted (d / 2 ^ (end - 192))) (omega arith)
      (λ z. let u = zero_or lifted (d / 2 ^ (end - 192)) z in (u.0, is ∙ u.1))
      (λ y z. or_none y (sym is ∙ z))

-- ---- the k places from place q of the first word on, by a mask for each word

module _ (q k own below : ℕ) (hq : q < 64) (hk : k ≤ 256) (o : own ≡ 2 ^ ((q + k) % 64) - 1) (f : below ≡ 2 ^ q - 1) where
  -- the places of word j that a mask should have
  abbrev Marks : ℕ → ℕ → Type 0
  Marks v j = (p : ℕ) → p < 64 → bit v p ≡ pick (ltb ((64 * j + p + (256 - q % 256)) % 256) k) 1 0

  in_it : {x y : ℕ} → x ≡ 1 → y < k → x ≡ pick (ltb y k) 1 0
  in_it e l = e ∙ sym (ap (λ (t : Bool). pick t 1 0) (lt-ltb _ _ l))

  out_of_it : {x y : ℕ} → x ≡ 0 → k ≤ y → x ≡ pick (ltb y k) 1 0
  out_of_it e l = e ∙ sym (ap (λ (t : Bool). pick t 1 0) (le-ltb _ _ l))

  -- a place of another word than the first
  module _ (j p : ℕ) (some : 0 < j) (few : j < 4) (h : p < 64) where
    place_is : (64 * j + p + (256 - q % 256)) % 256 ≡ 64 * j + p - q
    place_is = omega arith

    in_word : {x : ℕ} → x ≡ 1 → 64 * j + p < q + k → x ≡ pick (ltb ((64 * j + p + (256 - q % 256)) % 256) k) 1 0
    in_word e l = let y : 64 * j + p - q < k = omega arith in in_it e (subst (λ (z : ℕ). z < k) (sym place_is) y)

    out_of_word : {x : ℕ} → x ≡ 0 → q + k ≤ 64 * j + p → x ≡ pick (ltb ((64 * j + p + (256 - q % 256)) % 256) k) 1 0
    out_of_word e l = let y : k ≤ 64 * j + p - q = omega arith in out_of_it e (subst (λ (z : ℕ). k ≤ z) (sym place_is) y)

  marks_none : (j : ℕ) → 0 < j → j < 4 → q + k ≤ 64 * j → Marks 0 j
  marks_none j some few l p h = out_of_word j p some few h (bit_none p) (omega arith)

  marks_all : (j : ℕ) → 0 < j → j < 4 → 64 * j + 64 ≤ q + k → Marks (2 ^ 64 - 1) j
  marks_all j some few l p h = in_word j p some few h (bit_all 64 p h) (omega arith)

  own_in : (p : ℕ) → p < (q + k) % 64 → bit own p ≡ 1
  own_in p l = ap (λ (x : ℕ). bit x p) o ∙ bit_all ((q + k) % 64) p l

  own_out : (p : ℕ) → (q + k) % 64 ≤ p → bit own p ≡ 0
  own_out p l = ap (λ (x : ℕ). bit x p) o ∙ bit_all_out ((q + k) % 64) p l

  marks_own : (j : ℕ) → 0 < j → j < 4 → 64 * j ≤ q + k → q + k < 64 * j + 64 → Marks own j
  marks_own j some few g l p h = ⊎_elim
      (λ y. in_word j p some few h (own_in p y) (omega arith))
      (λ n. out_of_word j p some few h (own_out p n) (omega arith))
      (less p ((q + k) % 64))

  abbrev first : ℕ
  first = bit_xor (2 ^ 64 - 1) below

  first_in : (p : ℕ) → p < 64 → q ≤ p → bit first p ≡ 1
  first_in p h l = bit_xor_lem (2 ^ 64 - 1) below p ∙ ap₂ differ (bit_all 64 p h) (ap (λ (x : ℕ). bit x p) f ∙ bit_all_out q p l)

  first_out : (p : ℕ) → p < 64 → p < q → bit first p ≡ 0
  first_out p h l = bit_xor_lem (2 ^ 64 - 1) below p ∙ ap₂ differ (bit_all 64 p h) (ap (λ (x : ℕ). bit x p) f ∙ bit_all q p l)

  marks_first : 64 ≤ q + k → q + k < 256 → Marks first 0
  marks_first g l p h = ⊎_elim (λ y. out_of_it (first_out p h y) (omega arith)) (λ n. in_it (first_in p h n) (omega arith)) (less p q)

  marks_short : q + k < 64 → Marks (bit_and first own) 0
  marks_short l p h = ⊎_elim
      (λ y. out_of_it (bit_and_lem first own p ∙ ap (λ (x : ℕ). min x (bit own p)) (first_out p h y) ∙ none_of (bit own p)) (omega arith))
      (λ n. ⊎_elim
      (λ y. in_it (bit_and_lem first own p ∙ ap₂ min (first_in p h n) (own_in p y)) (omega arith))
      (λ m. out_of_it (bit_and_lem first own p ∙ ap₂ min (first_in p h n) (own_out p m)) (omega arith))
      (less p ((q + k) % 64)))
      (less p q)
    where
      none_of : (x : ℕ) → min 0 x ≡ 0
      none_of x = omega arith

  marks_over : 256 ≤ q + k → Marks (bit_or first own) 0
  marks_over g p h = ⊎_elim
      (λ y. ⊎_elim
      (λ z. in_it (bit_or_lem first own p ∙ ap₂ max (first_out p h y) (own_in p z)) (omega arith))
      (λ m. out_of_it (bit_or_lem first own p ∙ ap₂ max (first_out p h y) (own_out p m)) (omega arith))
      (less p ((q + k) % 64)))
      (λ n. in_it (bit_or_lem first own p ∙ ap (λ (x : ℕ). max x (bit own p)) (first_in p h n) ∙ one_of (bit own p) (bit_lt own p)) (omega arith))
      (less p q)
    where
      one_of : (x : ℕ) → x < 2 → max 1 x ≡ 1
      one_of x l = omega arith

  -- a map so masked: by where the places end
  module _ (w : List ℕ) (h : Words w) (m : Map) where
    abbrev Masked : ℕ → ℕ → ℕ → ℕ → Type 0
    Masked a b c d = m.words ≡ bit_and (get_or w 0 0) a ∷ bit_and (get_or w 1 0) b ∷ bit_and (get_or w 2 0) c ∷ bit_and (get_or w 3 0) d ∷ []

    abbrev Alone : Type 0
    Alone = m ≡ map_of (only q k (value_of_list w))

    marked : (a b c d : ℕ) → Masked a b c d → Marks a 0 → Marks b 1 → Marks c 2 → Marks d 3 → Alone
    marked a b c d e x y z t =
        let new = and_words w h a b c d in
        let few : k ≡ min k 256 = omega arith in
        map_at m _ (subst (λ (v : List ℕ). Words v) (sym e) new)
        (ap value_of_list e ∙ only_words w _ h new q k k few (and_each w a b c d (λ j p. pick (ltb ((64 * j + p + (256 - q % 256)) % 256) k) 1 0) x y z t))

    pub ends_first : Masked (bit_and first own) 0 0 0 → q + k < 64 → Alone
    ends_first e l = marked _ _ _ _ e (marks_short l) (marks_none 1 (omega arith) (omega arith) (omega arith)) (marks_none 2 (omega arith) (omega arith) (omega arith)) (marks_none 3 (omega arith) (omega arith) (omega arith))

    pub ends_second : Masked first own 0 0 → 64 ≤ q + k → q + k < 128 → Alone
    ends_second e g l = marked _ _ _ _ e (marks_first g (omega arith)) (marks_own 1 (omega arith) (omega arith) g l) (marks_none 2 (omega arith) (omega arith) (omega arith)) (marks_none 3 (omega arith) (omega arith) (omega arith))

    pub ends_third : Masked first (2 ^ 64 - 1) own 0 → 128 ≤ q + k → q + k < 192 → Alone
    ends_third e g l = marked _ _ _ _ e (marks_first (omega arith) (omega arith)) (marks_all 1 (omega arith) (omega arith) g) (marks_own 2 (omega arith) (omega arith) g l) (marks_none 3 (omega arith) (omega arith) (omega arith))

    pub ends_fourth : Masked first (2 ^ 64 - 1) (2 ^ 64 - 1) own → 192 ≤ q + k → q + k < 256 → Alone
    ends_fourth e g l = marked _ _ _ _ e (marks_first (omega arith) l) (marks_all 1 (omega arith) (omega arith) (omega arith)) (marks_all 2 (omega arith) (omega arith) g) (marks_own 3 (omega arith) (omega arith) g l)

    pub ends_round : Masked (bit_or first own) (2 ^ 64 - 1) (2 ^ 64 - 1) (2 ^ 64 - 1) → 256 ≤ q + k → Alone
    ends_round e g = marked _ _ _ _ e (marks_over g) (marks_all 1 (omega arith) (omega arith) (omega arith)) (marks_all 2 (omega arith) (omega arith) (omega arith)) (marks_all 3 (omega arith) (omega arith) g)

-- as many as there are from s on
pub front_ones : (s k n m t : ℕ) → m < 2 ^ 256 → n ≡ min k 256 → t ≡ rotated (64 * (s / 64 % 4)) m
    → ones (bits_in (map_of (only (s % 64) n t))) ≡ ones (rotated s m % 2 ^ k)
front_ones s k n m t hm e f =
    let u = rotated (64 * (s / 64 % 4)) m in
    let hu = rotated_lt (64 * (s / 64 % 4)) m hm in
    let lt = only_lt (s % 64) (min k 256) u hu in
    let read : rotated (s % 64) u ≡ rotated s m =
    ap (λ (x : ℕ). rotated x u) (sym (add-zero (s % 64))) ∙ rotated_turned s 0 m hm ∙ ap (λ (x : ℕ). rotated x m) (add-zero s) in
    ap₂ (λ (x y : ℕ). ones (bits_in (map_of (only (s % 64) x y)))) e f ∙ ap ones (value_of_lem _ lt)
    ∙ sym (rotated_ones (s % 64) _ lt) ∙ ap ones (only_read (s % 64) (min k 256) u hu)
    ∙ ap (λ (x : ℕ). ones (x % 2 ^ min k 256)) read ∙ ap ones (mod_most k _ (rotated_lt s m hm))
