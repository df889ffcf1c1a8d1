-- What follows from where each digit stands: counts, scans and writes of a map read round from a
-- place. Assumes nothing.
use mathlib.Core.Path.{◌≡◌, sym, ap, ap₂, ◌∙◌, subst}
use mathlib.Core.List.{List}
use Prim.Native.Nat.{ℕ, ◌+◌, ◌-◌, ◌*◌, ◌/◌, ◌%◌, ◌^◌, ◌≤◌, ◌<◌}
use native.Mathlib.Nat.{mod-lt}
use native.Mathlib.Decide.{dec_lt, ℕ_discrete as dec_eq}
use native.Mathlib.Omega.{arith}
use lib.Bits.{bit_or, or_lt}
use lib.Count.{count_trailing_zeros, trailing_le}
use lib.ListN.{get_or}
use lib.Pow.{split, high, low, ones_sub-lt, pow_pos, pow-lt}
use Rattle.tick_map.specs.Bits.{bit, run, value_of_list, Words}
use Rattle.tick_map.specs.Ring.{rotated, laid}
use Rattle.tick_map.proofs.Laws.{not_parts, trailing_not}
use Rattle.tick_map.proofs.Digits.{bit_shr, bit_ext, bit_above, bit_set_same, bit_set_other, trailing_passed, trailing_stopped}
use Rattle.tick_map.proofs.Words.{list_lt, list_bit}
use Rattle.tick_map.proofs.Ring.{top_lt, rotated_lt, rotated_bit}

module _ (s m : ℕ) (hm : m < 2 ^ 256) where
  -- the complement reads as the complement
  rotated_not : rotated s ((2 ^ 256 - 1) - m) ≡ (2 ^ 256 - 1) - rotated s m
  unfolding rotated
  rotated_not =
      let t = s % 256 in
      let e : 256 - t + t ≡ 256 = omega arith in
      let g : t + (256 - t) ≡ 256 = omega arith in
      let a : (2 ^ 256 - 1) - m ≡ ((2 ^ (256 - t) - 1) - m / 2 ^ t) * 2 ^ t + ((2 ^ t - 1) - m % 2 ^ t) =
      ap₂ (λ (x y : ℕ). (2 ^ x - 1) - y) (sym e) (sym (split m t)) ∙ not_parts (256 - t) t (top_lt s m hm) (mod-lt m (pow_pos t)) in
      ap₂ (λ (x y : ℕ). x * 2 ^ (256 - t) + y)
      (ap (λ (x : ℕ). x % 2 ^ t) a ∙ low ((2 ^ (256 - t) - 1) - m / 2 ^ t) t (ones_sub-lt t (m % 2 ^ t)))
      (ap (λ (x : ℕ). x / 2 ^ t) a ∙ high ((2 ^ (256 - t) - 1) - m / 2 ^ t) t (ones_sub-lt t (m % 2 ^ t)))
      ∙ sym (not_parts t (256 - t) (mod-lt m (pow_pos t)) (top_lt s m hm))
      ∙ ap (λ (x : ℕ). (2 ^ x - 1) - ((m % 2 ^ t) * 2 ^ (256 - t) + m / 2 ^ t)) g

  pub rotated_run : count_trailing_zeros 256 (rotated s ((2 ^ 256 - 1) - m)) ≡ run 256 (rotated s m)
  rotated_run = ap (count_trailing_zeros 256) rotated_not ∙ trailing_not 256 (rotated s m) (rotated_lt s m hm)

-- places counted round
pub rotated_round : (s t m : ℕ) → s % 256 ≡ t % 256 → rotated s m ≡ rotated t m
unfolding rotated
rotated_round s t m e = ap (λ (x : ℕ). (m % 2 ^ x) * 2 ^ (256 - x) + m / 2 ^ x) e

-- what reads alike round from s is alike
pub rotated_ext : (s a b : ℕ) → a < 2 ^ 256 → b < 2 ^ 256 → ((i : ℕ) → i < 256 → bit a ((s + i) % 256) ≡ bit b ((s + i) % 256)) → a ≡ b
rotated_ext s a b ha hb f =
    bit_ext 256 a b ha hb
    (λ p hp.
    let i : (p + (256 - s % 256)) % 256 < 256 = omega arith in
    let e : (s + (p + (256 - s % 256)) % 256) % 256 ≡ p = omega arith in
    ap (bit a) (sym e) ∙ f ((p + (256 - s % 256)) % 256) i ∙ ap (bit b) e)

-- reading round from s undoes laying from s, and the other way
pub rotated_laid : (s m : ℕ) → m < 2 ^ 256 → rotated s (laid s m) ≡ m
rotated_laid s m hm =
    let lt = rotated_lt (256 - s % 256) m hm in
    bit_ext 256 _ m (rotated_lt s _ lt) hm
    (λ i hi.
    let p : (s + i) % 256 < 256 = omega arith in
    let e : (256 - s % 256 + (s + i) % 256) % 256 ≡ i = omega arith in
    rotated_bit s (laid s m) lt i hi ∙ rotated_bit (256 - s % 256) m hm ((s + i) % 256) p ∙ ap (bit m) e)

pub laid_rotated : (s m : ℕ) → m < 2 ^ 256 → laid s (rotated s m) ≡ m
laid_rotated s m hm =
    let lt = rotated_lt s m hm in
    bit_ext 256 _ m (rotated_lt (256 - s % 256) _ lt) hm
    (λ i hi.
    let p : (256 - s % 256 + i) % 256 < 256 = omega arith in
    let e : (s + (256 - s % 256 + i) % 256) % 256 ≡ i = omega arith in
    rotated_bit (256 - s % 256) (rotated s m) lt i hi ∙ rotated_bit s m hm ((256 - s % 256 + i) % 256) p ∙ ap (bit m) e)

pub rotated_zero : (s : ℕ) → rotated s 0 ≡ 0
rotated_zero s =
    bit_ext 256 (rotated s 0) 0 (rotated_lt s 0 (pow_pos 256)) (pow_pos 256)
    (λ i l. rotated_bit s 0 (pow_pos 256) i l ∙ bit_above 0 ((s + i) % 256) (pow_pos 0) (omega arith) ∙ sym (bit_above 0 i (pow_pos 0) (omega arith)))

-- one place more, at n places from s round, is digit n more
pub rotated_set : (s m n : ℕ) → m < 2 ^ 256 → n < 256 → rotated s (bit_or m (2 ^ ((s + n) % 256))) ≡ bit_or (rotated s m) (2 ^ n)
rotated_set s m n hm hn =
    let p : (s + n) % 256 < 256 = omega arith in
    let more : bit_or m (2 ^ ((s + n) % 256)) < 2 ^ 256 = or_lt 256 m (2 ^ ((s + n) % 256)) hm (pow-lt p) in
    bit_ext 256 _ _ (rotated_lt s _ more) (or_lt 256 _ _ (rotated_lt s m hm) (pow-lt hn))
    (λ i hi. rotated_bit s (bit_or m (2 ^ ((s + n) % 256))) more i hi ∙ elim (dec_eq i n) [ yes e ↦ together i e | no g ↦ apart i hi g ])
  where
    together : (i : ℕ) → i ≡ n → bit (bit_or m (2 ^ ((s + n) % 256))) ((s + i) % 256) ≡ bit (bit_or (rotated s m) (2 ^ n)) i
    together i e =
        ap (λ (x : ℕ). bit (bit_or m (2 ^ ((s + n) % 256))) ((s + x) % 256)) e ∙ bit_set_same m ((s + n) % 256)
        ∙ sym (ap (bit (bit_or (rotated s m) (2 ^ n))) e ∙ bit_set_same (rotated s m) n)

    apart : (i : ℕ) → i < 256 → (i ≡ n → ⊥) → bit (bit_or m (2 ^ ((s + n) % 256))) ((s + i) % 256) ≡ bit (bit_or (rotated s m) (2 ^ n)) i
    apart i hi g =
        let ne : (s + i) % 256 ≡ (s + n) % 256 → ⊥ = λ e. g (omega arith) in
        bit_set_other m ((s + n) % 256) ((s + i) % 256) ne ∙ sym (bit_set_other (rotated s m) n i g ∙ rotated_bit s m hm i hi)

-- nothing is read exactly where nothing is there
pub rotated_none : (s m : ℕ) → m < 2 ^ 256 → rotated s m ≡ 0 → m ≡ 0
rotated_none s m h e = sym (laid_rotated s m h) ∙ ap (laid s) e ∙ rotated_zero (256 - s % 256)

-- ---- the scan of four words round

-- the digits that a scan passed, and the one where it stopped, fix its answer
pub trailing_is : (k m z : ℕ) → z ≤ k → ((i : ℕ) → i < z → bit m i ≡ 0) → (z < k → bit m z ≡ 1) → z ≡ count_trailing_zeros k m
trailing_is k m z h passed stopped =
    elim (dec_lt z (count_trailing_zeros k m)) [
      | yes l ↦ absurd (early l)
      | no g ↦ elim (dec_lt (count_trailing_zeros k m) z) [ yes l ↦ absurd (late l) | no f ↦ omega arith ]
    ]
  where
    early : z < count_trailing_zeros k m → ⊥
    early l = let b : z < k = omega (arith, trailing_le k m) in omega (arith, stopped b, trailing_passed k m z l)

    late : count_trailing_zeros k m < z → ⊥
    late l = let b : count_trailing_zeros k m < k = omega arith in omega (arith, passed (count_trailing_zeros k m) l, trailing_stopped k m b)

-- the n places from s round are clear
pub record Clear (w : List ℕ) (s n : ℕ) : Type 0 where
  pub clear : (i : ℕ) → i < n → bit (value_of_list w) ((s + i) % 256) ≡ 0

module _ (w : List ℕ) (h : Words w) (s : ℕ) where
  -- the place's own word, from the place on
  near_bit : (i : ℕ) → i < 64 - s % 64 → bit (get_or w (s / 64 % 4) 0 / 2 ^ (s % 64)) i ≡ bit (value_of_list w) ((s + i) % 256)
  near_bit i l =
      let p : (s + i) % 256 < 256 = omega arith in
      let a : (s + i) % 256 / 64 ≡ s / 64 % 4 = omega arith in
      let b : (s + i) % 256 % 64 ≡ s % 64 + i = omega arith in
      bit_shr (get_or w (s / 64 % 4) 0) (s % 64) i ∙ sym (list_bit w h ((s + i) % 256) p ∙ ap₂ (λ (x y : ℕ). bit (get_or w x 0) y) a b)

  near_above : (i : ℕ) → 64 - s % 64 ≤ i → bit (get_or w (s / 64 % 4) 0 / 2 ^ (s % 64)) i ≡ 0
  near_above i l = bit_shr (get_or w (s / 64 % 4) 0) (s % 64) i ∙ bit_above 64 (s % 64 + i) (h.low (s / 64 % 4)).fits (omega arith)

  -- it stops the scan
  pub near_stops : {z : ℕ} → z ≡ count_trailing_zeros 64 (get_or w (s / 64 % 4) 0 / 2 ^ (s % 64)) → z < 64 → z ≡ count_trailing_zeros 256 (rotated s (value_of_list w))
  near_stops {z} e l =
      let v = get_or w (s / 64 % 4) 0 / 2 ^ (s % 64) in
      let set : bit v z ≡ 1 = ap (bit v) e ∙ trailing_stopped 64 v (subst (λ (x : ℕ). x < 64) e l) in
      let inside : z < 64 - s % 64 = elim (dec_lt z (64 - s % 64)) [ yes b ↦ b | no b ↦ absurd (outside set (near_above z (omega arith))) ] in
      trailing_is 256 (rotated s (value_of_list w)) z (omega arith)
      (λ i b. rotated_bit s _ (list_lt w h) i (omega arith) ∙ sym (near_bit i (omega arith)) ∙ trailing_passed 64 v i (subst (λ (x : ℕ). i < x) e b))
      (λ b. rotated_bit s _ (list_lt w h) z b ∙ sym (near_bit z inside) ∙ set)
    where
      outside : {x : ℕ} → x ≡ 1 → x ≡ 0 → ⊥
      outside p q = omega arith

  -- or its places are clear
  pub near_passes : count_trailing_zeros 64 (get_or w (s / 64 % 4) 0 / 2 ^ (s % 64)) ≡ 64 → Clear w s (64 - s % 64)
  near_passes e =
      record { clear = λ i l. sym (near_bit i l) ∙ trailing_passed 64 _ i (omega arith) }

  -- word j, at n places from s round
  module _ (n j : ℕ) (at : (s + n) % 256 ≡ 64 * j) (c : Clear w s n) where
    word_bit : (i : ℕ) → i < 64 → bit (value_of_list w) ((s + (n + i)) % 256) ≡ bit (get_or w j 0) i
    word_bit i l =
        let p : (s + (n + i)) % 256 < 256 = omega arith in
        let a : (s + (n + i)) % 256 / 64 ≡ j = omega arith in
        let b : (s + (n + i)) % 256 % 64 ≡ i = omega arith in
        list_bit w h ((s + (n + i)) % 256) p ∙ ap₂ (λ (x y : ℕ). bit (get_or w x 0) y) a b

    more : (z : ℕ) → z ≤ 64 → ((i : ℕ) → i < z → bit (get_or w j 0) i ≡ 0) → Clear w s (n + z)
    more z l f = record { clear = λ i b. elim (dec_lt i n) [ yes y ↦ c.clear i y | no y ↦ beyond i b (omega arith) ] }
      where
        beyond : (i : ℕ) → i < n + z → n ≤ i → bit (value_of_list w) ((s + i) % 256) ≡ 0
        beyond i b g =
            let e : i ≡ n + (i - n) = omega arith in
            let d : i - n < z = omega arith in
            ap (λ (x : ℕ). bit (value_of_list w) ((s + x) % 256)) e ∙ word_bit (i - n) (omega arith) ∙ f (i - n) d

    pub word_passes : count_trailing_zeros 64 (get_or w j 0) ≡ 64 → Clear w s (n + 64)
    word_passes e = more 64 (omega arith) (λ i l. trailing_passed 64 (get_or w j 0) i (omega arith))

    pub word_stops : {z : ℕ} → n ≤ 256 → z ≡ count_trailing_zeros 64 (get_or w j 0) → z < 64 → n + z ≡ count_trailing_zeros 256 (rotated s (value_of_list w))
    word_stops {z} b e l =
        let v = get_or w j 0 in
        let set : bit v z ≡ 1 = ap (bit v) e ∙ trailing_stopped 64 v (subst (λ (x : ℕ). x < 64) e l) in
        let one : bit (value_of_list w) ((s + (n + z)) % 256) ≡ 1 = word_bit z l ∙ set in
        let inside : n + z < 256 = elim (dec_lt (n + z) 256) [ yes y ↦ y | no y ↦ absurd (round one (omega arith)) ] in
        let all = more z (omega arith) (λ i y. trailing_passed 64 v i (subst (λ (x : ℕ). i < x) e y)) in
        trailing_is 256 (rotated s (value_of_list w)) (n + z) (omega arith)
        (λ i y. rotated_bit s _ (list_lt w h) i (omega arith) ∙ all.clear i y)
        (λ y. rotated_bit s _ (list_lt w h) (n + z) y ∙ one)
      where
        -- a place that the scan has seen is clear, so it does not stop there the second time
        round : bit (value_of_list w) ((s + (n + z)) % 256) ≡ 1 → 256 ≤ n + z → ⊥
        round one g =
            let e : (s + (n + z)) % 256 ≡ (s + (n + z - 256)) % 256 = omega arith in
            let zero_at : bit (value_of_list w) ((s + (n + z - 256)) % 256) ≡ 0 = c.clear (n + z - 256) (omega arith) in
            omega (arith, one, zero_at, ap (bit (value_of_list w)) e)

  pub all_clear : (n : ℕ) → 256 ≤ n → Clear w s n → 256 ≡ count_trailing_zeros 256 (rotated s (value_of_list w))
  all_clear n l c =
      trailing_is 256 (rotated s (value_of_list w)) 256 (omega arith)
      (λ i b. rotated_bit s _ (list_lt w h) i b ∙ c.clear i (omega arith)) (λ b. absurd (never b))
    where
      never : 256 < 256 → ⊥
      never b = omega arith
