-- The number of four words: its count, its complement and its digits, from the words'.
-- Assumes nothing.
use mathlib.Core.Path.{◌≡◌, refl, sym, ap, ap₂, ◌∙◌}
use mathlib.Core.List.{List, [], ◌∷◌}
use mathlib.Core.Logic.{inl, inr}
use Prim.Native.Nat.{ℕ, zero, suc, ◌+◌, ◌-◌, ◌*◌, ◌/◌, ◌%◌, ◌^◌, ◌<◌}
use native.Mathlib.Nat.{mod-lt, eq-zero-or-pos, ne_of_gt, mod-eq_of_lt, zero-add, add_assoc}
use native.Mathlib.Omega.{arith}
use lib.ListN.{get_or, set, length, length-set}
use lib.Pow.{pow_pos, high, low, split, shr-shr, shr_lt}
use borrow.Author.Tests.{eq-eqb, ne_eqb}
use lib.Bits.{bit_or, or_add_and, and_le_l, and_le_r}
use lib.Dec.{eqb, ltb}
use lib.Count.{ones, ones_cat}
use mir.Syntax.{w64}
use mir.Val.{Fits}
use Rattle.terms.specs.Paper.{pick}
use Rattle.tick_map.specs.Bits.{over, value_of, value_of_list, bits_in, map_of, bit, Words}
use Rattle.tick_map.specs.declared.Map.{Map}
use Rattle.tick_map.proofs.Laws.{shr_high, bit_low, bit_high, or_low, or_high, parts_lt, not_parts}

-- a list of four is its four elements
pub as_four : (w : List ℕ) → length w ≡ 4 → w ≡ get_or w 0 0 ∷ get_or w 1 0 ∷ get_or w 2 0 ∷ get_or w 3 0 ∷ []
as_four [] e = absurd (no e)
  where
    no : ◌≡◌ {A = ℕ} 0 4 → ⊥
    no e = omega arith
as_four (a ∷ []) e = absurd (no e)
  where
    no : ◌≡◌ {A = ℕ} 1 4 → ⊥
    no e = omega arith
as_four (a ∷ b ∷ []) e = absurd (no e)
  where
    no : ◌≡◌ {A = ℕ} 2 4 → ⊥
    no e = omega arith
as_four (a ∷ b ∷ c ∷ []) e = absurd (no e)
  where
    no : ◌≡◌ {A = ℕ} 3 4 → ⊥
    no e = omega arith
as_four (a ∷ b ∷ c ∷ d ∷ []) e = refl
as_four (a ∷ b ∷ c ∷ d ∷ x ∷ w) e = absurd (no (length w) e)
  where
    no : (n : ℕ) → suc (suc (suc (suc (suc n)))) ≡ 4 → ⊥
    no n e = omega arith

pub over_four : (j : ℕ) → suc (suc (suc (suc j))) < 4 → ⊥
over_four j h = omega arith

module _ (a b c d : ℕ) (ha : a < 2 ^ 64) (hb : b < 2 ^ 64) (hc : c < 2 ^ 64) where
  pub value_ones : ones (value_of a b c d) ≡ ones a + ones b + ones c + ones d
  unfolding value_of
  value_ones = omega (arith, ones_cat 64 (over (over d c) b) a ha, ones_cat 64 (over d c) b hb, ones_cat 64 d c hc)

  pub value_lt : d < 2 ^ 64 → value_of a b c d < 2 ^ 256
  unfolding value_of
  value_lt hd = parts_lt 192 64 (parts_lt 128 64 (parts_lt 64 64 hd hc) hb) ha

  -- the complement of each word makes the complement
  pub value_not : d < 2 ^ 64
      → value_of ((2 ^ 64 - 1) - a) ((2 ^ 64 - 1) - b) ((2 ^ 64 - 1) - c) ((2 ^ 64 - 1) - d) ≡ (2 ^ 256 - 1) - value_of a b c d
  unfolding value_of
  value_not hd =
      sym (not_parts 192 64 (parts_lt 128 64 (parts_lt 64 64 hd hc) hb) ha
      ∙ ap (λ (x : ℕ). over x ((2 ^ 64 - 1) - a)) (not_parts 128 64 (parts_lt 64 64 hd hc) hb
      ∙ ap (λ (x : ℕ). over x ((2 ^ 64 - 1) - b)) (not_parts 64 64 hd hc)))

  -- digit q of word j
  pub value_bit : (j q : ℕ) → j < 4 → q < 64 → bit (value_of a b c d) (64 * j + q) ≡ bit (get_or (a ∷ b ∷ c ∷ d ∷ []) j 0) q
  unfolding value_of
  value_bit zero q l h = ap (bit (over (over (over d c) b) a)) (zero-add q) ∙ bit_low (over (over d c) b) a 64 q h
  value_bit (suc zero) q l h = bit_high (over (over d c) b) 64 q ha ∙ bit_low (over d c) b 64 q h
  value_bit (suc (suc zero)) q l h =
      ap (bit (over (over (over d c) b) a)) (add_assoc 64 64 q)
      ∙ bit_high (over (over d c) b) 64 (64 + q) ha ∙ bit_high (over d c) 64 q hb ∙ bit_low d c 64 q h
  value_bit (suc (suc (suc zero))) q l h =
      ap (bit (over (over (over d c) b) a)) (add_assoc 64 128 q ∙ ap (λ (x : ℕ). 64 + x) (add_assoc 64 64 q))
      ∙ bit_high (over (over d c) b) 64 (64 + (64 + q)) ha ∙ bit_high (over d c) 64 (64 + q) hb ∙ bit_high d 64 q hc
  value_bit (suc (suc (suc (suc j)))) q l h = absurd (over_four j l)

  -- a word with one digit more
  pub value_set : (j q : ℕ) → j < 4 → q < 64
      → value_of_list (set (a ∷ b ∷ c ∷ d ∷ []) j (bit_or (get_or (a ∷ b ∷ c ∷ d ∷ []) j 0) (2 ^ q))) ≡ bit_or (value_of a b c d) (2 ^ (64 * j + q))
  unfolding value_of
  value_set zero q l h = sym (ap (λ (x : ℕ). bit_or (over (over (over d c) b) a) (2 ^ x)) (zero-add q) ∙ or_low (over (over d c) b) 64 q ha h)
  value_set (suc zero) q l h =
      sym (or_high (over (over d c) b) 64 q ha ∙ ap (λ (x : ℕ). over x a) (or_low (over d c) 64 q hb h))
  value_set (suc (suc zero)) q l h =
      sym (ap (λ (x : ℕ). bit_or (over (over (over d c) b) a) (2 ^ x)) (add_assoc 64 64 q)
      ∙ or_high (over (over d c) b) 64 (64 + q) ha
      ∙ ap (λ (x : ℕ). over x a) (or_high (over d c) 64 q hb ∙ ap (λ (x : ℕ). over x b) (or_low d 64 q hc h)))
  value_set (suc (suc (suc zero))) q l h =
      sym (ap (λ (x : ℕ). bit_or (over (over (over d c) b) a) (2 ^ x)) (add_assoc 64 128 q ∙ ap (λ (x : ℕ). 64 + x) (add_assoc 64 64 q))
      ∙ or_high (over (over d c) b) 64 (64 + (64 + q)) ha
      ∙ ap (λ (x : ℕ). over x a) (or_high (over d c) 64 (64 + q) hb ∙ ap (λ (x : ℕ). over x b) (or_high d 64 q hc)))
  value_set (suc (suc (suc (suc j)))) q l h = absurd (over_four j l)

-- ---- no digit is set exactly where no word has one

pub zero_or : (a b : ℕ) → bit_or a b ≡ 0 → (a ≡ 0) × (b ≡ 0)
zero_or a b e = (omega (arith, or_add_and a b, and_le_r a b), omega (arith, or_add_and a b, and_le_l a b))

pub zero_over : (a r : ℕ) → over a r ≡ 0 → (a ≡ 0) × (r ≡ 0)
zero_over a r e = (omega arith, omega arith)

pub same_zero : (x y : ℕ) → (x ≡ 0 → y ≡ 0) → (y ≡ 0 → x ≡ 0) → eqb x 0 ≡ eqb y 0
same_zero x y f g = elim (eq-zero-or-pos x) [
  | inl e ↦ eq-eqb x 0 e ∙ sym (eq-eqb y 0 (f e))
  | inr p ↦ ne_eqb x 0 (ne_of_gt p) ∙ sym (ne_eqb y 0 (λ e. ne_of_gt p (g e)))
]

pub value_zero : (a b c d : ℕ) → eqb (bit_or (bit_or (bit_or a b) c) d) 0 ≡ eqb (value_of a b c d) 0
unfolding value_of
value_zero a b c d = same_zero (bit_or (bit_or (bit_or a b) c) d) (over (over (over d c) b) a) none all
  where
    none : bit_or (bit_or (bit_or a b) c) d ≡ 0 → over (over (over d c) b) a ≡ 0
    none e =
        let x = zero_or (bit_or (bit_or a b) c) d e in
        let y = zero_or (bit_or a b) c x.0 in
        let z = zero_or a b y.0 in
        rw (z.0, z.1, y.1, x.1)

    all : over (over (over d c) b) a ≡ 0 → bit_or (bit_or (bit_or a b) c) d ≡ 0
    all e =
        let x = zero_over (over (over d c) b) a e in
        let y = zero_over (over d c) b x.0 in
        let z = zero_over d c y.0 in
        rw (x.1, y.1, z.1, z.0)

-- ---- the same of a list of four words
module _ (w : List ℕ) (h : Words w) where
  pub list_lt : value_of_list w < 2 ^ 256
  list_lt = value_lt _ _ _ _ (h.low 0).fits (h.low 1).fits (h.low 2).fits (h.low 3).fits

  pub list_not : value_of ((2 ^ 64 - 1) - get_or w 0 0) ((2 ^ 64 - 1) - get_or w 1 0) ((2 ^ 64 - 1) - get_or w 2 0) ((2 ^ 64 - 1) - get_or w 3 0)
      ≡ (2 ^ 256 - 1) - value_of_list w
  list_not = value_not _ _ _ _ (h.low 0).fits (h.low 1).fits (h.low 2).fits (h.low 3).fits

  -- digit i is in word i / 64
  pub list_bit : (i : ℕ) → i < 256 → bit (value_of_list w) i ≡ bit (get_or w (i / 64) 0) (i % 64)
  list_bit i l =
      let j<4 : i / 64 < 4 = omega arith in
      let q<64 : i % 64 < 64 = omega arith in
      let at : i ≡ 64 * (i / 64) + i % 64 = omega arith in
      ap (bit (value_of_list w)) at
      ∙ value_bit _ _ _ _ (h.low 0).fits (h.low 1).fits (h.low 2).fits (i / 64) (i % 64) j<4 q<64
      ∙ ap (λ (v : List ℕ). bit (get_or v (i / 64) 0) (i % 64)) (sym (as_four w h.four))

  pub list_set : (i : ℕ) → i < 256 → value_of_list (set w (i / 64) (bit_or (get_or w (i / 64) 0) (2 ^ (i % 64)))) ≡ bit_or (value_of_list w) (2 ^ i)
  list_set i l =
      let j<4 : i / 64 < 4 = omega arith in
      let q<64 : i % 64 < 64 = omega arith in
      let at : i ≡ 64 * (i / 64) + i % 64 = omega arith in
      ap (λ (v : List ℕ). value_of_list (set v (i / 64) (bit_or (get_or v (i / 64) 0) (2 ^ (i % 64))))) (as_four w h.four)
      ∙ value_set _ _ _ _ (h.low 0).fits (h.low 1).fits (h.low 2).fits (i / 64) (i % 64) j<4 q<64
      ∙ ap (λ (n : ℕ). bit_or (value_of_list w) (2 ^ n)) (sym at)

-- a word chosen by tests
pub word_of : (w : List ℕ) (j : ℕ) → j < 4
    → pick (ltb j 2) (pick (eqb (j % 2) 1) (get_or w 1 0) (get_or w 0 0)) (pick (eqb (j % 2) 1) (get_or w 3 0) (get_or w 2 0)) ≡ get_or w j 0
word_of w zero l = refl
word_of w (suc zero) l = refl
word_of w (suc (suc zero)) l = refl
word_of w (suc (suc (suc zero))) l = refl
word_of w (suc (suc (suc (suc j)))) l = absurd (over_four j l)

-- a word put for another
pub words_set : (w : List ℕ) (j x : ℕ) → Words w → Fits w64 x → Words (set w j x)
words_set w j x h f = record { four = length-set w j x ∙ h.four; low = at w h.low j }
  where
    at : (v : List ℕ) → ((i : ℕ) → Fits w64 (get_or v i 0)) → (j i : ℕ) → Fits w64 (get_or (set v j x) i 0)
    at [] g j i = g i
    at (y ∷ v) g zero zero = f
    at (y ∷ v) g zero (suc i) = g (suc i)
    at (y ∷ v) g (suc j) zero = g zero
    at (y ∷ v) g (suc j) (suc i) = at v (λ k. g (suc k)) j i

-- ---- the words of the number of four words are those words
module _ (a b c d : ℕ) (ha : a < 2 ^ 64) (hb : b < 2 ^ 64) (hc : c < 2 ^ 64) (hd : d < 2 ^ 64) where
  pub words_of : value_of a b c d % 2 ^ 64 ∷ value_of a b c d / 2 ^ 64 % 2 ^ 64 ∷ value_of a b c d / 2 ^ 128 % 2 ^ 64 ∷ value_of a b c d / 2 ^ 192 % 2 ^ 64 ∷ []
      ≡ a ∷ b ∷ c ∷ d ∷ []
  unfolding value_of
  words_of =
      let p : over (over (over d c) b) a % 2 ^ 64 ≡ a = low (over (over d c) b) 64 ha in
      let q : over (over (over d c) b) a / 2 ^ 64 % 2 ^ 64 ≡ b = ap (λ (x : ℕ). x % 2 ^ 64) (high (over (over d c) b) 64 ha) ∙ low (over d c) 64 hb in
      let r : over (over (over d c) b) a / 2 ^ 128 % 2 ^ 64 ≡ c =
      ap (λ (x : ℕ). x % 2 ^ 64) (shr_high (over (over d c) b) 64 64 ha ∙ high (over d c) 64 hb) ∙ low d 64 hc in
      let t : over (over (over d c) b) a / 2 ^ 192 % 2 ^ 64 ≡ d =
      ap (λ (x : ℕ). x % 2 ^ 64) (shr_high (over (over d c) b) 64 128 ha ∙ shr_high (over d c) 64 64 hb ∙ high d 64 hc) ∙ mod-eq_of_lt hd in
      ap₂ ◌∷◌ p (ap₂ ◌∷◌ q (ap₂ ◌∷◌ r (ap (λ (x : ℕ). x ∷ []) t)))

-- a map whose words are words is the map of its number: two maps of one number are one map
pub map_of_lem : (m : Map) → Words m.words → m ≡ map_of (bits_in m)
unfolding map_of
map_of_lem m h =
    ap (λ (w : List ℕ). record { words = w })
    (as_four m.words h.four ∙ sym (words_of _ _ _ _ (h.low 0).fits (h.low 1).fits (h.low 2).fits (h.low 3).fits))

-- and the map of a number below 2 ^ 256 stands for that number
pub value_of_lem : (w : ℕ) → w < 2 ^ 256 → bits_in (map_of w) ≡ w
unfolding value_of map_of
value_of_lem w h =
    let a : over (w / 2 ^ 192) (w / 2 ^ 128 % 2 ^ 64) ≡ w / 2 ^ 128 = ap (λ (x : ℕ). over x (w / 2 ^ 128 % 2 ^ 64)) (sym (shr-shr w 128 64)) ∙ split (w / 2 ^ 128) 64 in
    let b : over (w / 2 ^ 128) (w / 2 ^ 64 % 2 ^ 64) ≡ w / 2 ^ 64 = ap (λ (x : ℕ). over x (w / 2 ^ 64 % 2 ^ 64)) (sym (shr-shr w 64 64)) ∙ split (w / 2 ^ 64) 64 in
    ap (λ (x : ℕ). over (over (over x (w / 2 ^ 128 % 2 ^ 64)) (w / 2 ^ 64 % 2 ^ 64)) (w % 2 ^ 64)) (mod-eq_of_lt (shr_lt 64 192 h))
    ∙ ap (λ (x : ℕ). over (over x (w / 2 ^ 64 % 2 ^ 64)) (w % 2 ^ 64)) a
    ∙ ap (λ (x : ℕ). over x (w % 2 ^ 64)) b
    ∙ split w 64

-- a map is the map of its number, however that number is reached
pub map_at : (m : Map) (n : ℕ) → Words m.words → bits_in m ≡ n → m ≡ map_of n
map_at m n h e = map_of_lem m h ∙ ap map_of e

-- and its words are words
pub map_words : (n : ℕ) → Words (map_of n).words
unfolding map_of
map_words n = record { four = refl; low = low_of }
  where
    low_of : (i : ℕ) → Fits w64 (get_or (n % 2 ^ 64 ∷ n / 2 ^ 64 % 2 ^ 64 ∷ n / 2 ^ 128 % 2 ^ 64 ∷ n / 2 ^ 192 % 2 ^ 64 ∷ []) i 0)
    low_of zero = record { fits = mod-lt n (pow_pos 64) }
    low_of (suc zero) = record { fits = mod-lt (n / 2 ^ 64) (pow_pos 64) }
    low_of (suc (suc zero)) = record { fits = mod-lt (n / 2 ^ 128) (pow_pos 64) }
    low_of (suc (suc (suc zero))) = record { fits = mod-lt (n / 2 ^ 192) (pow_pos 64) }
    low_of (suc (suc (suc (suc i)))) = record { fits = pow_pos 64 }
