-- Words made of places: one place, the places below another, a stretch of them counted round.
-- Assumes nothing.
use mathlib.Core.Path.{◌≡◌, refl, sym, ap, ap₂, ◌∙◌}
use mathlib.Core.Bool.{Bool, true, false}
use mathlib.Core.List.{List, [], ◌∷◌}
use mathlib.Core.Logic.{⊎_elim}
use Prim.Native.Nat.{ℕ, zero, suc, ◌+◌, ◌-◌, ◌*◌, ◌/◌, ◌%◌, ◌^◌, ◌≤◌, ◌<◌, min}
use native.Mathlib.Nat.{lt_of_le_of_lt}
use native.Mathlib.Omega.{arith}
use borrow.Author.Tests.{lt-ltb, le-ltb, le-leb, lt-leb, eq-eqb, ne_eqb}
use lib.Bits.{differ, bit_and, bit_or, bit_xor, and_le_l, or_lt, xor_lt, or_zero_r}
use lib.Dec.{eqb, ltb, leb}
use lib.ListN.{get_or, set, length}
use lib.Pow.{pow_pos, pow-lt}
use mir.Syntax.{w64}
use mir.Val.{Fits}
use Rattle.terms.specs.Paper.{pick}
use Rattle.terms.specs.Cases.{less, same}
use Rattle.tick_map.specs.Bits.{bit, value_of_list, Words}
use Rattle.tick_map.specs.Ring.{without, only}
use Rattle.tick_map.proofs.Digits.{bit_lt, bit_and_lem, bit_xor_lem, bit_none, bit_all, bit_all_out}
use Rattle.tick_map.proofs.Words.{as_four, over_four, list_lt, list_bit, words_set}
use Rattle.tick_map.proofs.Stretch.{without_is, only_in, only_out, only_is}

-- ---- one place more

-- each word with its part of one place
pub place_set_lem : (w : List ℕ) (j x a b c d : ℕ) → length w ≡ 4 → j < 4
    → a ≡ pick (eqb 0 j) x 0 → b ≡ pick (eqb 1 j) x 0 → c ≡ pick (eqb 2 j) x 0 → d ≡ pick (eqb 3 j) x 0
    → bit_or (get_or w 0 0) a ∷ bit_or (get_or w 1 0) b ∷ bit_or (get_or w 2 0) c ∷ bit_or (get_or w 3 0) d ∷ [] ≡ set w j (bit_or (get_or w j 0) x)
place_set_lem w j x a b c d e l p q r t =
    parts p q r t ∙ of_four (get_or w 0 0) (get_or w 1 0) (get_or w 2 0) (get_or w 3 0) j l ∙ ap (λ (v : List ℕ). set v j (bit_or (get_or v j 0) x)) (sym (as_four w e))
  where
    parts : {a b c d a' b' c' d' : ℕ} → a ≡ a' → b ≡ b' → c ≡ c' → d ≡ d'
        → bit_or (get_or w 0 0) a ∷ bit_or (get_or w 1 0) b ∷ bit_or (get_or w 2 0) c ∷ bit_or (get_or w 3 0) d ∷ []
        ≡ bit_or (get_or w 0 0) a' ∷ bit_or (get_or w 1 0) b' ∷ bit_or (get_or w 2 0) c' ∷ bit_or (get_or w 3 0) d' ∷ []
    parts p q r t = cc

    of_four : (a b c d j : ℕ) → j < 4
        → bit_or a (pick (eqb 0 j) x 0) ∷ bit_or b (pick (eqb 1 j) x 0) ∷ bit_or c (pick (eqb 2 j) x 0) ∷ bit_or d (pick (eqb 3 j) x 0) ∷ []
        ≡ set (a ∷ b ∷ c ∷ d ∷ []) j (bit_or (get_or (a ∷ b ∷ c ∷ d ∷ []) j 0) x)
    of_four a b c d zero l = cc (or_zero_r b, or_zero_r c, or_zero_r d)
    of_four a b c d (suc zero) l = cc (or_zero_r a, or_zero_r c, or_zero_r d)
    of_four a b c d (suc (suc zero)) l = cc (or_zero_r a, or_zero_r b, or_zero_r d)
    of_four a b c d (suc (suc (suc zero))) l = cc (or_zero_r a, or_zero_r b, or_zero_r c)
    of_four a b c d (suc (suc (suc (suc j)))) l = absurd (over_four j l)

-- ---- the places below x

pub below_bit : (x j q : ℕ) → q < 64 → bit (pick (ltb j (x / 64)) (2 ^ 64 - 1) (pick (eqb j (x / 64)) (2 ^ (x % 64) - 1) 0)) q ≡ pick (ltb (64 * j + q) x) 1 0
below_bit x j q h = ⊎_elim before behind (less j (x / 64))
  where
    before : j < x / 64 → bit (pick (ltb j (x / 64)) (2 ^ 64 - 1) (pick (eqb j (x / 64)) (2 ^ (x % 64) - 1) 0)) q ≡ pick (ltb (64 * j + q) x) 1 0
    before l =
        let in_it : 64 * j + q < x = omega arith in
        ap (λ (t : Bool). bit (pick t (2 ^ 64 - 1) (pick (eqb j (x / 64)) (2 ^ (x % 64) - 1) 0)) q) (lt-ltb _ _ l) ∙ bit_all 64 q h
        ∙ sym (ap (λ (t : Bool). pick t 1 0) (lt-ltb _ _ in_it))

    own : x / 64 ≡ j → bit (2 ^ (x % 64) - 1) q ≡ pick (ltb (64 * j + q) x) 1 0
    own e = ⊎_elim
        (λ l. let i : 64 * j + q < x = omega arith in bit_all (x % 64) q l ∙ sym (ap (λ (t : Bool). pick t 1 0) (lt-ltb _ _ i)))
        (λ g. let o : x ≤ 64 * j + q = omega arith in bit_all_out (x % 64) q g ∙ sym (ap (λ (t : Bool). pick t 1 0) (le-ltb _ _ o)))
        (less q (x % 64))

    behind : x / 64 ≤ j → bit (pick (ltb j (x / 64)) (2 ^ 64 - 1) (pick (eqb j (x / 64)) (2 ^ (x % 64) - 1) 0)) q ≡ pick (ltb (64 * j + q) x) 1 0
    behind g =
        ap (λ (t : Bool). bit (pick t (2 ^ 64 - 1) (pick (eqb j (x / 64)) (2 ^ (x % 64) - 1) 0)) q) (le-ltb _ _ g)
        ∙ ⊎_elim
        (λ (e : j ≡ x / 64). ap (λ (t : Bool). bit (pick t (2 ^ (x % 64) - 1) 0) q) (eq-eqb _ _ e) ∙ own (sym e))
        (λ (n : j ≡ x / 64 → ⊥).
        let o : x ≤ 64 * j + q = beyond n g in
        ap (λ (t : Bool). bit (pick t (2 ^ (x % 64) - 1) 0) q) (ne_eqb _ _ n) ∙ bit_none q ∙ sym (ap (λ (t : Bool). pick t 1 0) (le-ltb _ _ o)))
        (same j (x / 64))
      where
        beyond : (j ≡ x / 64 → ⊥) → x / 64 ≤ j → x ≤ 64 * j + q
        beyond n g = ⊎_elim (λ (l : j < x / 64 + 1). absurd (n (omega arith))) (λ (l : x / 64 + 1 ≤ j). omega arith) (less j (x / 64 + 1))

-- all digits of a word, or none
pub all_bit : (t : Bool) (q : ℕ) → q < 64 → bit (pick t (2 ^ 64 - 1) 0) q ≡ pick t 1 0
all_bit true q h = bit_all 64 q h
all_bit false q h = bit_none q

-- ---- the k places from s on, counted round: below one end and not below the other, and where the
-- stretch comes round the other way about
module _ (p s k : ℕ) (hp : p < 256) (hs : s < 256) (hk : k ≤ 256) where
  abbrev three : Bool → Bool → Bool → ℕ
  three a b c = differ (differ (pick a 1 0) (pick b 1 0)) (pick c 1 0)

  abbrev there : Bool
  there = ltb ((p + (256 - s)) % 256) k

  leaf : (a b c d : Bool) → ltb p s ≡ a → ltb p ((s + k) % 256) ≡ b → leb 256 (s + k) ≡ c → ltb ((p + (256 - s)) % 256) k ≡ d → three a b c ≡ pick d 1 0
      → three (ltb p s) (ltb p ((s + k) % 256)) (leb 256 (s + k)) ≡ pick (ltb ((p + (256 - s)) % 256) k) 1 0
  leaf a b c d x y z u e = rw (x, y, z, u, e)

  pub span_digit : three (ltb p s) (ltb p ((s + k) % 256)) (leb 256 (s + k)) ≡ pick (ltb ((p + (256 - s)) % 256) k) 1 0
  span_digit = ⊎_elim short round (less (s + k) 256)
    where
      below_end : p < (s + k) % 256 → ltb p ((s + k) % 256) ≡ true
      below_end l = lt-ltb _ _ l

      not_below_end : (s + k) % 256 ≤ p → ltb p ((s + k) % 256) ≡ false
      not_below_end l = le-ltb _ _ l

      inside : (p + (256 - s)) % 256 < k → ltb ((p + (256 - s)) % 256) k ≡ true
      inside l = lt-ltb _ _ l

      outside : k ≤ (p + (256 - s)) % 256 → ltb ((p + (256 - s)) % 256) k ≡ false
      outside l = le-ltb _ _ l

      short : s + k < 256 → three (ltb p s) (ltb p ((s + k) % 256)) (leb 256 (s + k)) ≡ pick (ltb ((p + (256 - s)) % 256) k) 1 0
      short c = ⊎_elim
          (λ (a : p < s). leaf true true false false (lt-ltb _ _ a) (below_end (omega arith)) (lt-leb _ _ c) (outside (omega arith)) refl)
          (λ (a : s ≤ p). ⊎_elim
          (λ (b : p < s + k). leaf false true false true (le-ltb _ _ a) (below_end (omega arith)) (lt-leb _ _ c) (inside (omega arith)) refl)
          (λ (b : s + k ≤ p). leaf false false false false (le-ltb _ _ a) (not_below_end (omega arith)) (lt-leb _ _ c) (outside (omega arith)) refl)
          (less p (s + k)))
          (less p s)

      round : 256 ≤ s + k → three (ltb p s) (ltb p ((s + k) % 256)) (leb 256 (s + k)) ≡ pick (ltb ((p + (256 - s)) % 256) k) 1 0
      round c = ⊎_elim
          (λ (a : p < s). ⊎_elim
          (λ (b : p + 256 < s + k). leaf true true true true (lt-ltb _ _ a) (below_end (omega arith)) (le-leb _ _ c) (inside (omega arith)) refl)
          (λ (b : s + k ≤ p + 256). leaf true false true false (lt-ltb _ _ a) (not_below_end (omega arith)) (le-leb _ _ c) (outside (omega arith)) refl)
          (less (p + 256) (s + k)))
          (λ (a : s ≤ p). leaf false false true true (le-ltb _ _ a) (not_below_end (omega arith)) (le-leb _ _ c) (inside (omega arith)) refl)
          (less p s)

-- ---- word by word

pub four_words : (a b c d : ℕ) → a < 2 ^ 64 → b < 2 ^ 64 → c < 2 ^ 64 → d < 2 ^ 64 → Words (a ∷ b ∷ c ∷ d ∷ [])
four_words a b c d x y z t = record { four = refl; low = at }
  where
    at : (i : ℕ) → Fits w64 (get_or (a ∷ b ∷ c ∷ d ∷ []) i 0)
    at zero = record { fits = x }
    at (suc zero) = record { fits = y }
    at (suc (suc zero)) = record { fits = z }
    at (suc (suc (suc zero))) = record { fits = t }
    at (suc (suc (suc (suc i)))) = record { fits = pow_pos 64 }

module _ (w : List ℕ) (h : Words w) where
  and_lt : (j a : ℕ) → bit_and (get_or w j 0) a < 2 ^ 64
  and_lt j a = lt_of_le_of_lt (and_le_l (get_or w j 0) a) (h.low j).fits

  pub and_words : (a b c d : ℕ) → Words (bit_and (get_or w 0 0) a ∷ bit_and (get_or w 1 0) b ∷ bit_and (get_or w 2 0) c ∷ bit_and (get_or w 3 0) d ∷ [])
  and_words a b c d = four_words _ _ _ _ (and_lt 0 a) (and_lt 1 b) (and_lt 2 c) (and_lt 3 d)

  pub xor_words : (o : List ℕ) → Words o
      → Words (bit_xor (get_or w 0 0) (get_or o 0 0) ∷ bit_xor (get_or w 1 0) (get_or o 1 0) ∷ bit_xor (get_or w 2 0) (get_or o 2 0) ∷ bit_xor (get_or w 3 0) (get_or o 3 0) ∷ [])
  xor_words o ho = four_words _ _ _ _ (both 0) (both 1) (both 2) (both 3)
    where
      both : (j : ℕ) → bit_xor (get_or w j 0) (get_or o j 0) < 2 ^ 64
      both j = xor_lt 64 _ _ (h.low j).fits (ho.low j).fits

  -- a word with one digit more
  pub set_words : (j q : ℕ) → q < 64 → Words (set w j (bit_or (get_or w j 0) (2 ^ q)))
  set_words j q l = words_set w j _ h (record { fits = or_lt 64 _ _ (h.low j).fits (pow-lt l) })

pub and_each : (w : List ℕ) (a b c d : ℕ) (f : ℕ → ℕ → ℕ)
    → ((q : ℕ) → q < 64 → bit a q ≡ f 0 q) → ((q : ℕ) → q < 64 → bit b q ≡ f 1 q) → ((q : ℕ) → q < 64 → bit c q ≡ f 2 q) → ((q : ℕ) → q < 64 → bit d q ≡ f 3 q)
    → (j q : ℕ) → j < 4 → q < 64
    → bit (get_or (bit_and (get_or w 0 0) a ∷ bit_and (get_or w 1 0) b ∷ bit_and (get_or w 2 0) c ∷ bit_and (get_or w 3 0) d ∷ []) j 0) q ≡ min (bit (get_or w j 0) q) (f j q)
and_each w a b c d f x y z t zero q l h = bit_and_lem (get_or w 0 0) a q ∙ ap (min (bit (get_or w 0 0) q)) (x q h)
and_each w a b c d f x y z t (suc zero) q l h = bit_and_lem (get_or w 1 0) b q ∙ ap (min (bit (get_or w 1 0) q)) (y q h)
and_each w a b c d f x y z t (suc (suc zero)) q l h = bit_and_lem (get_or w 2 0) c q ∙ ap (min (bit (get_or w 2 0) q)) (z q h)
and_each w a b c d f x y z t (suc (suc (suc zero))) q l h = bit_and_lem (get_or w 3 0) d q ∙ ap (min (bit (get_or w 3 0) q)) (t q h)
and_each w a b c d f x y z t (suc (suc (suc (suc j)))) q l h = absurd (over_four j l)

pub xor_each : (w o : List ℕ) (j q : ℕ) → j < 4 → q < 64
    → bit (get_or (bit_xor (get_or w 0 0) (get_or o 0 0) ∷ bit_xor (get_or w 1 0) (get_or o 1 0) ∷ bit_xor (get_or w 2 0) (get_or o 2 0) ∷ bit_xor (get_or w 3 0) (get_or o 3 0) ∷ []) j 0) q
    ≡ differ (bit (get_or w j 0) q) (bit (get_or o j 0) q)
xor_each w o zero q l h = bit_xor_lem (get_or w 0 0) (get_or o 0 0) q
xor_each w o (suc zero) q l h = bit_xor_lem (get_or w 1 0) (get_or o 1 0) q
xor_each w o (suc (suc zero)) q l h = bit_xor_lem (get_or w 2 0) (get_or o 2 0) q
xor_each w o (suc (suc (suc zero))) q l h = bit_xor_lem (get_or w 3 0) (get_or o 3 0) q
xor_each w o (suc (suc (suc (suc j)))) q l h = absurd (over_four j l)

-- ---- a map by its words: the digits of the stretch alone, and those without it
module _ (w v : List ℕ) (h : Words w) (hv : Words v) (s k n : ℕ) (is : n ≡ min k 256) where
  pub only_words : ((j q : ℕ) → j < 4 → q < 64 → bit (get_or v j 0) q ≡ min (bit (get_or w j 0) q) (pick (ltb ((64 * j + q + (256 - s % 256)) % 256) n) 1 0))
      → value_of_list v ≡ only s k (value_of_list w)
  only_words f = only_is s k (value_of_list w) (list_lt w h) (value_of_list v) (list_lt v hv) inside outside
    where
      -- the place i behind s, by its word
      at : (i : ℕ) → i < 256 → bit (value_of_list v) ((s + i) % 256) ≡ min (bit (value_of_list w) ((s + i) % 256)) (pick (ltb i n) 1 0)
      at i l =
          let p : (s + i) % 256 < 256 = omega arith in
          let a : (s + i) % 256 / 64 < 4 = omega arith in
          let b : (s + i) % 256 % 64 < 64 = omega arith in
          let e : (64 * ((s + i) % 256 / 64) + (s + i) % 256 % 64 + (256 - s % 256)) % 256 ≡ i = omega arith in
          list_bit v hv ((s + i) % 256) p ∙ f ((s + i) % 256 / 64) ((s + i) % 256 % 64) a b
          ∙ ap₂ (λ (x y : ℕ). min x (pick (ltb y n) 1 0)) (sym (list_bit w h ((s + i) % 256) p)) e

      inside : (i : ℕ) → i < 256 → i < k → bit (value_of_list v) ((s + i) % 256) ≡ bit (value_of_list w) ((s + i) % 256)
      inside i l b =
          let g : i < n = omega arith in
          at i l ∙ ap (λ (t : Bool). min (bit (value_of_list w) ((s + i) % 256)) (pick t 1 0)) (lt-ltb _ _ g) ∙ omega (arith, bit_lt (value_of_list w) ((s + i) % 256))

      outside : (i : ℕ) → i < 256 → k ≤ i → bit (value_of_list v) ((s + i) % 256) ≡ 0
      outside i l b =
          let g : n ≤ i = omega arith in
          at i l ∙ ap (λ (t : Bool). min (bit (value_of_list w) ((s + i) % 256)) (pick t 1 0)) (le-ltb _ _ g) ∙ omega arith

module _ (w o v : List ℕ) (h : Words w) (ho : Words o) (hv : Words v) (s k : ℕ) where
  pub cleared_words : value_of_list o ≡ only s k (value_of_list w)
      → ((j q : ℕ) → j < 4 → q < 64 → bit (get_or v j 0) q ≡ differ (bit (get_or w j 0) q) (bit (get_or o j 0) q))
      → value_of_list v ≡ without s k (value_of_list w)
  cleared_words e f = without_is s k (value_of_list w) (value_of_list v) (list_lt w h) (list_lt v hv) inside outside
    where
      at : (p : ℕ) → p < 256 → bit (value_of_list v) p ≡ differ (bit (value_of_list w) p) (bit (only s k (value_of_list w)) p)
      at p l =
          let a : p / 64 < 4 = omega arith in
          let b : p % 64 < 64 = omega arith in
          list_bit v hv p l ∙ f (p / 64) (p % 64) a b
          ∙ ap₂ differ (sym (list_bit w h p l)) (sym (list_bit o ho p l) ∙ ap (λ (x : ℕ). bit x p) e)

      alike : (x : ℕ) → differ x x ≡ 0
      alike zero = refl
      alike (suc x) = alike x

      none : (x : ℕ) → differ x 0 ≡ x
      none zero = refl
      none (suc x) = refl

      inside : (i : ℕ) → i < 256 → i < k → bit (value_of_list v) ((s + i) % 256) ≡ 0
      inside i l b =
          let p : (s + i) % 256 < 256 = omega arith in
          at ((s + i) % 256) p ∙ ap (differ (bit (value_of_list w) ((s + i) % 256))) (only_in s k (value_of_list w) (list_lt w h) i l b) ∙ alike (bit (value_of_list w) ((s + i) % 256))

      outside : (i : ℕ) → i < 256 → k ≤ i → bit (value_of_list v) ((s + i) % 256) ≡ bit (value_of_list w) ((s + i) % 256)
      outside i l b =
          let p : (s + i) % 256 < 256 = omega arith in
          at ((s + i) % 256) p ∙ ap (differ (bit (value_of_list w) ((s + i) % 256))) (only_out s k (value_of_list w) (list_lt w h) i l b) ∙ none (bit (value_of_list w) ((s + i) % 256))
