-- The state rules: the computed test is true exactly where the facts hold; and what a sound state
-- says of its map. Assumes nothing.
use mathlib.Core.Path.{◌≡◌, refl, sym, ap, ◌∙◌, subst}
use mathlib.Core.Bool.{true, false, ◌&&◌, not}
use Prim.Native.Nat.{ℕ, ◌+◌, ◌-◌, ◌/◌, ◌^◌, ◌≤◌, ◌<◌, min}
use native.Mathlib.Nat.{min-eq_left, div-eq_of_lt, lt_of_lt_of_le, min-le_left, min-le_right}
use native.Mathlib.Decide.{dec_le}
use native.Mathlib.Omega.{arith}
use borrow.Author.Tests.{eq-eqb, le-leb, lt-leb, lt-ltb, leb-true, ltb-true, eqb-true, not-true}
use lib.Count.{ones, ones-le}
use lib.Dec.{eqb, leb}
use lib.Pow.{pow_mono}
use Rattle.terms.specs.Cases.{clash}
use Rattle.tick_map.specs.Bits.{bit, is_set}
use Rattle.tick_map.proofs.Laws.{lt_of_shr}
use Rattle.tick_map.proofs.Digits.{bit_lt, bit_above, lt_of_clear}
use Rattle.ledger_spec.specs.State.{Asked, nothing, range, Book, largest, has, range_rules, map_rules, sound_of, RangeRules, StateRules}
use Rattle.ledger_spec.proofs.Tests.{false_of, both, zero_digit}

-- ---- what a state says of a number

pub has_below : (b : Book) (n : ℕ) → n ≤ b.floor → has b n ≡ true
unfolding has
has_below b n h = simp (le-leb _ _ h)

pub has_above : (b : Book) (n : ℕ) → b.floor < n → has b n ≡ is_set b.bits (n - b.floor - 1)
unfolding has
has_above b n h = simp (lt-leb _ _ h)

-- ---- a pending range

pub range_facts : (first last floor top : ℕ) → range_rules (range first last) floor top ≡ true → RangeRules first last floor top
unfolding range_rules
range_facts first last floor top e =
    let p = both (leb 1 first) _ e in
    let q = both (leb first (floor + 1)) _ p.1 in
    let r = both (leb first last) _ q.1 in
    let s = both (leb last top) _ r.1 in
    record {
      starts = leb-true _ _ p.0;
      starts_low = leb-true _ _ q.0;
      ends = leb-true _ _ r.0;
      ends_low = leb-true _ _ s.0;
      short = ltb-true _ _ s.1;
    }

pub range_test : (first last floor top : ℕ) → RangeRules first last floor top → range_rules (range first last) floor top ≡ true
unfolding range_rules
range_test first last floor top r =
    simp (le-leb _ _ r.starts, le-leb _ _ r.starts_low, le-leb _ _ r.ends, le-leb _ _ r.ends_low, lt-ltb _ _ r.short)

asked_facts : (p : Asked) (floor top : ℕ) → range_rules p floor top ≡ true → (first last : ℕ) → p ≡ range first last → RangeRules first last floor top
asked_facts p floor top e first last q = range_facts first last floor top (ap (λ (x : Asked). range_rules x floor top) (sym q) ∙ e)

asked_test : (p : Asked) (floor top : ℕ) → ((first last : ℕ) → p ≡ range first last → RangeRules first last floor top) → range_rules p floor top ≡ true
unfolding range_rules
asked_test nothing floor top f = refl
asked_test (range first last) floor top f = range_test first last floor top (f first last refl)

-- ---- the map

below_min : (x a b : ℕ) → x < 2 ^ a → x < 2 ^ b → x < 2 ^ min a b
below_min x a b p q = elim (dec_le a b) [
  | yes h ↦ subst (λ (k : ℕ). x < 2 ^ k) (sym (min-eq_left h)) p
  | no h ↦ subst (λ (k : ℕ). x < 2 ^ k) (omega arith) q
]

-- no number above the top is held, where no digit stands beyond the numbers up to it
pub none_beyond : (b : Book) → b.floor ≤ b.top → b.bits < 2 ^ (b.top - b.floor) → (n : ℕ) → b.top < n → has b n ≡ false
none_beyond b low h n above =
    let far : b.top - b.floor ≤ n - b.floor - 1 = omega arith in
    has_above b n (omega arith) ∙ ap (λ (d : ℕ). eqb d 1) (bit_above (b.top - b.floor) (n - b.floor - 1) h far)

-- and the other way round
pub bits_top : (b : Book) → StateRules b → b.bits < 2 ^ (b.top - b.floor)
bits_top b r = lt_of_clear b.bits 256 (b.top - b.floor) r.places clear
  where
    clear : (i : ℕ) → b.top - b.floor ≤ i → bit b.bits i ≡ 0
    clear i h =
        let above : b.top < b.floor + 1 + i = omega arith in
        let at : b.floor + 1 + i - b.floor - 1 ≡ i = omega arith in
        zero_digit (bit b.bits i) (bit_lt b.bits i)
        (sym (has_above b (b.floor + 1 + i) (omega arith) ∙ ap (is_set b.bits) at) ∙ r.none_above (b.floor + 1 + i) above)

-- ---- the whole

pub rules_facts : (b : Book) → sound_of b ≡ true → StateRules b
unfolding sound_of map_rules
rules_facts b e =
    let p = both (leb b.channel 9999) _ e in
    let q = both (leb b.floor b.top) _ p.1 in
    let r = both (leb b.top largest) _ q.1 in
    let s = both (not (is_set b.bits 0) && eqb (b.bits / 2 ^ min (b.top - b.floor) 256) 0) _ r.1 in
    let t = both (not (is_set b.bits 0)) _ s.0 in
    let small : b.bits < 2 ^ min (b.top - b.floor) 256 = lt_of_shr _ _ (eqb-true _ _ t.1) in
    record {
      channel_small = leb-true _ _ p.0;
      low = leb-true _ _ q.0;
      top_small = leb-true _ _ r.0;
      places = lt_of_lt_of_le small (pow_mono (min-le_right _ _));
      next_not_held = zero_digit _ (bit_lt b.bits 0) (not-true _ t.0);
      none_above = none_beyond b (leb-true _ _ q.0) (lt_of_lt_of_le small (pow_mono (min-le_left _ _)));
      range_right = asked_facts b.pending b.floor b.top s.1;
    }

map_test : (b : Book) → StateRules b → map_rules b.bits (b.top - b.floor) ≡ true
unfolding map_rules
map_test b r =
    let d : is_set b.bits 0 ≡ false = ap (λ (x : ℕ). eqb x 1) r.next_not_held in
    simp d (eq-eqb _ 0 (div-eq_of_lt (below_min _ _ _ (bits_top b r) r.places)))

pub rules_test : (b : Book) → StateRules b → sound_of b ≡ true
unfolding sound_of
rules_test b r =
    simp (le-leb _ _ r.channel_small, le-leb _ _ r.low, le-leb _ _ r.top_small, map_test b r) (asked_test b.pending b.floor b.top r.range_right)

-- a broken state fails the test
pub broken_test : (b : Book) → (StateRules b → ⊥) → sound_of b ≡ false
broken_test b n = false_of (sound_of b) (λ e. n (rules_facts b e))

-- a number not received lies above the floor
pub above_floor : (b : Book) (n : ℕ) → has b n ≡ false → b.floor < n
above_floor b n e = elim (dec_le n b.floor) [ yes h ↦ absurd (clash (has_below b n h) e) | no h ↦ omega arith ]

-- no more are held than lie between floor and top
pub held_fits : (b : Book) → StateRules b → ones b.bits ≤ b.top - b.floor
held_fits b r = ones-le (b.top - b.floor) b.bits (bits_top b r)
