-- What the index's bits say: the trailing zeros of its digits are the first free place, and the
-- first place with something missing counted round; and what a search among the names finds.
-- Assumes nothing.
use mathlib.Core.Path.{◌≡◌, sym, ap, subst, ◌∙◌}
use mathlib.Core.Bool.{Bool, true, false, ◌&&◌, not}
use mathlib.Core.List.{List}
use Prim.Native.Nat.{ℕ, ◌+◌, ◌-◌, ◌*◌, ◌/◌, ◌%◌, ◌^◌, ◌≤◌, ◌<◌, min}
use native.Mathlib.Nat.{mod-eq_of_lt, add-mod_left}
use native.Mathlib.Decide.{dec_lt}
use native.Mathlib.Omega.{arith}
use lib.Count.{count_trailing_zeros}
use lib.Dec.{eqb, leb}
use lib.ListN.{get_or}
use borrow.Author.Tests.{le-leb, ltb-true}
use Rattle.tick_map.specs.Bits.{bit, is_set, run}
use Rattle.tick_map.proofs.Digits.{bit_shr, bit_above, run_passed, run_stopped, trailing_passed, trailing_stopped}
use Rattle.tick_map.proofs.Laws.{trailing_not, bit_low, bit_high, lt_of_shr}
use Rattle.ledger_spec.proofs.Tests.{both, and_false}
use Rattle.channels_spec.proofs.Least.{least_scan, least_all, least_ext}
use Rattle.channels.specs.declared.Index.{Index}
use Rattle.channels.specs.declared.ChannelCall.{ChannelCall}
use Rattle.channels.specs.declared.Turn.{Turn}
use Rattle.channels.specs.Index.{open_for, place_in, place_from, free_in, steps_in, open_at}
use Rattle.channels.specs.Turn.{turn_of, once_of, turned_at, turned_of}

-- the lowest digit that is not set
pub free_is : (used : ℕ) → used < 2 ^ 64 → min (count_trailing_zeros 64 ((2 ^ 64 - 1) - used)) 32 ≡ free_in used
unfolding free_in
free_is used l =
    ap (λ (m : ℕ). min m 32) (trailing_not 64 used l)
    ∙ least_scan (λ i. not (is_set used i)) 32 (run 64 used) (λ j h g. ap (λ (d : ℕ). not (eqb d 1)) (run_passed 64 used j h)) (λ h. ap (λ (d : ℕ). not (eqb d 1)) (run_stopped 64 used (omega arith)))

-- the digits of a number that stands twice
twice_bit : (n j : ℕ) → n < 2 ^ 32 → j < 64 → bit (n * 2 ^ 32 + n) j ≡ bit n (j % 32)
twice_bit n j l h = elim (dec_lt j 32) [
  | yes g ↦ bit_low n n 32 j g ∙ ap (bit n) (sym (mod-eq_of_lt g))
  | no g ↦ (
      let e : j ≡ 32 + (j - 32) = omega arith in
      let s : j - 32 < 32 = omega arith in
      ap (bit (n * 2 ^ 32 + n)) e ∙ bit_high n 32 (j - 32) l ∙ ap (bit n) (sym (ap (◌% 32) e ∙ add-mod_left 32 (j - 32) ∙ mod-eq_of_lt s)))
]

-- the first that is set, counted round from the place after the last one asked
pub steps_is : (lacking last : ℕ) → lacking < 2 ^ 32 → last < 32 → min (count_trailing_zeros 64 ((lacking * 2 ^ 32 + lacking) / 2 ^ (last + 1))) 32 ≡ steps_in lacking last
unfolding steps_in
steps_is lacking last l h =
    least_scan (λ k. is_set lacking ((last + 1 + k) % 32)) 32 (count_trailing_zeros 64 turned) (λ j g f. ap (λ (d : ℕ). eqb d 1) (sym (at j f) ∙ trailing_passed 64 turned j g))
    (λ g. ap (λ (d : ℕ). eqb d 1) (sym (at _ g) ∙ trailing_stopped 64 turned (omega arith)))
  where
    turned : ℕ
    turned = (lacking * 2 ^ 32 + lacking) / 2 ^ (last + 1)

    at : (k : ℕ) → k < 32 → bit turned k ≡ bit lacking ((last + 1 + k) % 32)
    at k g = bit_shr (lacking * 2 ^ 32 + lacking) (last + 1) k ∙ twice_bit lacking (last + 1 + k) l (omega arith)

-- ---- a search among the names

-- from the first place on
pub place_first : (names : List ℕ) (used channel : ℕ) → place_from names used channel 0 ≡ place_in names used channel
unfolding place_from place_in
place_first names used channel =
    least_ext (λ i. leb 0 i && open_for names used channel i) (open_for names used channel) 32 (λ i l. ap (λ (t : Bool). t && open_for names used channel i) (le-leb 0 i (omega arith)))

-- where no higher place is open
pub place_none : (names : List ℕ) (used channel from i : ℕ) → ((j : ℕ) → j < i → leb from j && open_for names used channel j ≡ false) → used / 2 ^ i ≡ 0 → place_from names used channel from ≡ 32
unfolding place_from
place_none names used channel from i below above =
    least_all (λ j. leb from j && open_for names used channel j) 32 (λ j l. elim (dec_lt j i) [
      | yes g ↦ below j g
      | no g ↦ (
          let clear : is_set used j ≡ false = ap (λ (d : ℕ). eqb d 1) (bit_above i j (lt_of_shr used i above) (omega arith)) in
          ap (λ (t : Bool). leb from j && (eqb (get_or names j 0) channel && t)) clear ∙ ap (λ (t : Bool). leb from j && t) (and_false (eqb (get_or names j 0) channel)) ∙ and_false (leb from j))
    ])

-- an open place is one of the 32
pub open_below : (used i : ℕ) → open_at used i ≡ true → i < 32
open_below used i e = ltb-true i 32 (both _ _ e).0

-- ---- a turn

pub turned_is : (x : Index) (names : List ℕ) (call : ChannelCall) (r : Turn) (at : ℕ) (once : Bool) → r ≡ turned_at names at once → at ≡ turn_of x names call → once ≡ once_of x names call → at ≤ 32
    → (r ≡ turned_of x names call) × (r.at ≤ 32)
turned_is x names call r at once p e f l = (p ∙ (λ i. turned_at names (e i) (f i)), subst (λ (t : Turn). t.at ≤ 32) (sym p) l)
