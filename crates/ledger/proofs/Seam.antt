-- Where the code's types meet the book: a ledger that code holds is the ledger of its book, and an
-- answer with its number is the call's answer. Assumes nothing.
use mathlib.Core.Path.{◌≡◌, refl, sym, ap, ap₂, ◌∙◌, subst}
use mathlib.Core.Bool.{Bool, true, false, ◌&&◌, not}
use mathlib.Core.Logic.{⊎_elim}
use Prim.Native.Nat.{ℕ, ◌+◌, ◌-◌, ◌/◌, ◌%◌, ◌^◌, ◌≤◌, ◌<◌, min, max}
use native.Mathlib.Nat.{add-zero, mod-le, lt_of_le_of_lt, mod-lt, mod-eq_of_lt, div-eq_of_lt, div-one, zero-div}
use native.Mathlib.Decide.{dec_lt, dec_le}
use native.Mathlib.Omega.{arith}
use borrow.Author.Tests.{eq-eqb, ne_eqb, eqb-true, eqb-false, lt-ltb, le-ltb, le-leb, lt-leb}
use lib.Bits.{bit_or, or_lt}
use lib.Count.{ones}
use lib.Dec.{eqb, ltb}
use lib.Pow.{pow-lt, pow_pos, shr_le, ones_sub-lt}
use Rattle.terms.specs.Paper.{answer, pick}
use Rattle.terms.specs.Cases.{two, less, same, clash}
use Rattle.terms.specs.Counters.{tick_of}
use Rattle.terms.specs.Refusals.{number_of, refusal_not_0}
use Rattle.terms.specs.declared.TickNumber.{TickNumber}
use Rattle.terms.specs.declared.ChannelNumber.{ChannelNumber}
use Rattle.terms.specs.declared.Refusal.{Refusal}
use Rattle.terms.specs.declared.Refusal.TheVariants.{Far}
use Rattle.terms.proofs.Refusals.{refusal_one}
use mathlib.Core.List.{[], ◌∷◌}
use Rattle.tick_map.specs.Bits.{Words, bit, is_set, bits_in, map_of, run}
use Rattle.tick_map.specs.Ring.{rotated, laid, without, only, lacking}
use Rattle.tick_map.specs.declared.Map.{Map}
use Rattle.tick_map.proofs.Laws.{run_le, lt_of_shr}
use Rattle.tick_map.proofs.Digits.{bit_lt, bit_none, bit_above, bit_ext, bit_shr, bit_set_same, bit_set_other, lt_of_clear, run_passed, run_stopped}
use Rattle.tick_map.proofs.Words.{map_of_lem, map_at, value_of_lem, list_lt}
use Rattle.tick_map.proofs.Ring.{bit_mod, rotated_lt, rotated_bit, rotated_ones}
use Rattle.tick_map.proofs.Rotated.{rotated_none, rotated_ext, rotated_zero, rotated_set, rotated_laid, laid_rotated}
use Rattle.tick_map.proofs.Stretch.{without_lt, without_in, without_out, without_is, without_down, only_lt, only_read}
use Rattle.ledger_spec.specs.State.{Asked, nothing, range, Book, largest, has, map_rules, sound_of, StateRules}
use Rattle.ledger.specs.State.{asked_of, pending_of, book_of, ledger_of, topped, next_by, next_in, laid_from}
use Rattle.ledger_spec.specs.Calls.{Call, Tick, Announce, Request, Reply, Question, Ask, Missing, Held, Between, Renew, tick_number, reply_status, is_pending, starts_at, elsewhere, own_number, checked_of, marked, passes, taken, covered, leaps, gave_up, handed, replied, between_count, missing_count, held_count, waiting, asked, reach, fresh, done, raised, offered, values_of, beside, number_to, answer_to, next_of}
use Rattle.ledger.specs.declared.Ledger.{Ledger}
use Rattle.ledger.specs.declared.Range.{Range}
use Rattle.std.specs.Prelude.{Option, Some, None}
use Rattle.ledger_spec.proofs.Masks.{bit_not}
use Rattle.ledger_spec.proofs.Steps.{reach_near, covered_lt, covered_in, covered_out, leaps_cover, leaps_short}
use Rattle.ledger_spec.proofs.Rules.{has_below, rules_facts, rules_test, held_fits}
use Rattle.ledger_spec.proofs.Numbers.{checked_facts, tick_done}
use Rattle.ledger_spec.proofs.Done.{given_0}
use Rattle.ledger_spec.proofs.Tests.{and_false, and_true, pick_cases}

-- ---- a ledger and its book

pub pending_of_lem : (p : Option Range) → pending_of (asked_of p) ≡ p
pending_of_lem None = refl
pending_of_lem (Some r) = refl

pub asked_of_lem : (p : Asked) → asked_of (pending_of p) ≡ p
asked_of_lem nothing = refl
asked_of_lem (range first last) = refl

-- what is read round from a place and laid back is the map again
pub map_kept : (s : ℕ) (m : Map) → Words m.words → m ≡ map_of (laid s (rotated s (bits_in m)))
map_kept s m w = map_of_lem m w ∙ ap map_of (sym (laid_rotated s (bits_in m) (list_lt m.words w)))

pub ledger_of_lem : (l : Ledger) → Words l.map.words → ledger_of (book_of l) ≡ l
unfolding ledger_of book_of
ledger_of_lem l w =
    ap₂ (λ (m : Map) (p : Option Range). record { channel = l.channel; floor = l.floor; top = l.top; map = m; pending = p }) (sym (map_kept (l.floor.0 + 1) l.map w)) (pending_of_lem l.pending)

-- the number of a book's map, laid as the code keeps it
pub laid_of : (s m : ℕ) → m < 2 ^ 256 → bits_in (map_of (laid s m)) ≡ laid s m
laid_of s m h = value_of_lem (laid s m) (rotated_lt (256 - s % 256) m h)

pub book_of_lem : (b : Book) → b.bits < 2 ^ 256 → book_of (ledger_of b) ≡ b
unfolding ledger_of book_of
book_of_lem b h =
    ap₂ (λ (v : ℕ) (p : Asked). record { channel = b.channel; floor = b.floor; top = b.top; bits = v; pending = p })
    (ap (rotated (b.floor + 1)) (laid_of (b.floor + 1) b.bits h) ∙ rotated_laid (b.floor + 1) b.bits h) (asked_of_lem b.pending)

-- the count of the map is that of the book
pub held_of : (l : Ledger) → Words l.map.words → ones (bits_in l.map) ≡ ones (book_of l).bits
unfolding book_of
held_of l w = sym (rotated_ones (l.floor.0 + 1) (bits_in l.map) (list_lt l.map.words w))

-- a number within 256 of the floor stands at its remainder by 256
pub place_bit : (l : Ledger) → Words l.map.words → (n : ℕ) → l.floor.0 < n → n ≤ l.floor.0 + 256
    → bit (book_of l).bits (n - l.floor.0 - 1) ≡ bit (bits_in l.map) (n % 256)
unfolding book_of
place_bit l w n lo hi =
    let e : (l.floor.0 + 1 + (n - l.floor.0 - 1)) % 256 ≡ n % 256 = omega arith in
    rotated_bit (l.floor.0 + 1) (bits_in l.map) (list_lt l.map.words w) (n - l.floor.0 - 1) (omega arith) ∙ ap (bit (bits_in l.map)) e

-- and beyond there is no place
pub place_none : (l : Ledger) → Words l.map.words → (n : ℕ) → l.floor.0 + 256 < n → bit (book_of l).bits (n - l.floor.0 - 1) ≡ 0
unfolding book_of
place_none l w n h = bit_above 256 (n - l.floor.0 - 1) (rotated_lt (l.floor.0 + 1) (bits_in l.map) (list_lt l.map.words w)) (omega arith)

-- ---- a stretch of the map, from `off` places behind floor + 1 on

module _ (l : Ledger) (w : Words l.map.words) (off width : ℕ) (near : off < 256) where
  abbrev number : ℕ
  number = bits_in l.map

  small_map : bits_in l.map < 2 ^ 256
  small_map = list_lt l.map.words w

  book_small : (book_of l).bits < 2 ^ 256
  unfolding book_of
  book_small = rotated_lt (l.floor.0 + 1) number small_map

  -- the code's count goes no further than floor + 256
  abbrev reached : ℕ
  reached = min width (256 - off)

  part_digit : (i : ℕ) → i < 256 - off → bit (rotated (l.floor.0 + 1 + off) (bits_in l.map)) i ≡ bit (book_of l).bits (off + i)
  unfolding book_of
  part_digit i h =
      let e : (l.floor.0 + 1 + off + i) % 256 ≡ (l.floor.0 + 1 + (off + i)) % 256 = omega arith in
      rotated_bit (l.floor.0 + 1 + off) number small_map i (omega arith) ∙ ap (bit number) e ∙ sym (rotated_bit (l.floor.0 + 1) number small_map (off + i) (omega arith))

  off_is : min 256 off ≡ off
  off_is = omega arith

  behind : (i : ℕ) → i < min 256 width → bit ((book_of l).bits / 2 ^ min 256 off % 2 ^ min 256 width) i ≡ bit (book_of l).bits (off + i)
  behind i h = bit_mod ((book_of l).bits / 2 ^ min 256 off) (min 256 width) i h ∙ bit_shr (book_of l).bits (min 256 off) i ∙ ap (λ (x : ℕ). bit (book_of l).bits (x + i)) off_is

  none_behind : (i : ℕ) → reached ≤ i → bit ((book_of l).bits / 2 ^ min 256 off % 2 ^ min 256 width) i ≡ 0
  none_behind i h = elim (dec_lt i (min 256 width)) [
    | yes p ↦ behind i p ∙ bit_above 256 (off + i) book_small (omega arith)
    | no p ↦ bit_above (min 256 width) i (mod-lt _ (pow_pos (min 256 width))) (omega arith)
  ]

  pub stretch_of : rotated (l.floor.0 + 1 + off) (bits_in l.map) % 2 ^ min width (256 - off) ≡ (book_of l).bits / 2 ^ min 256 off % 2 ^ min 256 width
  stretch_of =
      bit_ext 256 _ _ (lt_of_le_of_lt (mod-le _ (2 ^ reached)) (rotated_lt (l.floor.0 + 1 + off) number small_map))
      (lt_of_le_of_lt (mod-le _ (2 ^ min 256 width)) (lt_of_le_of_lt (shr_le (book_of l).bits (min 256 off)) book_small))
      (λ i q. elim (dec_lt i reached) [
        | yes p ↦ bit_mod (rotated (l.floor.0 + 1 + off) number) reached i p ∙ part_digit i (omega arith) ∙ sym (behind i (omega arith))
        | no p ↦ bit_above reached i (mod-lt _ (pow_pos reached)) (omega arith) ∙ sym (none_behind i (omega arith))
      ])

-- ---- how many from one number to another are missing

less_none : (x n : ℕ) → n ≡ 0 → x ≡ x - n
less_none x n e = omega (arith, e)

module _ (l : Ledger) (w : Words l.map.words) (from to low high : ℕ) (low-is : low ≡ max from (l.floor.0 + 1)) (high_is : high ≡ min to l.top.0) where
  -- the definition, by the two ends
  abbrev counted : ℕ → ℕ → ℕ
  counted x y = y + 1 - x - ones ((book_of l).bits / 2 ^ min 256 (x - l.floor.0 - 1) % 2 ^ min 256 (y + 1 - x))

  by_ends : counted low high ≡ between_count (book_of l) from to
  unfolding between_count book_of
  by_ends = ap₂ counted low-is high_is

  -- no number of the span lies above the floor and not above the top
  pub between_none : high < low → 0 ≡ between_count (book_of l) from to
  between_none h = let e : high + 1 - low ≡ 0 = omega arith in let u : counted low high ≡ 0 = omega (arith, e) in sym u ∙ by_ends

  none_set : ones 0 ≡ 0
  unfolding ones
  none_set = refl

  -- nor is any held, from floor + 257 on
  pub between_far : 256 ≤ low - l.floor.0 - 1 → high + 1 - low ≡ between_count (book_of l) from to
  unfolding book_of
  between_far h =
      let o : min 256 (low - l.floor.0 - 1) ≡ 256 = omega (arith, h) in
      let z : (book_of l).bits / 2 ^ min 256 (low - l.floor.0 - 1) % 2 ^ min 256 (high + 1 - low) ≡ 0 =
      ap (λ (x : ℕ). (book_of l).bits / 2 ^ x % 2 ^ min 256 (high + 1 - low)) o
      ∙ ap (λ (x : ℕ). x % 2 ^ min 256 (high + 1 - low)) (div-eq_of_lt (rotated_lt (l.floor.0 + 1) (bits_in l.map) (list_lt l.map.words w))) ∙ mod-eq_of_lt (pow_pos (min 256 (high + 1 - low))) in
      let n : high + 1 - low ≡ high + 1 - low - ones 0 = less_none (high + 1 - low) (ones 0) none_set in
      n ∙ sym (ap (λ (x : ℕ). high + 1 - low - ones x) z) ∙ by_ends

  -- else the code counts a stretch of the map
  above_floor : l.floor.0 + 1 ≤ low
  above_floor = omega (arith, low-is)

  pub between_near : low - l.floor.0 - 1 < 256 → high + 1 - low - ones (rotated low (bits_in l.map) % 2 ^ min (high + 1 - low) (256 - (low - l.floor.0 - 1))) ≡ between_count (book_of l) from to
  between_near h =
      let at : low ≡ l.floor.0 + 1 + (low - l.floor.0 - 1) = omega (arith, above_floor) in
      ap (λ (s : ℕ). high + 1 - low - ones (rotated s (bits_in l.map) % 2 ^ min (high + 1 - low) (256 - (low - l.floor.0 - 1)))) at
      ∙ ap (λ (v : ℕ). high + 1 - low - ones v) (stretch_of l w (low - l.floor.0 - 1) (high + 1 - low) h) ∙ by_ends

-- ---- the state rules of a map, by what the code asks it

-- a digit that is not set
clear_bit : (x : ℕ) → x < 2 → eqb x 1 ≡ false → x ≡ 0
clear_bit x l e = ⊎_elim (λ (q : x < 1). omega arith) (λ (q : 1 ≤ x). absurd (eqb-false x 1 e (omega arith))) (less x 1)

module _ (s known m : ℕ) (h : m < 2 ^ 256) where
  pub rules_empty : m ≡ 0 → true ≡ map_rules (rotated s m) known
  unfolding map_rules
  rules_empty e = rw (e, rotated_zero s, zero-div (2 ^ min known 256))

  -- held, and nothing known
  pub rules_none : (m ≡ 0 → ⊥) → known ≡ 0 → false ≡ map_rules (rotated s m) known
  unfolding map_rules
  rules_none n e =
      let k : min known 256 ≡ 0 = omega arith in
      let z : eqb (rotated s m / 2 ^ min known 256) 0 ≡ false =
      ne_eqb (rotated s m / 2 ^ min known 256) 0 (λ g. n (rotated_none s m h (sym (ap (λ (x : ℕ). rotated s m / 2 ^ x) k ∙ div-one (rotated s m)) ∙ g))) in
      sym (ap (λ (x : Bool). not (is_set (rotated s m) 0) && x) z ∙ and_false (not (is_set (rotated s m) 0)))

  pub rules_all : 256 ≤ known → not (is_set m (s % 256)) ≡ map_rules (rotated s m) known
  unfolding map_rules
  rules_all l =
      let k : min known 256 ≡ 256 = omega arith in
      let z : eqb (rotated s m / 2 ^ min known 256) 0 ≡ true = eq-eqb _ 0 (ap (λ (x : ℕ). rotated s m / 2 ^ x) k ∙ div-eq_of_lt (rotated_lt s m h)) in
      let e : is_set m (s % 256) ≡ is_set (rotated s m) 0 =
      sym (ap (λ (x : ℕ). eqb x 1) (rotated_bit s m h 0 (omega arith) ∙ ap (λ (x : ℕ). bit m (x % 256)) (add-zero s))) in
      ap not e ∙ sym (ap (λ (x : Bool). not (is_set (rotated s m) 0) && x) z ∙ and_true (not (is_set (rotated s m) 0)))

  -- what is left without the known places after the first: that first place, and all beyond
  rest_bit : known < 256 → (i : ℕ) → 0 < known → i < 256 → (0 < i → known ≤ i) → bit (without (s % 256 + 1) (known - 1) m) ((s + i) % 256) ≡ bit (rotated s m) i
  rest_bit few i some l far =
      let j = (i + 255) % 256 in
      let lj : j < 256 = omega arith in
      let out : known - 1 ≤ j = beyond in
      let e : (s % 256 + 1 + j) % 256 ≡ (s + i) % 256 = omega arith in
      ap (bit (without (s % 256 + 1) (known - 1) m)) (sym e) ∙ without_out (s % 256 + 1) (known - 1) m h j lj out ∙ ap (bit m) e ∙ sym (rotated_bit s m h i l)
    where
      beyond : known - 1 ≤ (i + 255) % 256
      beyond = elim (dec_lt 0 i) [ yes p ↦ omega (arith, far p) | no p ↦ omega arith ]

  pub rules_few : 0 < known → known < 256 → eqb (without (s % 256 + 1) (known - 1) m) 0 ≡ map_rules (rotated s m) known
  unfolding map_rules
  rules_few some few = ⊎_elim none held (same (without (s % 256 + 1) (known - 1) m) 0)
    where
      k : min known 256 ≡ known
      k = omega arith

      none : without (s % 256 + 1) (known - 1) m ≡ 0 → eqb (without (s % 256 + 1) (known - 1) m) 0 ≡ not (is_set (rotated s m) 0) && eqb (rotated s m / 2 ^ min known 256) 0
      none e =
          let clear : (i : ℕ) → i < 256 → (0 < i → known ≤ i) → bit (rotated s m) i ≡ 0 = λ i l f. sym (rest_bit few i some l f) ∙ ap (λ (x : ℕ). bit x ((s + i) % 256)) e ∙ bit_none ((s + i) % 256) in
          let first : is_set (rotated s m) 0 ≡ false = ap (λ (x : ℕ). eqb x 1) (clear 0 (omega arith) (λ q. absurd (never q))) in
          let lt : rotated s m < 2 ^ known = lt_of_clear (rotated s m) 256 known (rotated_lt s m h) (λ i q. elim (dec_lt i 256) [ yes l ↦ clear i l (λ z. q) | no l ↦ bit_above 256 i (rotated_lt s m h) (omega arith) ]) in
          let up : eqb (rotated s m / 2 ^ min known 256) 0 ≡ true = eq-eqb _ 0 (ap (λ (x : ℕ). rotated s m / 2 ^ x) k ∙ div-eq_of_lt lt) in
          eq-eqb _ 0 e ∙ sym (ap₂ (λ (x y : Bool). not x && y) first up)
        where
          never : 0 < 0 → ⊥
          never q = omega arith

      held : (without (s % 256 + 1) (known - 1) m ≡ 0 → ⊥) → eqb (without (s % 256 + 1) (known - 1) m) 0 ≡ not (is_set (rotated s m) 0) && eqb (rotated s m / 2 ^ min known 256) 0
      held n =
          ne_eqb _ 0 n
          ∙ sym (⊎_elim (λ (t : is_set (rotated s m) 0 ≡ true). ap (λ (x : Bool). not x && eqb (rotated s m / 2 ^ min known 256) 0) t)
          (λ (f : is_set (rotated s m) 0 ≡ false). ap (λ (x : Bool). not x && eqb (rotated s m / 2 ^ min known 256) 0) f ∙ ne_eqb _ 0 (λ z. n (empty f z)))
          (two (is_set (rotated s m) 0)))
        where
          empty : is_set (rotated s m) 0 ≡ false → rotated s m / 2 ^ min known 256 ≡ 0 → without (s % 256 + 1) (known - 1) m ≡ 0
          empty f z =
              rotated_ext (s % 256 + 1) _ 0 (without_lt (s % 256 + 1) (known - 1) m h) (pow_pos 256)
              (λ i l. elim (dec_lt i (known - 1)) [
                | yes b ↦ without_in (s % 256 + 1) (known - 1) m h i l b ∙ sym (bit_none ((s % 256 + 1 + i) % 256))
                | no b ↦ without_out (s % 256 + 1) (known - 1) m h i l (omega arith) ∙ beyond i l (omega arith) ∙ sym (bit_none ((s % 256 + 1 + i) % 256))
              ])
            where
              lt : rotated s m < 2 ^ known
              lt = lt_of_shr (rotated s m) known (ap (λ (x : ℕ). rotated s m / 2 ^ x) (sym k) ∙ z)

              first : bit (rotated s m) 0 ≡ 0
              first = clear_bit (bit (rotated s m) 0) (bit_lt (rotated s m) 0) f

              beyond : (i : ℕ) → i < 256 → known - 1 ≤ i → bit m ((s % 256 + 1 + i) % 256) ≡ 0
              beyond i l b =
                  let j = (i + 1) % 256 in
                  let e : (s % 256 + 1 + i) % 256 ≡ (s + (i + 1) % 256) % 256 = omega arith in
                  let lj : (i + 1) % 256 < 256 = omega arith in
                  ap (bit m) e ∙ sym (rotated_bit s m h ((i + 1) % 256) lj)
                  ∙ elim (dec_lt i 255) [
                    | yes y ↦ bit_above known ((i + 1) % 256) lt (omega arith)
                    | no y ↦ (let g : (i + 1) % 256 ≡ 0 = omega arith in ap (bit (rotated s m)) g ∙ first)
                  ]

-- ---- the states that the code makes

pub fresh_of : (c : ChannelNumber) (f t : TickNumber) (m : Map) → f ≡ tick_of 0 → t ≡ tick_of 0 → m ≡ map_of 0
    → ◌≡◌ {A = Ledger} (record { channel = c; floor = f; top = t; map = m; pending = None }) (ledger_of (fresh c.0))
unfolding ledger_of fresh
fresh_of c f t m p q r = cc (r ∙ ap map_of (sym (rotated_zero 255)))

module _ (l : Ledger) (w : Words l.map.words) where
  pub raised_of : (n : ℕ) → topped l (max l.top.0 n) ≡ ledger_of (raised (book_of l) n)
  unfolding ledger_of book_of raised
  raised_of n = cc (map_kept (l.floor.0 + 1) l.map w, pending_of_lem l.pending)

  pub waiting_of : (p : Option Range)
      → ◌≡◌ {A = Ledger} (record { channel = l.channel; floor = l.floor; top = l.top; map = l.map; pending = p }) (ledger_of (waiting (book_of l) (asked_of p)))
  unfolding ledger_of book_of waiting
  waiting_of p = cc (map_kept (l.floor.0 + 1) l.map w, pending_of_lem p)

  -- the code's map with the tick's place, read round
  pub marked_of : (n : ℕ) (m : Map) → l.floor.0 < n → n ≤ l.floor.0 + 256 → m ≡ map_of (bit_or (bits_in l.map) (2 ^ (n % 256)) % 2 ^ 256)
      → (bits_in m < 2 ^ 256) × (rotated (l.floor.0 + 1) (bits_in m) ≡ marked (book_of l) n)
  unfolding book_of
  marked_of n m lo hi e =
      let s = l.floor.0 + 1 in
      let h : n - l.floor.0 - 1 < 256 = omega arith in
      let p : n % 256 < 256 = omega arith in
      let at : n % 256 ≡ (l.floor.0 + 1 + (n - l.floor.0 - 1)) % 256 = omega arith in
      let v = bit_or (bits_in l.map) (2 ^ (n % 256)) in
      let lt : v < 2 ^ 256 = or_lt 256 _ _ (list_lt l.map.words w) (pow-lt p) in
      let is : bits_in m ≡ v = ap bits_in (e ∙ ap map_of (mod-eq_of_lt lt)) ∙ value_of_lem v lt in (
        subst (λ (x : ℕ). x < 2 ^ 256) (sym is) lt,
        ap (rotated s) (is ∙ ap (λ (x : ℕ). bit_or (bits_in l.map) (2 ^ x)) at) ∙ rotated_set s (bits_in l.map) (n - l.floor.0 - 1) (list_lt l.map.words w) h,
      )

  -- without the places that the floor passes it reads, from the next one on, as the book's map
  -- shifted down
  pub taken_of : (n k : ℕ) (f t : TickNumber) (m d : Map) → bits_in m < 2 ^ 256 → rotated (l.floor.0 + 1) (bits_in m) ≡ marked (book_of l) n
      → k ≡ run 256 (rotated (l.floor.0 + 1) (bits_in m)) → f ≡ tick_of (l.floor.0 + k) → t ≡ tick_of (max l.top.0 n)
      → d ≡ map_of (without (l.floor.0 + 1) k (bits_in m))
      → ◌≡◌ {A = Ledger} (record { channel = l.channel; floor = f; top = t; map = d; pending = l.pending }) (ledger_of (taken (book_of l) n))
  unfolding ledger_of book_of taken passes
  taken_of n k f t m d lt p q x y z =
      let le : k ≤ 256 = omega (arith, q, run_le 256 (rotated (l.floor.0 + 1) (bits_in m))) in
      let at : l.floor.0 + 1 + k ≡ l.floor.0 + k + 1 = omega arith in
      let e : d ≡ map_of (laid (l.floor.0 + k + 1) (rotated (l.floor.0 + 1) (bits_in m) / 2 ^ k)) =
      z ∙ ap map_of (without_down (l.floor.0 + 1) k (bits_in m) lt le ∙ ap (λ (s : ℕ). laid s (rotated (l.floor.0 + 1) (bits_in m) / 2 ^ k)) at) in
      cc (pending_of_lem l.pending)

-- ---- a reply: the floor passes the w numbers above it, and the run of held places behind them

-- the digits that are set, and the one that is not, fix a run
run_is : (k m z : ℕ) → z ≤ k → ((i : ℕ) → i < z → bit m i ≡ 1) → (z < k → bit m z ≡ 0) → z ≡ run k m
run_is k m z h passed stopped =
    elim (dec_lt z (run k m)) [
      | yes l ↦ absurd (early l)
      | no g ↦ elim (dec_lt (run k m) z) [ yes l ↦ absurd (late l) | no f ↦ omega arith ]
    ]
  where
    early : z < run k m → ⊥
    early l = let b : z < k = omega (arith, run_le k m) in omega (arith, stopped b, run_passed k m z l)

    late : run k m < z → ⊥
    late l = let b : run k m < k = omega arith in omega (arith, passed (run k m) l, run_stopped k m b)

-- ---- a tick that the floor does not pass, and one that it passes alone

module _ (l : Ledger) (w : Words l.map.words) (r : StateRules (book_of l)) where
  small_of : bits_in l.map < 2 ^ 256
  small_of = list_lt l.map.words w

  -- floor + 1 is not held
  next_clear : bit (rotated (l.floor.0 + 1) (bits_in l.map)) 0 ≡ 0
  unfolding book_of
  next_clear = r.next_not_held

  pub held_back_of : (n : ℕ) (t : TickNumber) (m : Map) → l.floor.0 + 1 < n → n ≤ l.floor.0 + 256 → m ≡ map_of (bit_or (bits_in l.map) (2 ^ (n % 256)) % 2 ^ 256)
      → t ≡ tick_of (max l.top.0 n)
      → (0 ≡ passes (book_of l) n) × (◌≡◌ {A = Ledger} (record { channel = l.channel; floor = l.floor; top = t; map = m; pending = l.pending }) (ledger_of (taken (book_of l) n)))
  unfolding passes book_of
  held_back_of n t m lo hi e y =
      let p = marked_of l w n m (omega arith) hi e in
      let far : 0 ≡ n - l.floor.0 - 1 → ⊥ = λ q. omega arith in
      let stop : bit (marked (book_of l) n) 0 ≡ 0 = bit_set_other (book_of l).bits (n - l.floor.0 - 1) 0 far ∙ next_clear in
      let z : 0 ≡ run 256 (marked (book_of l) n) = run_is 256 (marked (book_of l) n) 0 (omega arith) (λ i q. absurd (never i q)) (λ q. stop) in
      let lt : bit_or (bits_in l.map) (2 ^ (n % 256)) % 2 ^ 256 < 2 ^ 256 = mod-lt _ (pow_pos 256) in
      let is : m ≡ map_of (bits_in m) = e ∙ ap map_of (sym (ap bits_in e ∙ value_of_lem _ lt)) in
      let d : bits_in m ≡ without (l.floor.0 + 1) 0 (bits_in m) = without_is (l.floor.0 + 1) 0 (bits_in m) (bits_in m) p.0 p.0 (λ i a b. absurd (never i b)) (λ i a b. refl) in
      (z, taken_of l w n 0 l.floor t m m p.0 p.1 (z ∙ ap (run 256) (sym p.1)) (ap tick_of (sym (add-zero l.floor.0))) y (is ∙ ap map_of d))
    where
      never : (i : ℕ) → i < 0 → ⊥
      never i q = omega arith

  pub passed_one_of : (n : ℕ) (f t : TickNumber) → n ≡ l.floor.0 + 1 → is_set (bits_in l.map) ((n + 1) % 256) ≡ false → f ≡ tick_of n → t ≡ tick_of (max l.top.0 n)
      → (1 ≡ passes (book_of l) n) × (◌≡◌ {A = Ledger} (record { channel = l.channel; floor = f; top = t; map = l.map; pending = l.pending }) (ledger_of (taken (book_of l) n)))
  unfolding passes book_of
  passed_one_of n f t is next x y =
      let v = bit_or (bits_in l.map) (2 ^ (n % 256)) in
      let m = map_of (v % 2 ^ 256) in
      let p = marked_of l w n m (omega arith) (omega arith) refl in
      let pl : n % 256 < 256 = omega arith in
      let lt : v < 2 ^ 256 = or_lt 256 _ _ small_of (pow-lt pl) in
      let bits : bits_in m ≡ v = ap (λ (q : ℕ). bits_in (map_of q)) (mod-eq_of_lt lt) ∙ value_of_lem v lt in
      let none : n - l.floor.0 - 1 ≡ 0 = omega arith in
      let begins : bit (marked (book_of l) n) 0 ≡ 1 = ap (bit (marked (book_of l) n)) (sym none) ∙ bit_set_same (book_of l).bits (n - l.floor.0 - 1) in
      let other : 1 ≡ n - l.floor.0 - 1 → ⊥ = λ q. omega arith in
      let at : (l.floor.0 + 1 + 1) % 256 ≡ (n + 1) % 256 = omega arith in
      let ends : bit (marked (book_of l) n) 1 ≡ 0 =
      bit_set_other (book_of l).bits (n - l.floor.0 - 1) 1 other ∙ rotated_bit (l.floor.0 + 1) (bits_in l.map) small_of 1 (omega arith) ∙ ap (bit (bits_in l.map)) at
      ∙ clear_bit _ (bit_lt (bits_in l.map) ((n + 1) % 256)) next in
      let z : 1 ≡ run 256 (marked (book_of l) n) =
      run_is 256 (marked (book_of l) n) 1 (omega arith) (λ i q. let e : i ≡ 0 = omega arith in ap (bit (marked (book_of l) n)) e ∙ begins) (λ q. ends) in
      let clear : (i : ℕ) → i < 256 → i < 1 → bit (bits_in l.map) ((l.floor.0 + 1 + i) % 256) ≡ 0 =
      λ i a b. let e : i ≡ 0 = omega arith in ap (λ (q : ℕ). bit (bits_in l.map) ((l.floor.0 + 1 + q) % 256)) e ∙ sym (rotated_bit (l.floor.0 + 1) (bits_in l.map) small_of 0 (omega arith)) ∙ next_clear in
      let keep : (i : ℕ) → i < 256 → 1 ≤ i → bit (bits_in l.map) ((l.floor.0 + 1 + i) % 256) ≡ bit (bits_in m) ((l.floor.0 + 1 + i) % 256) =
      λ i a b. let ne : (l.floor.0 + 1 + i) % 256 ≡ n % 256 → ⊥ = λ q. omega arith in
      sym (ap (λ (q : ℕ). bit q ((l.floor.0 + 1 + i) % 256)) bits ∙ bit_set_other (bits_in l.map) (n % 256) ((l.floor.0 + 1 + i) % 256) ne) in
      let d : bits_in l.map ≡ without (l.floor.0 + 1) 1 (bits_in m) = without_is (l.floor.0 + 1) 1 (bits_in m) (bits_in l.map) p.0 small_of clear keep in
      (z, taken_of l w n 1 f t m l.map p.0 p.1 (z ∙ ap (run 256) (sym p.1)) (x ∙ ap tick_of is) y (map_at l.map _ w d))

-- ---- the code's checks, the outer ones before a call's own

pub checked_bad : (b : Book) (other : Bool) (own k : ℕ) → k ≡ checked_of b other 0 → eqb k 0 ≡ false → k ≡ checked_of b other own
unfolding checked_of
checked_bad b other own k e n =
    ⊎_elim (λ (t : sound_of b ≡ true). ⊎_elim
    (λ (o : other ≡ true). e ∙ rw (t, o) refl)
    (λ (o : other ≡ false). let z : k ≡ 0 = e ∙ rw (t, o) refl in absurd (eqb-false k 0 n z))
    (two other))
    (λ (f : sound_of b ≡ false). e ∙ rw f refl)
    (two (sound_of b))

apart18 : ◌≡◌ {A = ℕ} 0 18 → ⊥
apart18 z = omega arith

apart13 : ◌≡◌ {A = ℕ} 0 13 → ⊥
apart13 z = omega arith

pub checked_fine : (b : Book) (other : Bool) (own : ℕ) → 0 ≡ checked_of b other 0 → own ≡ checked_of b other own
unfolding checked_of
checked_fine b other own e =
    ⊎_elim (λ (t : sound_of b ≡ true). ⊎_elim
    (λ (o : other ≡ true). absurd (apart18 (e ∙ rw (t, o) refl)))
    (λ (o : other ≡ false). rw (t, o) refl)
    (two other))
    (λ (f : sound_of b ≡ false). absurd (apart13 (e ∙ rw f refl)))
    (two (sound_of b))

-- what the outer checks tell where they find nothing
pub outer_fine : (b : Book) (c : ℕ) → 0 ≡ checked_of b (not (eqb c b.channel)) 0 → (sound_of b ≡ true) × (c ≡ b.channel)
unfolding checked_of
outer_fine b c e =
    ⊎_elim (λ (t : sound_of b ≡ true). ⊎_elim
    (λ (o : eqb c b.channel ≡ true). (t, eqb-true c b.channel o))
    (λ (o : eqb c b.channel ≡ false). absurd (apart18 (e ∙ rw (t, o) refl)))
    (two (eqb c b.channel)))
    (λ (f : sound_of b ≡ false). absurd (apart13 (e ∙ rw f refl)))
    (two (sound_of b))

-- a number that is not had lies above the floor
not_had : (b : Book) (n : ℕ) → has b n ≡ false → b.floor < n
not_had b n e = ⊎_elim (λ (l : b.floor < n). l) (λ (g : n ≤ b.floor). absurd (clash (has_below b n g) e)) (less b.floor n)

-- where they find nothing, a tick has its own number
pub own_call : (l : Ledger) (channel m n k : ℕ) → m ≡ n → 0 ≡ checked_of (book_of l) (not (eqb channel (book_of l).channel)) 0 → k ≡ own_number (book_of l) (Tick 0 m)
    → k ≡ number_to (book_of l) (Tick channel n)
unfolding number_to own_number
own_call l channel m n k q e f = f ∙ ap (λ (x : ℕ). own_number (book_of l) (Tick 0 x)) q ∙ checked_fine (book_of l) (not (eqb channel (book_of l).channel)) _ e

-- the own number of a tick, by the code's tests: above the floor received is held, and nothing
-- beyond floor + 256 is
module _ (l : Ledger) (h : Words l.map.words) (n : ℕ) where
  pub own_range : tick_number n ≡ false → 10 ≡ own_number (book_of l) (Tick 0 n)
  unfolding own_number
  own_range e = simp e

  module _ (digits : tick_number n ≡ true) where
    pub own_below : n ≤ l.floor.0 → 11 ≡ own_number (book_of l) (Tick 0 n)
    unfolding own_number has book_of
    own_below g = simp (digits, le-leb _ _ g)

    pub own_far : l.floor.0 + 256 < n → 12 ≡ own_number (book_of l) (Tick 0 n)
    unfolding own_number has book_of
    own_far g =
        let above : l.floor.0 < n = omega arith in
        let e : is_set (book_of l).bits (n - l.floor.0 - 1) ≡ false = ap (λ (x : ℕ). eqb x 1) (place_none l h n g) in
        simp (digits, lt-leb _ _ above, e, lt-ltb _ _ g)

    module _ (above : l.floor.0 < n) (near : n ≤ l.floor.0 + 256) where
      place_held : is_set (book_of l).bits (n - l.floor.0 - 1) ≡ is_set (bits_in l.map) (n % 256)
      place_held = ap (λ (x : ℕ). eqb x 1) (place_bit l h n above near)

      pub own_held : is_set (bits_in l.map) (n % 256) ≡ true → 11 ≡ own_number (book_of l) (Tick 0 n)
      unfolding own_number has book_of
      own_held e = simp (digits, lt-leb _ _ above, place_held ∙ e)

      pub own_none : is_set (bits_in l.map) (n % 256) ≡ false → 0 ≡ own_number (book_of l) (Tick 0 n)
      unfolding own_number has book_of
      own_none e = simp (digits, lt-leb _ _ above, place_held ∙ e, le-ltb _ _ near)

-- a set beside an answer is laid as it is read
pub laid_kept : (first : TickNumber) (v : ℕ) → v < 2 ^ 256 → map_of v ≡ laid_from first (map_of v)
laid_kept first v h = sym (ap (λ (x : ℕ). map_of (laid first.0 (rotated first.0 x))) (value_of_lem v h) ∙ ap map_of (laid_rotated first.0 v h))

-- an empty one reads as no number, wherever it is read from
pub empty_set : (first : TickNumber) (m : Map) → m ≡ map_of 0 → (rotated first.0 (bits_in m) ≡ 0) × (m ≡ laid_from first m)
empty_set first m e = (
  ap (λ (x : Map). rotated first.0 (bits_in x)) e ∙ ap (rotated first.0) (value_of_lem 0 (pow_pos 256)) ∙ rotated_zero first.0,
  e ∙ laid_kept first 0 (pow_pos 256) ∙ ap (laid_from first) (sym e),
)

-- what the code needs of a sound state's numbers
pub sound_low : (l : Ledger) → sound_of (book_of l) ≡ true → (l.floor.0 ≤ l.top.0) × (l.top.0 ≤ largest)
unfolding book_of
sound_low l e = let r = rules_facts (book_of l) e in (r.low, r.top_small)

pub book_known : (l : Ledger) (w : ℕ) → w ≤ l.top.0 - l.floor.0 → w ≤ (book_of l).top - (book_of l).floor
unfolding book_of
book_known l w h = h

pub ledger_known : (l : Ledger) (w : ℕ) → w ≤ (book_of l).top - (book_of l).floor → w ≤ l.top.0 - l.floor.0
unfolding book_of
ledger_known l w h = h

pub floor_is : (l : Ledger) → (book_of l).floor ≡ l.floor.0
unfolding book_of
floor_is l = refl

ledger_replied : (l : Ledger) (w : ℕ) → ◌≡◌ {A = Ledger} (record {
  channel = l.channel;
  floor = tick_of (l.floor.0 + leaps (book_of l) w);
  top = l.top;
  map = map_of (laid (l.floor.0 + leaps (book_of l) w + 1) (covered (book_of l) w / 2 ^ leaps (book_of l) w));
  pending = None;
}) (ledger_of (replied (book_of l) w))
unfolding ledger_of book_of replied
ledger_replied l w = refl

module _ (l : Ledger) (ws : Words l.map.words) (r : StateRules (book_of l)) (w : ℕ) (known : w ≤ (book_of l).top - (book_of l).floor) (short : w ≤ 256) where
  abbrev s : ℕ
  s = l.floor.0 + 1

  abbrev m : ℕ
  m = bits_in l.map

  abbrev b : Book
  b = book_of l

  small : bits_in l.map < 2 ^ 256
  small = list_lt l.map.words ws

  bits_is : (book_of l).bits ≡ rotated (l.floor.0 + 1) (bits_in l.map)
  unfolding book_of
  bits_is = refl

  behind_bit : (j : ℕ) → w + j < 256 → bit (rotated (l.floor.0 + 1 + w) (bits_in l.map)) j ≡ bit (book_of l).bits (w + j)
  behind_bit j h =
      let e : (l.floor.0 + 1 + w + j) % 256 ≡ (l.floor.0 + 1 + (w + j)) % 256 = omega arith in
      rotated_bit (l.floor.0 + 1 + w) m small j (omega arith) ∙ ap (bit m) e ∙ sym (rotated_bit s m small (w + j) h) ∙ ap (λ (x : ℕ). bit x (w + j)) (sym bits_is)

  -- the run behind the range ends before it comes round to floor + 1, which is not held
  behind_short : w + run 256 (rotated (l.floor.0 + 1 + w) (bits_in l.map)) ≤ 256
  behind_short = elim (dec_le (w + run 256 (rotated (l.floor.0 + 1 + w) m)) 256) [ yes h ↦ h | no h ↦ absurd (never (omega arith)) ]
    where
      never : 256 < w + run 256 (rotated (l.floor.0 + 1 + w) (bits_in l.map)) → ⊥
      never h =
          let le = run_le 256 (rotated (l.floor.0 + 1 + w) m) in
          let p : bit (rotated (l.floor.0 + 1 + w) m) (256 - w) ≡ 1 = run_passed 256 (rotated (l.floor.0 + 1 + w) m) (256 - w) (omega arith) in
          let e : (l.floor.0 + 1 + w + (256 - w)) % 256 ≡ (l.floor.0 + 1 + 0) % 256 = omega arith in
          let q : bit (rotated (l.floor.0 + 1 + w) m) (256 - w) ≡ bit (rotated s m) 0 =
          rotated_bit (l.floor.0 + 1 + w) m small (256 - w) (omega arith) ∙ ap (bit m) e ∙ sym (rotated_bit s m small 0 (omega arith)) in
          let z : bit (rotated s m) 0 ≡ 0 = ap (λ (x : ℕ). bit x 0) (sym bits_is) ∙ r.next_not_held in
          omega arith

  pub leaps_of : w + run 256 (rotated (l.floor.0 + 1 + w) (bits_in l.map)) ≡ leaps (book_of l) w
  unfolding leaps
  leaps_of = run_is 256 (covered b w) (w + run 256 (rotated (l.floor.0 + 1 + w) m)) behind_short passed stopped
    where
      passed : (i : ℕ) → i < w + run 256 (rotated (l.floor.0 + 1 + w) (bits_in l.map)) → bit (covered (book_of l) w) i ≡ 1
      passed i h = elim (dec_lt i w) [
        | yes p ↦ covered_in b r w known short i p
        | no p ↦ (
            let e : w + (i - w) ≡ i = omega arith in
            covered_out b r w known short i (omega arith) ∙ ap (bit b.bits) (sym e) ∙ sym (behind_bit (i - w) (omega (arith, behind_short)))
            ∙ run_passed 256 (rotated (l.floor.0 + 1 + w) m) (i - w) (omega arith))
      ]

      stopped : w + run 256 (rotated (l.floor.0 + 1 + w) (bits_in l.map)) < 256 → bit (covered (book_of l) w) (w + run 256 (rotated (l.floor.0 + 1 + w) (bits_in l.map))) ≡ 0
      stopped h = covered_out b r w known short _ (omega arith) ∙ sym (behind_bit (run 256 (rotated (l.floor.0 + 1 + w) m)) h) ∙ run_stopped 256 (rotated (l.floor.0 + 1 + w) m) (omega arith)

  -- above what is passed nothing was covered
  rest_same : (k : ℕ) → w ≤ k → rotated (l.floor.0 + 1) (bits_in l.map) / 2 ^ k ≡ covered (book_of l) w / 2 ^ k
  rest_same k h =
      bit_ext 256 _ _ (lt_of_le_of_lt (shr_le (rotated s m) k) (rotated_lt s m small)) (lt_of_le_of_lt (shr_le (covered b w) k) (covered_lt b r w known short))
      (λ i q. bit_shr (rotated s m) k i ∙ ap (λ (x : ℕ). bit x (k + i)) (sym bits_is) ∙ sym (covered_out b r w known short (k + i) (omega arith)) ∙ sym (bit_shr (covered b w) k i))

  pub replied_of : (k : ℕ) (f : TickNumber) (d : Map) → k ≡ leaps (book_of l) w → f ≡ tick_of (l.floor.0 + k) → d ≡ map_of (without (l.floor.0 + 1) k (bits_in l.map))
      → ◌≡◌ {A = Ledger} (record { channel = l.channel; floor = f; top = l.top; map = d; pending = None }) (ledger_of (replied (book_of l) w))
  replied_of k f d q x z =
      let le : k ≤ 256 = omega (arith, q, leaps_short b r w known short) in
      let lo : w ≤ k = omega (arith, q, leaps_cover b r w known short) in
      let at : l.floor.0 + 1 + k ≡ l.floor.0 + k + 1 = omega arith in
      let e : d ≡ map_of (laid (l.floor.0 + k + 1) (covered b w / 2 ^ k)) =
      z ∙ ap map_of (without_down (l.floor.0 + 1) k m small le ∙ ap₂ laid at (rest_same k lo)) in
      ap₂ (λ (g : TickNumber) (n : Map). record { channel = l.channel; floor = g; top = l.top; map = n; pending = None }) x e
      ∙ ap (λ (j : ℕ). record { channel = l.channel; floor = tick_of (l.floor.0 + j); top = l.top; map = map_of (laid (l.floor.0 + j + 1) (covered b w / 2 ^ j)); pending = None }) q
      ∙ ledger_replied l w

  -- the two sets, read round from floor + 1
  pub given_lt : lacking (l.floor.0 + 1) w (bits_in l.map) < 2 ^ 256
  unfolding lacking
  given_lt = only_lt s w _ (ones_sub-lt 256 m)

  pub given_of : rotated (l.floor.0 + 1) (bits_in (map_of (lacking (l.floor.0 + 1) w (bits_in l.map)))) ≡ gave_up (book_of l) w
  unfolding lacking gave_up
  given_of =
      ap (rotated s) (value_of_lem _ given_lt) ∙ only_read s w _ (ones_sub-lt 256 m)
      ∙ bit_ext w _ _ (mod-lt _ (pow_pos w)) (ones_sub-lt w (b.bits % 2 ^ w))
      (λ i q.
      let p : (l.floor.0 + 1 + i) % 256 < 256 = omega arith in
      let at : bit b.bits i ≡ bit m ((l.floor.0 + 1 + i) % 256) = ap (λ (x : ℕ). bit x i) bits_is ∙ rotated_bit s m small i (omega arith) in
      bit_mod (rotated s ((2 ^ 256 - 1) - m)) w i q ∙ rotated_bit s ((2 ^ 256 - 1) - m) (ones_sub-lt 256 m) i (omega arith)
      ∙ bit_not 256 ((l.floor.0 + 1 + i) % 256) m small p ∙ ap (λ (x : ℕ). 1 - x) (sym at)
      ∙ sym (bit_not w i (b.bits % 2 ^ w) (mod-lt _ (pow_pos w)) q ∙ ap (λ (x : ℕ). 1 - x) (bit_mod b.bits w i q)))

  pub passed_lt : (k : ℕ) → only (l.floor.0 + 1) k (bits_in l.map) < 2 ^ 256
  passed_lt k = only_lt s k m small

  pub passed_of : (k : ℕ) → k ≡ leaps (book_of l) w → rotated (l.floor.0 + 1) (bits_in (map_of (only (l.floor.0 + 1) k (bits_in l.map)))) ≡ handed (book_of l) w
  unfolding handed
  passed_of k q = ap (rotated s) (value_of_lem _ (passed_lt k)) ∙ only_read s k m small ∙ ap₂ (λ (x j : ℕ). x % 2 ^ j) (sym bits_is) q

-- ---- an answer by its number

module _ (b : Book) (call : Call) where
  -- no number of the code's checks: the call is done
  pub done_answer : 0 ≡ number_to b call → answer 0 (values_of b call) ≡ answer_to b call
  unfolding answer_to
  done_answer e = simp (sym e)

  pub refused_answer : (r : Refusal) → number_of r ≡ number_to b call → answer (number_of r) (beside call) ≡ answer_to b call
  unfolding answer_to
  refused_answer r e = simp (sym e, refusal_not_0 r)

-- ---- the ledger beside an answer

module _ (read : Ledger → Book) (keep : Book → Ledger) (l : Ledger) (call : Call) where
  pub done_by : number_to (read l) call ≡ 0 → next_by read keep l call ≡ keep (done (read l) call)
  unfolding next_by
  done_by e = rw e

  -- 12 gives the very ledger with its top raised
  pub far_by : number_to (read l) call ≡ 12 → next_by read keep l call ≡ topped l (max l.top.0 (offered call))
  unfolding next_by
  far_by e = rw e

  -- and any other refusal the very ledger
  pub same_by : eqb (number_to (read l) call) 0 ≡ false → eqb (number_to (read l) call) 12 ≡ false → next_by read keep l call ≡ l
  unfolding next_by
  same_by e f = rw (e, f)

  -- a ledger that its book gives back
  pub next_kept : keep (read l) ≡ l → ((n : ℕ) → topped l (max l.top.0 n) ≡ keep (raised (read l) n)) → next_by read keep l call ≡ keep (next_of (read l) call)
  unfolding next_by next_of
  next_kept k up =
      ⊎_elim (λ (t : eqb (number_to (read l) call) 0 ≡ true). rw t)
      (λ (f : eqb (number_to (read l) call) 0 ≡ false).
      ⊎_elim (λ (t : eqb (number_to (read l) call) 12 ≡ true). rw (f, t) (up (offered call)))
      (λ (g : eqb (number_to (read l) call) 12 ≡ false). rw (f, g) (sym k))
      (two (eqb (number_to (read l) call) 12)))
      (two (eqb (number_to (read l) call) 0))

-- and the ledger of a book that can be read again
pub next_keeps : (read : Ledger → Book) (keep : Book → Ledger) (b : Book) → read (keep b) ≡ b → ((n : ℕ) → topped (keep b) (max (keep b).top.0 n) ≡ keep (raised b n))
    → (call : Call) → next_by read keep (keep b) call ≡ keep (next_of b call)
next_keeps read keep b k up call =
    next_kept read keep (keep b) call (ap keep k) (λ n. up n ∙ ap (λ (x : Book). keep (raised x n)) (sym k)) ∙ ap (λ (x : Book). keep (next_of x call)) k

pub next_of_lem : (l : Ledger) → Words l.map.words → (call : Call) → next_in l call ≡ ledger_of (next_of (book_of l) call)
next_of_lem l w call = next_kept book_of ledger_of l call (ledger_of_lem l w) (raised_of l w)

-- the ledger of a book, its top raised
pub topped_of : (b : Book) (n : ℕ) → topped (ledger_of b) (max (ledger_of b).top.0 n) ≡ ledger_of (raised b n)
unfolding ledger_of raised
topped_of b n = refl

module _ (l : Ledger) (call : Call) where
  pub done_in : 0 ≡ number_to (book_of l) call → ledger_of (done (book_of l) call) ≡ next_in l call
  done_in e = sym (done_by book_of ledger_of l call (sym e))

  pub refused_in : (r : Refusal) → number_of r ≡ number_to (book_of l) call
      → pick (eqb (number_of r) 12) (topped l (max l.top.0 (offered call))) l ≡ next_in l call
  unfolding next_by
  refused_in r e = simp (sym e, refusal_not_0 r)

  pub same_in : (r : Refusal) → number_of r ≡ number_to (book_of l) call → eqb (number_to (book_of l) call) 12 ≡ false → l ≡ next_in l call
  same_in r e f = sym (same_by book_of ledger_of l call (ap (λ (k : ℕ). eqb k 0) (sym e) ∙ refusal_not_0 r) f)

-- only a tick is answered 12
checked_not_12 : (b : Book) (call : Call) → eqb (own_number b call) 12 ≡ false → eqb (number_to b call) 12 ≡ false
unfolding number_to checked_of
checked_not_12 b call h =
    pick_cases (λ k. eqb k 12 ≡ false) (not (sound_of b)) 13 (pick (elsewhere b call) 18 (own_number b call)) (λ e. refl)
    (λ e. pick_cases (λ k. eqb k 12 ≡ false) (elsewhere b call) 18 (own_number b call) (λ g. refl) (λ g. h))

pub announce_not_12 : (b : Book) (channel n : ℕ) → eqb (number_to b (Announce channel n)) 12 ≡ false
unfolding own_number
announce_not_12 b channel n = checked_not_12 b (Announce channel n) (pick_cases (λ k. eqb k 12 ≡ false) (ltb largest n) 10 0 (λ e. refl) (λ e. refl))

pub request_not_12 : (b : Book) (channel : ℕ) → eqb (number_to b (Request channel)) 12 ≡ false
unfolding own_number
request_not_12 b channel =
    checked_not_12 b (Request channel)
    (pick_cases (λ k. eqb k 12 ≡ false) (is_pending b.pending) 14 (pick (eqb b.top b.floor) 15 0) (λ e. refl)
    (λ e. pick_cases (λ k. eqb k 12 ≡ false) (eqb b.top b.floor) 15 0 (λ g. refl) (λ g. refl)))

pub question_not_12 : (b : Book) (q : Question) → eqb (number_to b (Ask q)) 12 ≡ false
unfolding own_number
question_not_12 b Missing = checked_not_12 b (Ask Missing) refl
question_not_12 b Held = checked_not_12 b (Ask Held) refl
question_not_12 b (Between channel a z) =
    checked_not_12 b (Ask (Between channel a z)) (pick_cases (λ k. eqb k 12 ≡ false) (not (tick_number a && tick_number z)) 10 0 (λ e. refl) (λ e. refl))

pub reply_not_12 : (b : Book) (channel first status : ℕ) → eqb (number_to b (Reply channel first status)) 12 ≡ false
unfolding own_number
reply_not_12 b channel first status =
    checked_not_12 b (Reply channel first status)
    (pick_cases (λ k. eqb k 12 ≡ false) (not (reply_status status)) 17 (pick (not (starts_at b.pending first)) 16 0) (λ e. refl)
    (λ e. pick_cases (λ k. eqb k 12 ≡ false) (not (starts_at b.pending first)) 16 0 (λ g. refl) (λ g. refl)))

-- ---- each call by its verdict: the answer, and the ledger beside it

module _ (l : Ledger) where
  -- a refusal that is not 12 gives back the ledger
  refused_call : (call : Call) (r : Refusal) → number_of r ≡ number_to (book_of l) call → eqb (number_to (book_of l) call) 12 ≡ false
      → (answer (number_of r) (beside call) ≡ answer_to (book_of l) call) × (l ≡ next_in l call)
  refused_call call r e f = (refused_answer (book_of l) call r e, same_in l call r e f)

  -- a call that is done
  done_call : (call : Call) → 0 ≡ number_to (book_of l) call
      → (answer 0 (values_of (book_of l) call) ≡ answer_to (book_of l) call) × (ledger_of (done (book_of l) call) ≡ next_in l call)
  done_call call e = (done_answer (book_of l) call e, done_in l call e)

  module _ (channel n : ℕ) where
    pub tick_taken : 0 ≡ number_to (book_of l) (Tick channel n) → (l.floor.0 < n) × (n ≤ l.floor.0 + 256) × (n ≤ largest) × (sound_of (book_of l) ≡ true)
    unfolding book_of
    tick_taken e =
        let d = tick_done (book_of l) channel n (sym e) in
        (not_had (book_of l) n d.anew, d.near, d.digits, rules_test (book_of l) d.rules)

    pub tick_done_call : 0 ≡ number_to (book_of l) (Tick channel n)
        → (answer 0 ((l.floor.0 + 1) ∷ passes (book_of l) n ∷ []) ≡ answer_to (book_of l) (Tick channel n)) × (ledger_of (taken (book_of l) n) ≡ next_in l (Tick channel n))
    unfolding values_of done book_of
    tick_done_call e = done_call (Tick channel n) e

    pub tick_far_call : (r : Refusal) → r ≡ Far → number_of r ≡ number_to (book_of l) (Tick channel n)
        → (answer (number_of r) [] ≡ answer_to (book_of l) (Tick channel n)) × (topped l (max l.top.0 n) ≡ next_in l (Tick channel n))
    tick_far_call r q e = (refused_answer (book_of l) (Tick channel n) r e, sym (far_by book_of ledger_of l (Tick channel n) (sym e ∙ ap number_of q)))

    pub tick_refused_call : (r : Refusal) → (r ≡ Far → ⊥) → number_of r ≡ number_to (book_of l) (Tick channel n)
        → (answer (number_of r) [] ≡ answer_to (book_of l) (Tick channel n)) × (l ≡ next_in l (Tick channel n))
    tick_refused_call r q e = refused_call (Tick channel n) r e (ap (λ (k : ℕ). eqb k 12) (sym e) ∙ ne_eqb _ 12 (λ z. q (refusal_one r Far z)))

    pub announce_done_call : Words l.map.words → 0 ≡ number_to (book_of l) (Announce channel n)
        → (answer 0 [] ≡ answer_to (book_of l) (Announce channel n)) × (topped l (max l.top.0 n) ≡ next_in l (Announce channel n))
    unfolding values_of done
    announce_done_call w e = let p = done_call (Announce channel n) e in (p.0, raised_of l w n ∙ p.1)

    pub announce_refused_call : (r : Refusal) → number_of r ≡ number_to (book_of l) (Announce channel n)
        → (answer (number_of r) [] ≡ answer_to (book_of l) (Announce channel n)) × (l ≡ next_in l (Announce channel n))
    announce_refused_call r e = refused_call (Announce channel n) r e (announce_not_12 (book_of l) channel n)

  module _ (channel : ℕ) where
    pub request_sound : 0 ≡ number_to (book_of l) (Request channel) → sound_of (book_of l) ≡ true
    request_sound e = rules_test (book_of l) (checked_facts (book_of l) (Request channel) (sym e) (λ q. omega arith) (λ q. omega arith)).rules

    pub request_done_call : 0 ≡ number_to (book_of l) (Request channel)
        → (answer 0 ((l.floor.0 + 1) ∷ (l.floor.0 + asked (book_of l)) ∷ []) ≡ answer_to (book_of l) (Request channel))
        × (ledger_of (waiting (book_of l) (range (l.floor.0 + 1) (l.floor.0 + asked (book_of l)))) ≡ next_in l (Request channel))
    unfolding values_of done book_of
    request_done_call e = done_call (Request channel) e

    pub request_refused_call : (r : Refusal) → number_of r ≡ number_to (book_of l) (Request channel)
        → (answer (number_of r) [] ≡ answer_to (book_of l) (Request channel)) × (l ≡ next_in l (Request channel))
    request_refused_call r e = refused_call (Request channel) r e (request_not_12 (book_of l) channel)

  module _ (channel first status : ℕ) where
    pub reply_reach : (w : ℕ) → w ≡ reach (book_of l) status → 0 ≡ number_to (book_of l) (Reply channel first status)
        → (sound_of (book_of l) ≡ true) × (w ≤ 256) × (w ≤ l.top.0 - l.floor.0)
    unfolding book_of
    reply_reach w q e =
        let r = (checked_facts (book_of l) (Reply channel first status) (sym e) (λ z. omega arith) (λ z. omega arith)).rules in
        let near = reach_near (book_of l) status r in
        (rules_test (book_of l) r, omega (arith, near.1, q), omega (arith, near.0, q))

    pub reply_done_call : (w : ℕ) → w ≡ reach (book_of l) status → 0 ≡ number_to (book_of l) (Reply channel first status)
        → (answer 0 ((l.floor.0 + 1) ∷ gave_up (book_of l) w ∷ handed (book_of l) w ∷ []) ≡ answer_to (book_of l) (Reply channel first status))
        × (ledger_of (replied (book_of l) w) ≡ next_in l (Reply channel first status))
    unfolding values_of done book_of
    reply_done_call w q e = rw q (done_call (Reply channel first status) e)

    pub reply_refused_call : (r : Refusal) → number_of r ≡ number_to (book_of l) (Reply channel first status)
        → (answer (number_of r) (0 ∷ 0 ∷ 0 ∷ []) ≡ answer_to (book_of l) (Reply channel first status)) × (l ≡ next_in l (Reply channel first status))
    reply_refused_call r e = refused_call (Reply channel first status) r e (reply_not_12 (book_of l) channel first status)

  module _ (channel a z : ℕ) where
    pub between_bounds : 0 ≡ number_to (book_of l) (Ask (Between channel a z)) → (sound_of (book_of l) ≡ true) × (a ≤ largest)
    between_bounds e = let g = (given_0 (book_of l) (Ask (Between channel a z))).0 (sym e) in (rules_test (book_of l) g.rules, g.fine.from_digits)

    pub between_done_call : Words l.map.words → 0 ≡ number_to (book_of l) (Ask (Between channel a z))
        → (answer 0 (between_count (book_of l) a z ∷ []) ≡ answer_to (book_of l) (Ask (Between channel a z))) × (l ≡ next_in l (Ask (Between channel a z)))
    unfolding values_of done
    between_done_call w e = let p = done_call (Ask (Between channel a z)) e in (p.0, sym (ledger_of_lem l w) ∙ p.1)

    pub between_refused_call : (r : Refusal) → number_of r ≡ number_to (book_of l) (Ask (Between channel a z))
        → (answer (number_of r) (0 ∷ []) ≡ answer_to (book_of l) (Ask (Between channel a z))) × (l ≡ next_in l (Ask (Between channel a z)))
    between_refused_call r e = refused_call (Ask (Between channel a z)) r e (question_not_12 (book_of l) (Between channel a z))

  -- the two counts that name no channel: 13 alone
  module _ (w : Words l.map.words) (t : sound_of (book_of l) ≡ true) where
    plain_0 : (q : Question) → elsewhere (book_of l) (Ask q) ≡ false → own_number (book_of l) (Ask q) ≡ 0 → 0 ≡ number_to (book_of l) (Ask q)
    unfolding number_to checked_of
    plain_0 q f e = rw (t, f, e) refl

    pub missing_known : l.floor.0 ≤ l.top.0
    missing_known = (sound_low l t).0

    pub missing_held : ones (bits_in l.map) ≤ l.top.0 - l.floor.0
    unfolding book_of
    missing_held = omega (arith, held_fits (book_of l) (rules_facts (book_of l) t), held_of l w)

    pub missing_call : (answer 0 ((l.top.0 - l.floor.0 - ones (bits_in l.map)) ∷ []) ≡ answer_to (book_of l) (Ask Missing)) × (l ≡ next_in l (Ask Missing))
    unfolding values_of done own_number missing_count book_of
    missing_call =
        let p = done_call (Ask Missing) (plain_0 Missing refl refl) in
        (ap (λ (k : ℕ). answer 0 ((l.top.0 - l.floor.0 - k) ∷ [])) (held_of l w) ∙ p.0, sym (ledger_of_lem l w) ∙ p.1)

    pub held_call : (answer 0 (ones (bits_in l.map) ∷ []) ≡ answer_to (book_of l) (Ask Held)) × (l ≡ next_in l (Ask Held))
    unfolding values_of done own_number held_count
    held_call =
        let p = done_call (Ask Held) (plain_0 Held refl refl) in
        (ap (λ (k : ℕ). answer 0 (k ∷ [])) (held_of l w) ∙ p.0, sym (ledger_of_lem l w) ∙ p.1)

-- and no question changes the book
pub question_next : (b : Book) (q : Question) → next_of b (Ask q) ≡ b
unfolding next_of done
question_next b q =
    ⊎_elim (λ (t : eqb (number_to b (Ask q)) 0 ≡ true). rw t) (λ (f : eqb (number_to b (Ask q)) 0 ≡ false). rw (f, question_not_12 b q)) (two (eqb (number_to b (Ask q)) 0))

pub renew_not_12 : (b : Book) → eqb (number_to b Renew) 12 ≡ false
unfolding own_number
renew_not_12 b = checked_not_12 b Renew refl
