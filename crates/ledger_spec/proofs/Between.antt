-- The count of request 8, worked out from the floor, the top and the bits, is the count made number
-- by number: below the floor and above the top nothing is missing, and between them what is not
-- held. Assumes nothing.
use mathlib.Core.Path.{◌≡◌, refl, sym, ap, ap₂, ◌∙◌}
use mathlib.Core.Bool.{Bool, true, false, ◌&&◌, not}
use mathlib.Core.List.{[], ◌∷◌}
use Prim.Native.Nat.{ℕ, zero, suc, ◌+◌, ◌-◌, ◌/◌, ◌%◌, ◌^◌, ◌≤◌, ◌<◌, min, max}
use native.Mathlib.Nat.{mod-lt}
use native.Mathlib.Decide.{dec_lt, dec_le}
use native.Mathlib.Omega.{arith}
use borrow.Author.Tests.{le-leb}
use lib.Count.{ones}
use lib.Dec.{eqb, leb}
use lib.Pow.{pow_pos}
use Rattle.terms.specs.Paper.{Paper, answer}
use Rattle.tick_map.specs.Bits.{bit, is_set, tally}
use Rattle.tick_map.proofs.Digits.{bit_lt, bit_above, bit_shr, ones_tally, tally_ext, tally_split}
use Rattle.tick_map.proofs.Ring.{bit_mod}
use Rattle.ledger_spec.specs.State.{Book, has, StateRules}
use Rattle.ledger_spec.specs.Calls.{Ask, Missing, Between, lowest, span, between_count, own_number, values_of, answer_to}
use Rattle.ledger_spec.specs.Trace.{Calls, after, trace}
use Rattle.ledger_spec.specs.Words.{one, missing, known_top, count}
use Rattle.ledger_spec.specs.Given.{FineBetween}
use Rattle.ledger_spec.specs.Demand3.{missing_in}
use Rattle.ledger_spec.specs.Between.{count_between, BetweenAnswers}
use Rattle.ledger_spec.proofs.Tests.{one_of}
use Rattle.ledger_spec.proofs.Rules.{has_above}
use Rattle.ledger_spec.proofs.Rows.{all_zero}
use Rattle.ledger_spec.proofs.Agree.{agrees}
use Rattle.ledger_spec.proofs.Demand3.{rest, missing_below, missing_above, missing_known, exactly, demand_3}
use Rattle.ledger_spec.proofs.Given.{span_wrong, given_10_between}
use Rattle.ledger_spec.proofs.Done.{given_0}

-- ---- a stretch of the bits, counted

module _ (m : ℕ) (h : m < 2 ^ 256) (off : ℕ) where
  -- from place 256 on nothing is set, however far
  same_digit : (q : ℕ) → bit m (min 256 off + q) ≡ bit m (off + q)
  same_digit q = elim (dec_le off 256) [
    | yes p ↦ (let e : min 256 off ≡ off = omega arith in ap (λ (x : ℕ). bit m (x + q)) e)
    | no p ↦ (
        let x : 256 ≤ min 256 off + q = omega arith in
        let y : 256 ≤ off + q = omega arith in
        bit_above 256 (min 256 off + q) h x ∙ sym (bit_above 256 (off + q) h y))
  ]

  -- and 256 places are enough
  same_width : (w : ℕ) → tally (λ q. bit m (off + q)) (min 256 w) ≡ tally (λ q. bit m (off + q)) w
  same_width w = elim (dec_le w 256) [
    | yes p ↦ (let e : min 256 w ≡ w = omega arith in ap (tally (λ q. bit m (off + q))) e)
    | no p ↦ (
        let e : min 256 w ≡ 256 = omega arith in
        let g : w ≡ 256 + (w - 256) = omega arith in
        let z : tally (λ q. bit m (off + (256 + q))) (w - 256) ≡ 0 = all_zero (w - 256) (λ q. bit m (off + (256 + q))) (λ q l. bit_above 256 (off + (256 + q)) h (omega arith)) in
        let s : tally (λ q. bit m (off + q)) (256 + (w - 256)) ≡ tally (λ q. bit m (off + q)) 256 + tally (λ q. bit m (off + (256 + q))) (w - 256) =
        tally_split 256 (w - 256) (λ q. bit m (off + q)) in
        let t : tally (λ q. bit m (off + q)) 256 ≡ tally (λ q. bit m (off + q)) (256 + (w - 256)) = omega (arith, s, z) in
        ap (tally (λ q. bit m (off + q))) e ∙ t ∙ ap (tally (λ q. bit m (off + q))) (sym g))
  ]

  part_ones : (w : ℕ) → ones (m / 2 ^ min 256 off % 2 ^ min 256 w) ≡ tally (λ q. bit m (off + q)) w
  part_ones w =
      ones_tally (min 256 w) _ (mod-lt _ (pow_pos (min 256 w)))
      ∙ tally_ext (min 256 w) (bit (m / 2 ^ min 256 off % 2 ^ min 256 w)) (λ q. bit m (off + q))
      (λ q l. bit_mod (m / 2 ^ min 256 off) (min 256 w) q l ∙ bit_shr m (min 256 off) q ∙ same_digit q)
      ∙ same_width w

-- ---- the count from the book

-- a count in three parts, of which the outer ones are empty
middle : (f : ℕ → ℕ) (i j k : ℕ) → ((q : ℕ) → q < i → f q ≡ 0) → ((q : ℕ) → i + j ≤ q → q < k → f q ≡ 0) → i + j ≤ k → tally f k ≡ tally (λ q. f (i + q)) j
middle f i j k low high le =
    let e : k ≡ i + j + (k - (i + j)) = omega arith in
    let x : tally f k ≡ tally f (i + j) + tally (λ q. f (i + j + q)) (k - (i + j)) = ap (tally f) e ∙ tally_split (i + j) (k - (i + j)) f in
    let y : tally (λ q. f (i + j + q)) (k - (i + j)) ≡ 0 = all_zero (k - (i + j)) (λ q. f (i + j + q)) (λ q l. high (i + j + q) (omega arith) (omega arith)) in
    let z : tally f i ≡ 0 = all_zero i f low in
    omega (arith, tally_split i j f)

shift : (f m q : ℕ) → f + 1 ≤ m → m + q - f - 1 ≡ m - f - 1 + q
shift f m q p = omega arith

join : (x m q : ℕ) → x ≤ m → x + (m - x + q) ≡ m + q
join x m q p = omega arith

below : (t m q : ℕ) → q < t + 1 - m → m + q ≤ t
below t m q p = omega arith

module _ (b : Book) (r : StateRules b) (lo hi : ℕ) where
  abbrev first : ℕ
  first = lowest b lo

  abbrev width : ℕ
  width = span b lo hi

  abbrev off : ℕ
  off = first - b.floor - 1

  from_lo : lo ≤ first
  from_lo = omega arith

  from_floor : b.floor + 1 ≤ first
  from_floor = omega arith

  -- a number of the span: missing where its bit is not set
  within : (q : ℕ) → q < width → one (missing_in b (lo + (first - lo + q))) ≡ one (not (is_set b.bits (off + q)))
  within q l = ap (λ (n : ℕ). one (missing_in b n)) (join lo first q from_lo) ∙ ap one missing_at
    where
      over : b.floor + 1 ≤ lowest b lo → b.floor < lowest b lo + q
      over p = omega arith

      known : lowest b lo + q ≤ min hi b.top → lowest b lo + q ≤ b.top
      known p = omega arith

      missing_at : missing_in b (lowest b lo + q) ≡ not (is_set b.bits (lowest b lo - b.floor - 1 + q))
      missing_at =
          missing_known b (first + q) (over from_floor)
          ∙ ap₂ ◌&&◌ (le-leb _ _ (known (below (min hi b.top) first q l)))
          (ap not (has_above b (first + q) (over from_floor) ∙ ap (is_set b.bits) (shift b.floor first q from_floor)))

  bits_are : tally (λ q. one (is_set b.bits (off + q))) width ≡ tally (λ q. bit b.bits (off + q)) width
  bits_are = tally_ext width (λ q. one (is_set b.bits (off + q))) (λ q. bit b.bits (off + q)) (λ q l. one_of (bit b.bits (off + q)) (bit_lt b.bits (off + q)))

  some : 0 < width → tally (λ q. one (missing_in b (lo + q))) (hi + 1 - lo) ≡ width - tally (λ q. bit b.bits (off + q)) width
  some p =
      let x : tally (λ q. one (missing_in b (lo + q))) (hi + 1 - lo) ≡ tally (λ q. one (missing_in b (lo + (first - lo + q)))) width =
      middle (λ q. one (missing_in b (lo + q))) (first - lo) width (hi + 1 - lo)
      (λ q l. ap one (missing_below b (lo + q) (omega arith)))
      (λ q l t. ap one (missing_above b (lo + q) (omega arith)))
      (omega arith) in
      let y : tally (λ q. one (missing_in b (lo + (first - lo + q)))) width ≡ tally (λ q. one (not (is_set b.bits (off + q)))) width =
      tally_ext width (λ q. one (missing_in b (lo + (first - lo + q)))) (λ q. one (not (is_set b.bits (off + q)))) within in
      omega (arith, bits_are, rest (λ q. is_set b.bits (off + q)) width)

  nothing : width ≡ 0 → (q : ℕ) → q < hi + 1 - lo → one (missing_in b (lo + q)) ≡ 0
  nothing e q l = elim (dec_le (lo + q) b.floor) [
    | yes p ↦ ap one (missing_below b (lo + q) p)
    | no p ↦ ap one (missing_above b (lo + q) (omega arith))
  ]

  pub between : count_between (missing_in b) lo hi ≡ between_count b lo hi
  unfolding count_between between_count
  between = elim (dec_le 1 width) [
    | yes p ↦ some p ∙ ap (λ (x : ℕ). width - x) (sym (part_ones b.bits r.places off width))
    | no p ↦ (
        let e : width ≡ 0 = omega arith in
        let z : tally (λ q. one (missing_in b (lo + q))) (hi + 1 - lo) ≡ 0 = all_zero (hi + 1 - lo) (λ q. one (missing_in b (lo + q))) (nothing e) in
        let u : width - ones (b.bits / 2 ^ min 256 off % 2 ^ min 256 width) ≡ 0 = omega arith in
        z ∙ sym u)
  ]

-- ---- what a count between two numbers is

module _ (so : ℕ → Bool) where
  -- "An empty span (b below a) answers 0"
  pub between_empty : (a z : ℕ) → z < a → count_between so a z ≡ 0
  unfolding count_between tally
  between_empty a z l = let e : z + 1 - a ≡ 0 = omega arith in ap (tally (λ i. one (so (a + i)))) e

  pub between_one : (n : ℕ) → count_between so n n ≡ one (so n)
  unfolding count_between tally
  between_one n =
      let e : n + 1 - n ≡ 1 = omega arith in
      let f : n + 0 ≡ n = omega arith in
      let g : one (so (n + 0)) + 0 ≡ one (so (n + 0)) = omega arith in
      ap (tally (λ i. one (so (n + i)))) e ∙ g ∙ ap (λ (x : ℕ). one (so x)) f

  pub between_joins : (a m z : ℕ) → a ≤ m + 1 → m ≤ z → count_between so a m + count_between so (m + 1) z ≡ count_between so a z
  unfolding count_between
  between_joins a m z l k =
      let e : z + 1 - a ≡ (m + 1 - a) + (z + 1 - (m + 1)) = omega arith in
      let s : tally (λ i. one (so (a + (m + 1 - a + i)))) (z + 1 - (m + 1)) ≡ tally (λ i. one (so (m + 1 + i))) (z + 1 - (m + 1)) =
      tally_ext (z + 1 - (m + 1)) (λ i. one (so (a + (m + 1 - a + i)))) (λ i. one (so (m + 1 + i))) (λ i q. ap (λ (x : ℕ). one (so x)) (join a (m + 1) i l)) in
      sym (ap (tally (λ i. one (so (a + i)))) e ∙ tally_split (m + 1 - a) (z + 1 - (m + 1)) (λ i. one (so (a + i))) ∙ ap (λ (x : ℕ). tally (λ i. one (so (a + i))) (m + 1 - a) + x) s)

  -- from 1 on it is the count of demand 3
  pub between_from_1 : (k : ℕ) → count_between so 1 k ≡ count so k
  unfolding count_between count
  between_from_1 k =
      let e : k + 1 - 1 ≡ k = omega arith in
      ap (tally (λ i. one (so (1 + i)))) e ∙ tally_ext k (λ i. one (so (1 + i))) (λ i. one (so (i + 1))) (λ i q. (let f : 1 + i ≡ i + 1 = omega arith in ap (λ (x : ℕ). one (so x)) f))

-- ---- every row of calls

module _ (channel : ℕ) (small : channel ≤ 9999) (calls : Calls) where
  -- the answer is what counting one number after the other gives
  pub between_counts : (a z : ℕ) → FineBetween a z → answer_to (after channel calls) (Ask (Between channel a z)) ≡ answer 0 (count_between (missing (trace channel calls)) a z ∷ [])
  unfolding answer_to values_of count_between
  between_counts a z f =
      let g = agrees channel small calls in
      let b = after channel calls in
      let n = (given_0 b (Ask (Between channel a z))).1 (record { rules = g.rules; own = sym g.channel_is; fine = f }) in
      let same : tally (λ i. one (missing_in b (a + i))) (z + 1 - a) ≡ tally (λ i. one (missing (trace channel calls) (a + i))) (z + 1 - a) =
      tally_ext (z + 1 - a) (λ i. one (missing_in b (a + i))) (λ i. one (missing (trace channel calls) (a + i))) (λ i q. ap one (exactly (trace channel calls) channel b g (a + i))) in
      rw n (ap (λ (k : ℕ). answer 0 (k ∷ [])) (sym (between b g.rules a z) ∙ same))

  pub between_answers : (a z : ℕ) → BetweenAnswers (trace channel calls) a z (answer_to (after channel calls) (Ask (Between channel a z)))
  unfolding answer_to
  between_answers a z =
      let g = agrees channel small calls in
      record {
        number_10 = λ f. rw ((given_10_between (after channel calls) channel a z).1 (record { rules = g.rules; own = sym g.channel_is; number = span_wrong a z f }));
        counts_0 = between_counts a z;
      }

  -- from 1 to the known top it is what the question for all is answered
  pub between_all : FineBetween 1 (known_top (trace channel calls))
      → answer_to (after channel calls) (Ask (Between channel 1 (known_top (trace channel calls)))) ≡ answer_to (after channel calls) (Ask Missing)
  between_all f =
      between_counts 1 (known_top (trace channel calls)) f ∙ ap (λ (k : ℕ). answer 0 (k ∷ [])) (between_from_1 (missing (trace channel calls)) (known_top (trace channel calls)))
      ∙ sym (demand_3 channel small calls).counts.missing_is
