-- Demand 3, proved for every row of calls on a fresh ledger. Each sentence follows from the
-- invariant `Agrees` alone. Assumes nothing.
use mathlib.Core.Path.{◌≡◌, refl, sym, ap, ap₂, ◌∙◌, subst}
use mathlib.Core.Logic.{◌⊎◌, inl, inr}
use mathlib.Core.Bool.{Bool, true, false, ◌&&◌, not}
use mathlib.Core.List.{[], ◌∷◌}
use Prim.Native.Nat.{ℕ, zero, suc, ◌+◌, ◌-◌, ◌≤◌, ◌<◌, suc-le-suc}
use native.Mathlib.Nat.{zero-lt-suc}
use native.Mathlib.Decide.{dec_lt, dec_le}
use native.Mathlib.Omega.{arith}
use borrow.Author.Tests.{eq-eqb, le-leb, lt-leb, lt-ltb, le-ltb, eqb-true, eqb-false}
use lib.Count.{ones, count_trailing_zeros}
use lib.Dec.{eqb, leb, ltb}
use lib.ListN.{length}
use Rattle.terms.specs.Cases.{clash}
use Rattle.terms.specs.Paper.{Paper, answer, refusal, pick}
use Rattle.tick_map.specs.Bits.{bit, is_set, tally}
use Rattle.tick_map.proofs.Digits.{bit_lt, trailing_passed, trailing_stopped, tally_ext, ones_tally}
use Rattle.ledger_spec.specs.State.{Asked, nothing, range, Book, or_else, has, StateRules}
use Rattle.ledger_spec.specs.Calls.{Request, Ask, Missing, Held, is_pending, elsewhere, own_number, asked, held_count, missing_count, values_of, answer_at, answer_to}
use Rattle.ledger_spec.specs.Trace.{Calls, after, History, trace}
use Rattle.ledger_spec.specs.Words.{received, given_up, settled, numbers, handed_out, known_top, pending, is_in, delivered, held, missing, one, count, floor_of}
use Rattle.ledger_spec.specs.Demand3.{Deliveries, missing_in, MissingNumbers, LowestRun, Requests, Counts, Shown, Demand3}
use Rattle.ledger_spec.proofs.Tests.{both, and_false, and_true, one_of, pick_cases}
use Rattle.ledger_spec.proofs.Rules.{has_below, has_above, bits_top}
use Rattle.ledger_spec.proofs.Numbers.{checked_test}
use Rattle.ledger_spec.proofs.Steps.{Asks, asks}
use Rattle.ledger_spec.proofs.Rows.{in_numbers, in_chosen, all_zero, count_split, count_low, count_ext, count_two, count_all, count_chosen}
use Rattle.ledger_spec.proofs.Agree.{Agrees, has_is, high_not, high_has, agrees}

-- ---- counts in two parts

-- those that are and those that are not make all
pub rest : (p : ℕ → Bool) (k : ℕ) → tally (λ i. one (p i)) k + tally (λ i. one (not (p i))) k ≡ k
unfolding tally
rest p zero = refl
rest p (suc k) = omega (arith, rest (λ i. p (suc i)) k, single (p 0))
  where
    single : (t : Bool) → one t + one (not t) ≡ 1
    single true = refl
    single false = refl

-- four parts of which a number is in exactly one
four : (d r g : Bool) → (d ≡ true → r ≡ true) → (r ≡ true → g ≡ false) → one d + one (r && not d) + one (not (or_else r g)) + one g ≡ 1
four true true true h k = absurd (clash refl (k refl))
four true true false h k = refl
four true false g h k = absurd (clash (h refl) refl)
four false true true h k = absurd (clash refl (k refl))
four false true false h k = refl
four false false true h k = refl
four false false false h k = refl

tally_four : (k : ℕ) (p q r s : ℕ → ℕ) → ((i : ℕ) → i < k → p i + q i + r i + s i ≡ 1) → tally p k + tally q k + tally r k + tally s k ≡ k
unfolding tally
tally_four zero p q r s h = refl
tally_four (suc k) p q r s h =
    omega (arith, h 0 (zero-lt-suc k), tally_four k (λ i. p (suc i)) (λ i. q (suc i)) (λ i. r (suc i)) (λ i. s (suc i)) (λ i l. h (suc i) (suc-le-suc l)))

-- of a received number: delivered or held
two_parts : (d r : Bool) → (d ≡ true → r ≡ true) → one d + one (r && not d) ≡ one r
two_parts true true h = refl
two_parts true false h = absurd (clash (h refl) refl)
two_parts false true h = refl
two_parts false false h = refl

-- of a settled number: received or given up
one_each : (r g : Bool) → (r ≡ true → g ≡ false) → or_else r g ≡ true → one r + one g ≡ 1
one_each true true h e = absurd (clash refl (h refl))
one_each true false h e = refl
one_each false true h e = refl
one_each false false h e = absurd (clash e refl)

not_and : (t : Bool) → t && not t ≡ false
not_and true = refl
not_and false = refl

-- ---- what a book says of a missing number

module _ (b : Book) where
  missing_true : (n : ℕ) → b.floor < n → n ≤ b.top → has b n ≡ false → missing_in b n ≡ true
  unfolding missing_in
  missing_true n p q e = simp (lt-ltb _ _ p, le-leb _ _ q, e)

  pub missing_below : (n : ℕ) → n ≤ b.floor → missing_in b n ≡ false
  unfolding missing_in
  missing_below n p = simp (le-ltb _ _ p)

  pub missing_above : (n : ℕ) → b.top < n → missing_in b n ≡ false
  unfolding missing_in
  missing_above n p = simp (lt-leb _ _ p) (and_false (ltb b.floor n))

  missing_had : (n : ℕ) → has b n ≡ true → missing_in b n ≡ false
  unfolding missing_in
  missing_had n e = simp e (ap (ltb b.floor n &&◌) (and_false (leb n b.top)) ∙ and_false (ltb b.floor n))

  pub missing_known : (n : ℕ) → b.floor < n → missing_in b n ≡ leb n b.top && not (has b n)
  unfolding missing_in
  missing_known n q = simp (lt-ltb _ _ q)

-- the next number is missing, where some are: it is not held
pub first_clear : (b : Book) → StateRules b → has b (b.floor + 1) ≡ false
first_clear b r =
    let i : b.floor + 1 - b.floor - 1 ≡ 0 = omega arith in
    has_above b (b.floor + 1) (omega arith) ∙ ap (is_set b.bits) i ∙ ap (λ (d : ℕ). eqb d 1) r.next_not_held

zero_known : (m : ℕ) (h : History) → m ≡ 0 → missing h m ≡ false
unfolding missing
zero_known m h e = let lo : m < 1 = omega arith in simp (lt-leb _ _ lo)

-- ---- a request: its answers on the ledger's own channel

data RequestView (b : Book) : Paper → Type 0 where
  busy : is_pending b.pending ≡ true → RequestView b (refusal 14)
  whole : b.pending ≡ nothing → b.top ≡ b.floor → RequestView b (refusal 15)
  given : b.pending ≡ nothing → (b.top ≡ b.floor → ⊥) → RequestView b (answer 0 ((b.floor + 1) ∷ (b.floor + asked b) ∷ []))

pub nothing_pending : (p : Asked) → is_pending p ≡ false → p ≡ nothing
nothing_pending nothing e = refl
nothing_pending (range x y) e = absurd (clash refl e)

own_view : (b : Book) (channel : ℕ) → RequestView b (answer_at b (Request channel) (own_number b (Request channel)))
unfolding own_number values_of
own_view b channel =
    pick_cases (λ k. RequestView b (answer_at b (Request channel) k)) (is_pending b.pending) 14 (pick (eqb b.top b.floor) 15 0) (λ p. busy p)
    (λ p. pick_cases (λ k. RequestView b (answer_at b (Request channel) k)) (eqb b.top b.floor) 15 0
    (λ q. whole (nothing_pending _ p) (eqb-true _ _ q))
    (λ q. given (nothing_pending _ p) (eqb-false _ _ q)))

request_view : (b : Book) (channel : ℕ) → StateRules b → b.channel ≡ channel → RequestView b (answer_to b (Request channel))
unfolding answer_to
request_view b channel r own =
    let here : elsewhere b (Request channel) ≡ false = ap not (eq-eqb channel b.channel (sym own)) in
    rw (checked_test b (Request channel) r here) (own_view b channel)

-- ---- the sentences

module _ (h : History) (channel : ℕ) (b : Book) (a : Agrees h channel b) where
  pub settled_is : (n : ℕ) → 1 ≤ n → settled h n ≡ has b n
  unfolding settled
  settled_is n p = sym (has_is h channel b a n p)

  -- delivered: received, and up to the floor
  delivered_is : (n : ℕ) → delivered h n ≡ received h n && (leb 1 n && ltb n (1 + b.floor))
  unfolding delivered
  delivered_is n = ap (is_in n) a.handed ∙ in_chosen (received h) n (numbers 1 b.floor) ∙ ap (received h n &&◌) (in_numbers n 1 b.floor)

  delivered_received : (n : ℕ) → delivered h n ≡ true → received h n ≡ true
  delivered_received n e = (both (received h n) _ (sym (delivered_is n) ∙ e)).0

  pub delivered_low : (n : ℕ) → 1 ≤ n → n ≤ b.floor → delivered h n ≡ received h n
  delivered_low n p q = let up : n < 1 + b.floor = omega arith in delivered_is n ∙ simp (le-leb _ _ p, lt-ltb _ _ up) (and_true (received h n))

  pub delivered_high : (n : ℕ) → b.floor < n → delivered h n ≡ false
  delivered_high n p =
      let up : 1 + b.floor ≤ n = omega arith in
      delivered_is n ∙ simp (le-ltb _ _ up) (ap (received h n &&◌) (and_false (leb 1 n)) ∙ and_false (received h n))

  -- up to the floor: each number is settled
  low_settled : (n : ℕ) → 1 ≤ n → n ≤ b.floor → or_else (received h n) (given_up h n) ≡ true
  low_settled n p q = sym (has_is h channel b a n p) ∙ has_below b n q

  pub next_neither : settled h (b.floor + 1) ≡ false
  next_neither = settled_is _ (omega arith) ∙ first_clear b a.rules

  deliveries : Deliveries h b
  deliveries =
      record {
        rising = a.handed;
        delivered_or_given_up = λ n p q. either n p q (received h n) refl;
        never_both = a.never_both;
        next_neither = next_neither;
      }
    where
      either : (n : ℕ) → 1 ≤ n → n ≤ b.floor → (t : Bool) → received h n ≡ t → ((received h n ≡ true) × (delivered h n ≡ true)) ⊎ (given_up h n ≡ true)
      either n p q true e = inl (e, delivered_low n p q ∙ e)
      either n p q false e = inr (sym (ap (λ (t : Bool). or_else t (given_up h n)) e) ∙ low_settled n p q)

  -- a number above 0, told by the history
  missing_is : (n : ℕ) → 1 ≤ n → missing h n ≡ leb n b.top && not (has b n)
  unfolding missing
  missing_is n p = simp (le-leb _ _ p) (ap₂ (λ (t : ℕ) (s : Bool). leb n t && not s) (sym a.top_is) (settled_is n p))

  pub exactly : (n : ℕ) → missing_in b n ≡ missing h n
  exactly n = elim (dec_le n b.floor) [ yes p ↦ missing_below b n p ∙ sym (below n p) | no p ↦ above n (omega arith) ]
    where
      below : (m : ℕ) → m ≤ b.floor → missing h m ≡ false
      below m q = elim (dec_le 1 m) [
        | yes p ↦ missing_is m p ∙ ap (λ (s : Bool). leb m b.top && not s) (has_below b m q) ∙ and_false (leb m b.top)
        | no p ↦ zero_known m h (omega arith)
      ]

      above : (m : ℕ) → b.floor < m → missing_in b m ≡ missing h m
      above m q = missing_known b m q ∙ sym (missing_is m (omega arith))

  missing_numbers : MissingNumbers h b
  missing_numbers = record { top = a.top_is; exactly = exactly }

  -- ---- requests

  -- the places below the first held one are clear, and that one is not
  clear_below : (n : ℕ) → b.floor < n → n - b.floor - 1 < count_trailing_zeros 256 b.bits → has b n ≡ false
  clear_below n p q = has_above b n p ∙ ap (λ (d : ℕ). eqb d 1) (trailing_passed 256 b.bits _ q)

  held_at : (n : ℕ) → b.floor < n → n - b.floor - 1 ≡ count_trailing_zeros 256 b.bits → count_trailing_zeros 256 b.bits < 256 → has b n ≡ true
  held_at n p e q = has_above b n p ∙ ap (λ (i : ℕ). is_set b.bits i) e ∙ ap (λ (d : ℕ). eqb d 1) (trailing_stopped 256 b.bits q)

  -- the count asked for stops short of 200 only before a held number or at the top
  next_not : asked b < 200 → missing_in b (b.floor + asked b + 1) ≡ false
  unfolding asked
  next_not p = elim (dec_lt (asked b) (b.top - b.floor)) [
    | yes q ↦ missing_had b _ (held_at _ (omega arith) (omega arith) (omega arith))
    | no q ↦ missing_above b _ (omega arith)
  ]

  clear_run : (n : ℕ) → b.floor < n → n ≤ b.floor + asked b → has b n ≡ false
  unfolding asked
  clear_run n p q = clear_below n p (omega arith)

  lowest_run : Asks b (asked b) → LowestRun h (b.floor + 1) (b.floor + asked b)
  lowest_run k =
      record {
        not_empty = omega arith;
        all_missing = λ n p q. sym (exactly n) ∙ missing_true b n (omega arith) (omega arith) (clear_run n (omega arith) q);
        lowest = λ n p. sym (exactly n) ∙ missing_below b n (omega arith);
        at_most_200 = omega arith;
        whole_or_cut = elim (dec_lt (asked b) 200) [ yes p ↦ inl (sym (exactly _) ∙ next_not p) | no p ↦ inr (omega arith) ];
      }

  none_missing : b.top ≡ b.floor → (n : ℕ) → missing h n ≡ false
  none_missing e n = sym (exactly n) ∙ elim (dec_le n b.floor) [ yes p ↦ missing_below b n p | no p ↦ missing_above b n (omega arith) ]

  pending_not : is_pending b.pending ≡ true → pending h ≡ nothing → ⊥
  pending_not p q = clash p (ap is_pending (a.pending_is ∙ q))

  range_not : (first last : ℕ) → b.pending ≡ nothing → pending h ≡ range first last → ⊥
  range_not first last p q = clash {b = is_pending (pending h)} (ap is_pending q) (ap is_pending (sym a.pending_is ∙ p))

  given_requests : b.pending ≡ nothing → Asks b (asked b) → Requests h (answer 0 ((b.floor + 1) ∷ (b.floor + asked b) ∷ []))
  given_requests p k =
      let run = lowest_run k in
      record {
        when_due = λ m r. record { first = b.floor + 1; last = b.floor + asked b; request = refl; range_is = run };
        only_when_due = λ e. (record { number = b.floor + 1; is_missing = run.all_missing (b.floor + 1) (omega arith) run.not_empty }, sym a.pending_is ∙ p);
        else_14 = λ first last q. absurd (range_not first last p q);
        else_15 = λ r n. absurd (clash (run.all_missing (b.floor + 1) (omega arith) run.not_empty) (n (b.floor + 1)));
      }

  requests_view : {p : Paper} → RequestView b p → Requests h p
  requests_view (busy p) =
      record {
        when_due = λ m q. absurd (pending_not p q);
        only_when_due = λ e. absurd (clash e refl);
        else_14 = λ first last q. refl;
        else_15 = λ q n. absurd (pending_not p q);
      }
  requests_view (whole p e) =
      record {
        when_due = λ m q. absurd (clash m.is_missing (none_missing e m.number));
        only_when_due = λ e. absurd (clash e refl);
        else_14 = λ first last q. absurd (range_not first last p q);
        else_15 = λ q n. refl;
      }
  requests_view (given p e) = given_requests p (asks b a.rules e)

  requests : Requests h (answer_to b (Request channel))
  requests = requests_view (request_view b channel a.rules a.channel_is)

  -- ---- counts

  -- up to the floor: neither held nor missing
  held_low : (i : ℕ) → i < b.floor → held h (i + 1) ≡ false
  unfolding held
  held_low i q = ap (λ (t : Bool). received h (i + 1) && not t) (delivered_low (i + 1) (omega arith) (omega arith)) ∙ not_and (received h (i + 1))

  missing_low : (i : ℕ) → i < b.floor → missing h (i + 1) ≡ false
  missing_low i q = sym (exactly (i + 1)) ∙ missing_below b (i + 1) (omega arith)

  -- above the floor: held where the place is, missing where it is not
  has_high : (i : ℕ) → has b (b.floor + i + 1) ≡ is_set b.bits i
  has_high i =
      let e : b.floor + i + 1 - b.floor - 1 ≡ i = omega arith in
      has_above b _ (omega arith) ∙ ap (is_set b.bits) e

  held_high : (i : ℕ) → held h (b.floor + i + 1) ≡ is_set b.bits i
  unfolding held
  held_high i =
      ap₂ (λ (x y : Bool). x && not y) (high_has h channel b a (b.floor + i + 1) (omega arith) ∙ has_high i) (delivered_high (b.floor + i + 1) (omega arith))
      ∙ and_true (is_set b.bits i)

  missing_high : (i : ℕ) → i < b.top - b.floor → missing h (b.floor + i + 1) ≡ not (is_set b.bits i)
  missing_high i q =
      let up : b.floor + i + 1 ≤ b.top = omega arith in
      missing_is (b.floor + i + 1) (omega arith) ∙ simp (le-leb _ _ up) (ap not (has_high i))

  abbrev span : ℕ
  span = b.top - b.floor

  low : b.floor ≤ b.top
  low = a.rules.low

  -- the ones of the map, counted one by one
  ones_are : ones b.bits ≡ tally (λ i. one (is_set b.bits i)) span
  ones_are =
      ones_tally span b.bits (bits_top b a.rules)
      ∙ tally_ext span (bit b.bits) (λ i. one (is_set b.bits i)) (λ i q. sym (one_of (bit b.bits i) (bit_lt b.bits i)))

  held_count_lem : count (held h) b.top ≡ ones b.bits
  held_count_lem =
      let x : tally (λ i. one (held h (i + 1))) b.floor ≡ 0 = all_zero b.floor (λ i. one (held h (i + 1))) (λ i q. ap one (held_low i q)) in
      let y : tally (λ i. one (held h (b.floor + i + 1))) span ≡ tally (λ i. one (is_set b.bits i)) span = tally_ext span (λ i. one (held h (b.floor + i + 1))) (λ i. one (is_set b.bits i)) (λ i q. ap one (held_high i)) in
      omega (arith, count_split (held h) b.floor b.top low, ones_are)

  missing_sum : count (missing h) b.top + ones b.bits ≡ span
  missing_sum =
      let x : tally (λ i. one (missing h (i + 1))) b.floor ≡ 0 = all_zero b.floor (λ i. one (missing h (i + 1))) (λ i q. ap one (missing_low i q)) in
      let y : tally (λ i. one (missing h (b.floor + i + 1))) span ≡ tally (λ i. one (not (is_set b.bits i))) span = tally_ext span (λ i. one (missing h (b.floor + i + 1))) (λ i. one (not (is_set b.bits i))) (λ i q. ap one (missing_high i q)) in
      omega (arith, count_split (missing h) b.floor b.top low, ones_are, rest (λ i. is_set b.bits i) span)

  none_above : (n : ℕ) → known_top h < n → settled h n ≡ false
  none_above n q = settled_is n (omega arith) ∙ a.rules.none_above n (omega (arith, a.top_is))

  -- the numbers up to the floor: handed out or given up
  handed_count : length (handed_out h) ≡ count (received h) b.floor
  handed_count = ap length a.handed ∙ count_chosen (received h) b.floor

  delivered_count : count (delivered h) b.top ≡ count (received h) b.floor
  delivered_count = count_low (delivered h) b.floor b.top low delivered_high ∙ count_ext (delivered h) (received h) b.floor delivered_low

  given_count : count (given_up h) b.top ≡ count (given_up h) b.floor
  given_count = count_low (given_up h) b.floor b.top low (high_not h channel b a)

  floor_count : count (received h) b.floor + count (given_up h) b.floor ≡ b.floor
  floor_count =
      count_two (received h) (given_up h) (λ n. true) b.floor (λ n p q. one_each (received h n) (given_up h n) (a.never_both n) (low_settled n p q))
      ∙ count_all (λ n. true) b.floor (λ n p q. refl)

  pub floor_of_lem : floor_of h ≡ b.floor
  unfolding floor_of
  floor_of_lem = ap₂ (λ (x y : ℕ). x + y) handed_count (ap (count (given_up h)) (sym a.top_is) ∙ given_count) ∙ floor_count

  -- the four terms
  missing_neither : (i : ℕ) → i < b.top → missing h (i + 1) ≡ not (or_else (received h (i + 1)) (given_up h (i + 1)))
  missing_neither i q =
      let up : i + 1 ≤ b.top = omega arith in
      missing_is (i + 1) (omega arith) ∙ simp (le-leb _ _ up) (ap not (has_is h channel b a (i + 1) (omega arith)))

  sum : count (delivered h) b.top + count (held h) b.top + count (missing h) b.top + count (given_up h) b.top ≡ b.top
  unfolding count held
  sum =
      tally_four b.top (λ i. one (delivered h (i + 1))) (λ i. one (held h (i + 1))) (λ i. one (missing h (i + 1))) (λ i. one (given_up h (i + 1)))
      (λ i q. ap (λ (m : Bool). one (delivered h (i + 1)) + one (held h (i + 1)) + one m + one (given_up h (i + 1))) (missing_neither i q)
      ∙ four (delivered h (i + 1)) (received h (i + 1)) (given_up h (i + 1)) (delivered_received (i + 1)) (a.never_both (i + 1)))

  -- the ticks taken: delivered or held
  received_count : count (delivered h) b.top + count (held h) b.top ≡ count (received h) b.top
  unfolding held
  received_count = count_two (delivered h) (held h) (received h) b.top (λ n p q. two_parts (delivered h n) (received h n) (delivered_received n))

  -- what the two counts are answered
  held_answer : answer_to b (Ask Held) ≡ answer 0 (ones b.bits ∷ [])
  unfolding answer_to values_of held_count own_number
  held_answer = rw (checked_test b (Ask Held) a.rules refl)

  missing_answer : answer_to b (Ask Missing) ≡ answer 0 ((b.top - b.floor - ones b.bits) ∷ [])
  unfolding answer_to values_of missing_count own_number
  missing_answer = rw (checked_test b (Ask Missing) a.rules refl)

  counts : Counts h b
  counts =
      let t = a.top_is in
      let e : count (held h) (known_top h) ≡ ones b.bits = ap (count (held h)) (sym t) ∙ held_count_lem in
      let m : count (missing h) (known_top h) ≡ count (missing h) b.top = ap (count (missing h)) (sym t) in
      let k : b.top - b.floor - ones b.bits ≡ count (missing h) (known_top h) = omega (arith, missing_sum) in
      record {
        sum = subst (λ (x : ℕ). count (delivered h) x + count (held h) x + count (missing h) x + count (given_up h) x ≡ x) t sum;
        none_above = none_above;
        handed_out_holds = handed_count ∙ sym delivered_count ∙ ap (count (delivered h)) t;
        each_once = a.taken_is ∙ sym received_count ∙ ap (λ (x : ℕ). count (delivered h) x + count (held h) x) t;
        floor_is = sym floor_count ∙ ap₂ (λ (x y : ℕ). x + y) (sym delivered_count ∙ ap (count (delivered h)) t) (sym given_count ∙ ap (count (given_up h)) t);
        held_is = held_answer ∙ ap (λ (x : ℕ). answer 0 (x ∷ [])) (sym e);
        missing_is = missing_answer ∙ ap (λ (x : ℕ). answer 0 (x ∷ [])) k;
      }

  -- ---- what the ledger shows

  shown : Shown h channel b
  shown =
      record {
        channel_is = a.channel_is;
        floor_is = sym floor_of_lem;
        next_not_settled = next_neither;
        top_is = a.top_is;
        pending_is = a.pending_is;
      }

  demand : Demand3 h channel b
  demand =
      record {
        deliveries = deliveries;
        missing_numbers = missing_numbers;
        requests = requests;
        counts = counts;
        shown = shown;
        state_rules = a.rules;
      }

-- For every row of calls on the fresh ledger of a channel that opens, refusals included,
-- demand 3 holds.
pub demand_3 : (channel : ℕ) → channel ≤ 9999 → (calls : Calls) → Demand3 (trace channel calls) channel (after channel calls)
demand_3 channel small calls = demand (trace channel calls) channel (after channel calls) (agrees channel small calls)
