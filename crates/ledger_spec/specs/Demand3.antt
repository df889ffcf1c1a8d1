-- Demand 3, sentence by sentence, of a history and the book after it. `demand_3` of
-- proofs/Demand3.antt proves it for every row of calls on the fresh ledger of every channel that
-- opens, and `ran_demand_3` of `ledger` for every such row of the code. Words.antt tells each word
-- (received, givenUp, settled, handedOut, floorOf, knownTop, pending, missing, delivered, held,
-- count) from the calls and their answers alone; only where a sentence speaks of the ledger does
-- the book after the calls stand here.
--
-- "A number is received once its tick is answered 0; it is given up once a reply answered 0 names
-- it so." These are `received` and `given_up` of Words.antt.
use Rattle.std.specs.Prelude.{◌≡◌, ◌⊎◌, Bool, true, false, ◌&&◌, not, [], ◌∷◌, ℕ, ◌+◌, ◌≤◌, ◌<◌, leb, ltb, length}
use Rattle.terms.specs.Paper.{Paper, answer, refusal}
use Rattle.ledger_spec.specs.State.{nothing, range, Book, has, StateRules}
use Rattle.ledger_spec.specs.Calls.{Request, Ask, Missing, Held, answer_to}
use Rattle.ledger_spec.specs.Trace.{History}
use Rattle.ledger_spec.specs.Words.{answered, received, given_up, settled, numbers, chosen, handed_out, known_top, pending, delivered, held, missing, ticks_taken, count, floor_of}

-- "For every sequence of calls on a fresh ledger, refusals included: the numbers handed out rise,
-- each once; every number up to the floor was either received and delivered, or given up, never
-- both; the floor stands just below the first number neither received nor given up"
pub record Deliveries (h : History) (b : Book) : Type 0 where
  pub rising : handed_out h ≡ chosen (received h) (numbers 1 b.floor)
  pub delivered_or_given_up : (n : ℕ) → 1 ≤ n → n ≤ b.floor → ((received h n ≡ true) × (delivered h n ≡ true)) ⊎ (given_up h n ≡ true)
  pub never_both : (n : ℕ) → received h n ≡ true → given_up h n ≡ false
  pub next_neither : settled h (b.floor + 1) ≡ false

-- "The missing are exactly those up to the known top that are neither."
-- For a book, a number is missing where it lies above the floor and not above the top, and
-- is not held.
unfoldable pub missing_in : Book → ℕ → Bool
missing_in b n = ltb b.floor n && (leb n b.top && not (has b n))

pub record MissingNumbers (h : History) (b : Book) : Type 0 where
  pub top : b.top ≡ known_top h
  pub exactly : (n : ℕ) → missing_in b n ≡ missing h n

-- "the lowest unbroken run of missing numbers, cut to its first 200"
pub record LowestRun (h : History) (first last : ℕ) : Type 0 where
  pub not_empty : first ≤ last
  pub all_missing : (n : ℕ) → first ≤ n → n ≤ last → missing h n ≡ true
  pub lowest : (n : ℕ) → n < first → missing h n ≡ false
  pub at_most_200 : last < first + 200
  pub whole_or_cut : (missing h (last + 1) ≡ false) ⊎ (last + 1 ≡ first + 200)

-- "Asked on its own channel, the ledger gives a resend request exactly when one is missing and
-- none is pending"
pub record SomeMissing (h : History) : Type 0 where
  pub number : ℕ
  pub is_missing : missing h number ≡ true

pub record Gives (h : History) (a : Paper) : Type 0 where
  pub first : ℕ
  pub last : ℕ
  pub request : a ≡ answer 0 (first ∷ last ∷ [])
  pub range_is : LowestRun h first last

pub record Requests (h : History) (a : Paper) : Type 0 where
  pub when_due : SomeMissing h → pending h ≡ nothing → Gives h a
  pub only_when_due : answered a 0 ≡ true → SomeMissing h × (pending h ≡ nothing)
  pub else_14 : (first last : ℕ) → pending h ≡ range first last → a ≡ refusal 14
  pub else_15 : pending h ≡ nothing → ((n : ℕ) → missing h n ≡ false) → a ≡ refusal 15

-- "Delivered, held, missing and given up, each counted from the calls, add up to the top."
-- None lies above the top. Counted call by call it is the same: the numbers handed out, and the
-- ticks answered 0. And these counts are those that the ledger gives: its floor, and its answers to
-- the two counts.
pub record Counts (h : History) (b : Book) : Type 0 where
  pub sum : count (delivered h) (known_top h) + count (held h) (known_top h) + count (missing h) (known_top h) + count (given_up h) (known_top h) ≡ known_top h
  pub none_above : (n : ℕ) → known_top h < n → settled h n ≡ false
  pub handed_out_holds : length (handed_out h) ≡ count (delivered h) (known_top h)
  pub each_once : ticks_taken h ≡ count (delivered h) (known_top h) + count (held h) (known_top h)
  pub floor_is : b.floor ≡ count (delivered h) (known_top h) + count (given_up h) (known_top h)
  pub held_is : answer_to b (Ask Held) ≡ answer 0 (count (held h) (known_top h) ∷ [])
  pub missing_is : answer_to b (Ask Missing) ≡ answer 0 (count (missing h) (known_top h) ∷ [])

-- What the ledger shows of itself is told by the calls and their answers: the channel that was
-- opened; the floor, which is how many numbers were handed out or given up, and so just below the
-- first that was neither; the known top; and the pending request, the whole range that was granted.
pub record Shown (h : History) (channel : ℕ) (b : Book) : Type 0 where
  pub channel_is : b.channel ≡ channel
  pub floor_is : b.floor ≡ floor_of h
  pub next_not_settled : settled h (b.floor + 1) ≡ false
  pub top_is : b.top ≡ known_top h
  pub pending_is : b.pending ≡ pending h

-- The demand, what the ledger shows, and that the state rules always hold.
pub record Demand3 (h : History) (channel : ℕ) (b : Book) : Type 0 where
  pub deliveries : Deliveries h b
  pub missing_numbers : MissingNumbers h b
  pub requests : Requests h (answer_to b (Request channel))
  pub counts : Counts h b
  pub shown : Shown h channel b
  pub state_rules : StateRules b
