-- Request 7, sentence by sentence: what a reply of status 4 gives up and names, told from the calls
-- and answers before it; and what becomes of a number given up. proofs/GivenUp.antt proves each for
-- every row of calls on the fresh ledger of every channel that opens.
use Rattle.std.specs.Prelude.{◌≡◌, ◌⊎◌, true, false, [], ◌∷◌, ℕ, ◌+◌, ◌≤◌, ◌<◌}
use Rattle.terms.specs.Paper.{Paper, answer, refusal}
use Rattle.ledger_spec.specs.State.{nothing, range, Book}
use Rattle.ledger_spec.specs.Calls.{Call, Tick, Reply, waiting, answer_to, next_of}
use Rattle.ledger_spec.specs.Trace.{Calls, none, ◌▸◌, after, History}
use Rattle.ledger_spec.specs.Words.{value_at, answered, received, gives_up, given_up, settled, named_by, is_in, pending, delivered, floor_of}

-- the reply that the history's next call is
abbrev pub reply : ℕ → Calls → ℕ → ℕ → Paper
reply channel calls first status = answer_to (after channel calls) (Reply channel first status)

-- status 4 gives up the numbers of the pending range "not received so far", and the
-- answer names them
pub record InRange (h : History) (n : ℕ) : Type 0 where
  pub first : ℕ
  pub last : ℕ
  pub is_pending_holds : pending h ≡ range first last
  pub from : first ≤ n
  pub to : n ≤ last
  pub not_received : received h n ≡ false

-- the floor passes these and the received ones that follow, and the answer names those "apart": the
-- numbers from the old floor + 1 to the new floor, split in two
pub record NamesApart (h next : History) (call : Call) (a : Paper) : Type 0 where
  pub split : (n : ℕ) → floor_of h < n → n ≤ floor_of next → (gives_up call a n ≡ true) ⊎ (is_in n (named_by call a) ≡ true)
  pub no_other : (n : ℕ) → (gives_up call a n ≡ true) ⊎ (is_in n (named_by call a) ≡ true) → (floor_of h < n) × (n ≤ floor_of next)
  pub apart : (n : ℕ) → is_in n (named_by call a) ≡ true → gives_up call a n ≡ false
  pub passed_received : (n : ℕ) → is_in n (named_by call a) ≡ true → received h n ≡ true
  pub passed_anew : (n : ℕ) → is_in n (named_by call a) ≡ true → delivered h n ≡ false

-- after each call the floor is just below the first number "neither received nor given up"
pub record FloorStands (h : History) (b : Book) : Type 0 where
  pub floor_is : b.floor ≡ floor_of h
  pub all_settled : (n : ℕ) → 1 ≤ n → n ≤ b.floor → settled h n ≡ true
  pub next_received_not : received h (b.floor + 1) ≡ false
  pub next_given_not : given_up h (b.floor + 1) ≡ false

-- a late tick of a given-up number is answered 11, and changes nothing
pub record Late (b : Book) (channel n : ℕ) : Type 0 where
  pub answer_11 : answer_to b (Tick channel n) ≡ refusal 11
  pub same : next_of b (Tick channel n) ≡ b

-- status 3 "only clears": a reply that names two empty sets, and changes nothing but the
-- pending request
pub record OnlyClears (b : Book) (a : Paper) (next : Book) : Type 0 where
  pub no_sets : a ≡ answer 0 ((b.floor + 1) ∷ 0 ∷ 0 ∷ [])
  pub cleared : next ≡ waiting b nothing

-- the calls `more`, in their order, behind the calls `calls`
abbrev pub then : Calls → Calls → Calls
then calls none = calls
then calls (more ▸ call) = then calls more ▸ call

-- no asking "for ever": a request granted at any time after the reply names no number of the range
pub record AsksNoMore (h : History) (later : Paper) : Type 0 where
  pub asks_not : (first last n : ℕ) → pending h ≡ range first last → n ≤ last → answered later 0 ≡ true → value_at later 0 ≤ n → ⊥
