-- Thirty-two channels in one table, as mathematics: what stands at each place, and the place last
-- asked. Document 02, request 3.
use Rattle.std.specs.Prelude.{Bool, true, false, not, ℕ, zero, suc, ◌+◌, ◌%◌, ◌<◌, ◌≡◌, eqb, ltb}
use Rattle.terms.specs.Paper.{pick}
use Rattle.ledger_spec.specs.State.{Book, StateRules}
use Rattle.ledger_spec.specs.Calls.{is_pending, fresh}

-- a place is free, or has the ledger of an open channel
pub data Place : Type 0 where
  free : Place
  holds : Book → Place

-- the places are 0 to 31. Before any request the place last asked is 31, so that counting begins
-- at the first place
pub record Table : Type 0 where
  pub place : ℕ → Place
  pub last : ℕ

abbrev pub empty : Table
empty = record { place = λ i. free; last = 31 }

-- another thing at one place
abbrev pub put : Table → ℕ → Place → Table
put t i p = record { place = λ j. pick (eqb j i) p (t.place j); last = t.last }

-- ---- the least number below n that is so, or n where none is

unfoldable pub least : (ℕ → Bool) → ℕ → ℕ
least so zero = 0
least so (suc n) = pick (so 0) 0 (suc (least (λ k. so (suc k)) n))

-- ---- what a place is

abbrev pub is_free : Place → Bool
is_free free = true
is_free (holds b) = false

-- open for this channel
abbrev pub is_for : ℕ → Place → Bool
is_for channel free = false
is_for channel (holds b) = eqb b.channel channel

-- open, with something missing: of a sound ledger, exactly where its top stands above its floor
-- (`some_missing` and `none_missing` of proofs/Demand.antt)
abbrev pub misses : Place → Bool
misses free = false
misses (holds b) = not (eqb b.top b.floor)

-- open, with its request pending
abbrev pub waits : Place → Bool
waits free = false
waits (holds b) = is_pending b.pending

abbrev pub book_in : Place → Book
book_in free = fresh 0
book_in (holds b) = b

-- ---- the places that the request names, each 32 where there is none

unfoldable pub place_of : Table → ℕ → ℕ
place_of t channel = least (λ i. is_for channel (t.place i)) 32

-- "Opening takes the lowest free place."
unfoldable pub free_place : Table → ℕ
free_place t = least (λ i. is_free (t.place i)) 32

unfoldable pub pending_place : Table → ℕ
pending_place t = least (λ i. waits (t.place i)) 32

-- the next request goes to the first place with something missing, "counted round from the place
-- after the last one asked": k places on from there
abbrev pub next_place : Table → ℕ
next_place t = t.last + 1

abbrev pub counted : Table → ℕ → ℕ
counted t k = (next_place t + k) % 32

unfoldable pub steps : Table → ℕ
steps t = least (λ k. misses (t.place (counted t k))) 32

abbrev pub turn : Table → ℕ
turn t = counted t (steps t)

abbrev pub is_open : Table → ℕ → Bool
is_open t channel = ltb (place_of t channel) 32

abbrev pub book_of : Table → ℕ → Book
book_of t channel = book_in (t.place (place_of t channel))

-- ---- the state rules: docs/STATES.md tells them

pub record TableRules (t : Table) : Type 0 where
  pub last_in : t.last < 32
  pub sound : (i : ℕ) (b : Book) → t.place i ≡ holds b → StateRules b
  pub within : (i : ℕ) (b : Book) → t.place i ≡ holds b → i < 32
  pub apart : (i j : ℕ) (b d : Book) → t.place i ≡ holds b → t.place j ≡ holds d → b.channel ≡ d.channel → i ≡ j
  pub one_waits : (i j : ℕ) → waits (t.place i) ≡ true → waits (t.place j) ≡ true → i ≡ j
