-- Request 9: the map that does not move beside the one that did. Which numbers each holds, read
-- from its four words.
use Rattle.std.specs.Prelude.{◌≡◌, Bool, ◌&&◌, ℕ, ◌+◌, ◌-◌, ◌/◌, ◌%◌, leb, ltb, get_or}
use Rattle.tick_map.specs.Bits.{is_set}
use Rattle.ledger_spec.specs.Trace.{Calls, History}
use Rattle.ledger.specs.Trace.{OldRan}
use Rattle.ledger.specs.declared.Ledger.{Ledger}

-- place p of the map: bit p % 64 of word p / 64, the low bit and the low word first
abbrev pub place_set : Ledger → ℕ → Bool
place_set l p = is_set (get_or l.map.words (p / 64) 0) (p % 64)

-- the numbers that a map has places for: floor + 1 to floor + 256
abbrev pub within : Ledger → ℕ → Bool
within l n = ltb l.floor.0 n && leb n (l.floor.0 + 256)

-- the numbers held: a number's place is "its remainder by 256"
unfoldable pub held_now : Ledger → ℕ → Bool
held_now l n = within l n && place_set l (n % 256)

-- and in the map of before request 9: the place was the distance from floor + 1
unfoldable pub held_old : Ledger → ℕ → Bool
held_old l n = within l n && place_set l (n - l.floor.0 - 1)

-- "the same set of numbers": a ledger now and one with the old map that differ in nothing but
-- the places
pub record SameHeld (now old : Ledger) : Type 0 where
  pub channel_same : now.channel ≡ old.channel
  pub floor_same : now.floor ≡ old.floor
  pub top_same : now.top ≡ old.top
  pub pending_same : now.pending ≡ old.pending
  pub held_same : (n : ℕ) → held_now now n ≡ held_old old n

-- the row of calls runs with the old map
pub record OldRuns (channel : ℕ) (calls : Calls) : Type 0 where
  pub ledger : Ledger
  pub history : History
  pub ran : OldRan channel calls ledger history
