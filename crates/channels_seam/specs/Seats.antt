-- Request 3, where each channel stands and which place was asked last: words told from a history
-- alone, and that a lent table says the same. proofs/Seats.antt proves it for every row of calls on
-- the empty table.
use Rattle.std.specs.Prelude.{◌≡◌, Bool, true, false, ◌&&◌, ℕ, ◌<◌, eqb}
use Rattle.terms.specs.Paper.{pick}
use Rattle.tick_map.specs.Bits.{is_set}
use Rattle.ledger_spec.specs.Words.{value_at, answered}
use Rattle.channels_spec.specs.Table.{least}
use Rattle.channels_spec.specs.Calls.{Open, Close, Request, To, Told, Renew}
use Rattle.channels_spec.specs.Trace.{History, start, ◌▸◌⇒◌}
use Rattle.channels.specs.declared.Channels.{Channels}
use Rattle.channels_seam.specs.Lent.{is_used, name_at}

-- ======== The words

pub data Seat : Type 0 where
  nobody : Seat
  seated : (channel : ℕ) → Seat

abbrev pub is_empty : Seat → Bool
is_empty nobody = true
is_empty (seated c) = false

abbrev pub has_seat : ℕ → Seat → Bool
has_seat channel nobody = false
has_seat channel (seated c) = eqb c channel

-- "Opening takes the lowest free place", "Closing frees its place", and no other call moves anyone
unfoldable pub seat : History → ℕ → Seat
seat start i = nobody
seat (before ▸ Open c ⇒ a) i = pick (answered a 0 && eqb i (least (λ j. is_empty (seat before j)) 32)) (seated c) (seat before i)
seat (before ▸ Close c ⇒ a) i = pick (answered a 0 && has_seat c (seat before i)) nobody (seat before i)
seat (before ▸ Request ⇒ a) i = seat before i
seat (before ▸ To c said ⇒ a) i = seat before i
seat (before ▸ Told c ⇒ a) i = seat before i
seat (before ▸ Renew ⇒ a) i = seat before i

-- the place last asked: that of the channel to which the last request went; before any, 31, so that
-- counting begins at the first place
unfoldable pub last_place : History → ℕ
last_place start = 31
last_place (before ▸ Open c ⇒ a) = last_place before
last_place (before ▸ Close c ⇒ a) = last_place before
last_place (before ▸ Request ⇒ a) = pick (answered a 0) (least (λ j. has_seat (value_at a 0) (seat before j)) 32) (last_place before)
last_place (before ▸ To c said ⇒ a) = last_place before
last_place (before ▸ Told c ⇒ a) = last_place before
last_place (before ▸ Renew ⇒ a) = last_place before

-- ======== A lent table says the same

abbrev pub SeatAt : Channels → ℕ → Seat → Type 0
SeatAt x i nobody = is_set x.index.used i ≡ false
SeatAt x i (seated c) = is_used x i × (name_at x i ≡ c)

pub record LentSeats (h : History) (x : Channels) : Type 0 where
  pub seats : (i : ℕ) → i < 32 → SeatAt x i (seat h i)
  pub last_is : x.index.last ≡ last_place h
