-- A table as the code keeps it, names, index and rows, that stands for a table of `channels_spec`;
-- and what a caller sees of a call on it.
use Rattle.std.specs.Prelude.{◌≡◌, true, false, List, [], ◌∷◌, ℕ, ◌^◌, ◌<◌, eqb, length, get_or}
use Rattle.terms.specs.Paper.{Paper, answer, pick}
use Rattle.tick_map.specs.Bits.{is_set}
use Rattle.ledger_spec.specs.State.{Book}
use Rattle.host_ledger.specs.Called.{settled_by}
use Rattle.channels_spec.specs.Table.{Place, free, holds, Table, misses, pending_place, TableRules}
use Rattle.channels_spec.specs.Calls.{Call, Open, Close, Request, To, Told, Renew, Tick, Announce, Reply, Between}
use Rattle.channels_spec.specs.Trace.{History, start, ◌▸◌⇒◌}
use Rattle.channels.specs.declared.Channels.{Channels}
use Rattle.channels.specs.declared.ChannelCall.{ChannelCall}
use Rattle.channels.specs.declared.ChannelTold.{ChannelTold}
use Rattle.channels.specs.Answered.{row_of, blank, status_in}
use Rattle.channels.specs.Serves.{row_at, empty_channels, Serves}

-- ======== The table as it is kept

-- a free place has a blank row, and 0 beside it
pub record FreeAt (x : Channels) (i : ℕ) : Type 0 where
  pub unused : is_set x.index.used i ≡ false
  pub whole : is_set x.index.lacking i ≡ false
  pub name_is : get_or x.names.channels i 0 ≡ 0
  pub row_is : row_at x i ≡ blank

-- an open one has the nine words of its ledger, and its channel beside them
pub record HeldAt (x : Channels) (i : ℕ) (b : Book) : Type 0 where
  pub used_is : is_set x.index.used i ≡ true
  pub lacks_is : is_set x.index.lacking i ≡ misses (holds b)
  pub name_is : get_or x.names.channels i 0 ≡ b.channel
  pub row_is : row_at x i ≡ row_of b

abbrev pub PlaceAt : Channels → ℕ → Place → Type 0
PlaceAt x i free = FreeAt x i
PlaceAt x i (holds b) = HeldAt x i b

pub record Kept (x : Channels) (t : Table) : Type 0 where
  pub rules : TableRules t
  pub rows_33 : length x.rows ≡ 33
  pub names_33 : length x.names.channels ≡ 33
  pub used_low : x.index.used < 2 ^ 32
  pub lacking_low : x.index.lacking < 2 ^ 32
  pub last_is : x.index.last ≡ t.last
  pub asked_is : x.index.asked ≡ pending_place t
  pub each : (i : ℕ) → i < 32 → PlaceAt x i (t.place i)

-- ======== A call by its numbers

-- the call that its numbers stand for; a code above 7 only tells
abbrev pub call_of : ChannelCall → Call
call_of c =
    pick (eqb c.code 0) (Open c.channel)
    (pick (eqb c.code 1) (Close c.channel)
    (pick (eqb c.code 2) (To c.channel (Tick c.number))
    (pick (eqb c.code 3) (To c.channel (Announce c.number))
    (pick (eqb c.code 4) Request
    (pick (eqb c.code 5) (To c.channel (Reply c.number (status_in c.second)))
    (pick (eqb c.code 6) (To c.channel (Between c.number c.second))
    (pick (eqb c.code 7) Renew
    (Told c.channel))))))))

-- ======== What the caller sees: the answer, and as many values as that call tells beside 0

abbrev pub values : ChannelTold → ℕ → ℕ
values told i = get_or told.values i 0

abbrev pub beside0 : ChannelTold → List ℕ → Paper
beside0 told vs = answer told.answer (pick (eqb told.answer 0) vs [])

-- a reply's two sets are told as nine words, and read from them as `rk_settled` does
unfoldable pub seen : Call → ChannelTold → Paper
seen (Open c) told = answer told.answer []
seen (Close c) told = answer told.answer []
seen Request told = beside0 told (values told 0 ∷ values told 1 ∷ values told 2 ∷ [])
seen (To c (Tick n)) told = beside0 told (values told 0 ∷ values told 1 ∷ [])
seen (To c (Announce n)) told = answer told.answer []
seen (To c (Reply first status)) told = settled_by told.answer told.values
seen (To c (Between a z)) told = answer told.answer (values told 0 ∷ [])
seen (Told c) told = beside0 told (values told 0 ∷ values told 1 ∷ values told 2 ∷ values told 3 ∷ values told 4 ∷ values told 5 ∷ [])
seen Renew told = answer told.answer []

-- ======== A row of calls on the empty table, refusals among them: the history that the caller has
-- seen, and the lent table that he finds after it. Nothing is asked of a call but its promise

pub data LentRan : History → Channels → Type 0 where
  opening : LentRan start empty_channels
  one_more : {h : History} {was is : Channels} {told : ChannelTold} (call : ChannelCall) → LentRan h was → Serves was call told is
      → LentRan (h ▸ call_of call ⇒ seen (call_of call) told) is
