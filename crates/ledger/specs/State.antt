-- How the code keeps a book: `book_of` and `ledger_of`. A number's place in the map is its
-- remainder by 256, so that the map is read round from the place of floor + 1, and laid back so;
-- `place_is` of proofs/SameMap.antt says it of each number. A reply's two sets have the same form:
-- `laid_from` below, `reply_paper` of Papers.antt, `sets_in` and `settled_row` of `host_ledger`
-- read them so too.
use Rattle.terms.specs.Counters.{tick_of, channel_of}
use Rattle.std.specs.Prelude.{ℕ, ◌+◌, max, eqb, Option, Some, None}
use Rattle.terms.specs.Paper.{pick}
use Rattle.tick_map.specs.Bits.{bits_in, map_of}
use Rattle.terms.specs.declared.TickNumber.{TickNumber}
use Rattle.tick_map.specs.declared.Map.{Map}
use Rattle.tick_map.specs.Ring.{rotated, laid}
use Rattle.ledger_spec.specs.State.{Asked, nothing, range, Book}
use Rattle.ledger_spec.specs.Calls.{Call, offered, number_to, done}
use Rattle.ledger.specs.declared.Ledger.{Ledger}
use Rattle.ledger.specs.declared.Range.{Range}

abbrev pub range_of : ℕ → ℕ → Range
range_of first last = record { first = tick_of first; last = tick_of last }

abbrev pub asked_of : Option Range → Asked
asked_of None = nothing
asked_of (Some r) = range r.first.0 r.last.0

abbrev pub pending_of : Asked → Option Range
pending_of nothing = None
pending_of (range first last) = Some (range_of first last)

unfoldable pub book_of : Ledger → Book
book_of l =
    record {
      channel = l.channel.0;
      floor = l.floor.0;
      top = l.top.0;
      bits = rotated (l.floor.0 + 1) (bits_in l.map);
      pending = asked_of l.pending;
    }

unfoldable pub ledger_of : Book → Ledger
ledger_of b =
    record {
      channel = channel_of b.channel;
      floor = tick_of b.floor;
      top = tick_of b.top;
      map = map_of (laid (b.floor + 1) b.bits);
      pending = pending_of b.pending;
    }

-- ---- the ledger beside an answer

-- the ledger with another top
abbrev pub topped : Ledger → ℕ → Ledger
topped l n = record { channel = l.channel; floor = l.floor; top = tick_of n; map = l.map; pending = l.pending }

-- and the ledger with nothing pending
abbrev pub cleared : Ledger → Ledger
cleared l = record { channel = l.channel; floor = l.floor; top = l.top; map = l.map; pending = None }

-- however a ledger keeps a book: a call that is done gives the ledger of its book. A refused one
-- gives back the very ledger, sound or not, save that 12 gives it with its top raised.
unfoldable pub next_by : (Ledger → Book) → (Book → Ledger) → Ledger → Call → Ledger
next_by read keep l call =
    pick (eqb (number_to (read l) call) 0) (keep (done (read l) call))
    (pick (eqb (number_to (read l) call) 12) (topped l (max l.top.0 (offered call))) l)

abbrev pub next_in : Ledger → Call → Ledger
next_in l call = next_by book_of ledger_of l call

-- a set of numbers beside an answer, read round from `first` and laid back: the map itself, where
-- it is made of four words
abbrev pub laid_from : TickNumber → Map → Map
laid_from first m = map_of (laid first.0 (rotated first.0 (bits_in m)))
