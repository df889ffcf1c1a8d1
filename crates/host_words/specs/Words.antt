-- A ledger as a host keeps it: nine words.
use Rattle.std.specs.Prelude.{ℕ, min, ◌&&◌, List, [], ◌∷◌, eqb, get_or, Option, Some, None}
use Rattle.terms.specs.Paper.{pick}
use Rattle.terms.specs.Counters.{tick_of, channel_of}
use Rattle.ledger_spec.specs.State.{Book}
use Rattle.ledger.specs.declared.Ledger.{Ledger}
use Rattle.ledger.specs.declared.Range.{Range}
use Rattle.ledger.specs.State.{range_of, book_of}

-- THE WORDS: channel, floor, top, the map's four, the pending request's first and last number

-- 0 and 0 where nothing is pending
abbrev pub first_asked : Option Range → ℕ
first_asked None = 0
first_asked (Some r) = r.first.0

abbrev pub last_asked : Option Range → ℕ
last_asked None = 0
last_asked (Some r) = r.last.0

unfoldable pub words_of : Ledger → List ℕ
words_of l =
    l.channel.0 ∷ l.floor.0 ∷ l.top.0
    ∷ get_or l.map.words 0 0 ∷ get_or l.map.words 1 0 ∷ get_or l.map.words 2 0 ∷ get_or l.map.words 3 0
    ∷ first_asked l.pending ∷ last_asked l.pending ∷ []

-- 0 and 0 are no request; 0 and another number are one that breaks the state rules
unfoldable pub pending_in : ℕ → ℕ → Option Range
pending_in first last = pick (eqb first 0 && eqb last 0) None (Some (range_of first last))

-- the ledger that nine words stand for, sound or not; a channel above two bytes stands for 65,535,
-- which breaks the state rules too
unfoldable pub ledger_in : List ℕ → Ledger
ledger_in w =
    record {
      channel = channel_of (min (get_or w 0 0) 65535);
      floor = tick_of (get_or w 1 0);
      top = tick_of (get_or w 2 0);
      map = record { words = get_or w 3 0 ∷ get_or w 4 0 ∷ get_or w 5 0 ∷ get_or w 6 0 ∷ [] };
      pending = pending_in (get_or w 7 0) (get_or w 8 0);
    }

-- nine words with another third one, the top
abbrev pub with_top : List ℕ → ℕ → List ℕ
with_top w top =
    get_or w 0 0 ∷ get_or w 1 0 ∷ top ∷ get_or w 3 0 ∷ get_or w 4 0 ∷ get_or w 5 0 ∷ get_or w 6 0 ∷ get_or w 7 0 ∷ get_or w 8 0 ∷ []

abbrev pub book_in : List ℕ → Book
book_in w = book_of (ledger_in w)
