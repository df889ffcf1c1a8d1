-- Document 01, "Fault records and the listing": the walk of a closed capture. What it sees is
-- `sights_of` of `walk_laws` over what `reading` shows of a reading; LiteralLaws.antt says that
-- this is the walk as the document tells it. Records, counts and ledger are made of what is seen.
use Rattle.std.specs.Prelude.{ℕ, zero, ◌+◌, ◌/◌, Bool, List, [], ◌∷◌, eqb, leb, length}
use Rattle.terms.specs.Paper.{Paper, answer, pick}
use Rattle.terms.specs.Counters.{tick_of}
use Rattle.octets.specs.Octets.{laid}
use Rattle.ledger_spec.specs.State.{Book}
use Rattle.ledger_spec.specs.Calls.{Call, fresh}
use Rattle.ledger_spec.specs.Trace.{Calls, none, ◌▸◌}
use Rattle.record.specs.declared.Record.{Record}
use Rattle.record.specs.Record.{record_of}
use Rattle.walk_laws.specs.Walk.{Sight, within, sights_of}
use Rattle.walk_laws.specs.Account as Account
use Rattle.walk_laws.specs.Account.{Account}
use Rattle.walk_laws.specs.Frames.{joined, each_of}
use Rattle.terms.specs.declared.TickNumber.{TickNumber}
use Rattle.reading.specs.declared.Seen.{Seen}
use Rattle.reading.specs.Seen.{seen_of, seen_number, says_of}
use Rattle.walk_spec.specs.Offers.{calls_by, offer_of}

-- ---- records and ledger

-- place, MsgType, answer, MsgSeqNum, tick number, channel, BodyLength, floor, top
unfoldable pub made_of : ℕ → Seen → ℕ → TickNumber → TickNumber → Record
made_of place x number floor top =
    record {
      place = place;
      msg_type = x.msg_type;
      answer = number;
      seq = x.seq;
      tick = x.tick;
      channel = x.channel;
      body_len = x.body_len;
      floor = floor;
      top = top;
    }

-- the record of a reading: the ledger's answer, if it was offered, and floor and top as they are
-- then (document 01, Records, paragraph 2)
unfoldable pub record_by : Book → Sight Seen → Record
record_by b x = made_of x.place x.read (offer_of b x.read).number (tick_of (offer_of b x.read).book.floor) (tick_of (offer_of b x.read).book.top)

-- the ledger after it
unfoldable pub book_by : Book → Sight Seen → Book
book_by b x = (offer_of b x.read).book

-- all that a closed capture's walk reads
abbrev pub sights : List ℕ → List (Sight Seen)
sights s = sights_of seen_of says_of (within zero) 0 s

-- the walk's ledger is that of channel 100 (document 01, Records, paragraph 2)
abbrev pub walk_of : List ℕ → Account Book Record
walk_of s = Account.walk_of seen_of says_of record_by book_by (fresh 100) s

-- ---- the ledger calls

abbrev pub added : Calls → List Call → Calls
added calls [] = calls
added calls (call ∷ more) = added (calls ▸ call) more

unfoldable pub calls_from : Calls → List (Sight Seen) → Calls
calls_from calls [] = calls
calls_from calls (x ∷ xs) = calls_from (added calls (calls_by x.read)) xs

-- the calls that a capture's readings make, in their order
unfoldable pub calls_of : List ℕ → Calls
calls_of s = calls_from none (sights s)

-- ---- counts

-- how many readings were answered 0, and how many refused by reading itself (document 01, Records,
-- paragraph 4)
unfoldable pub accepts : ℕ → ℕ
accepts reading = pick (eqb reading 0) 1 0

unfoldable pub refuses : ℕ → ℕ
refuses reading = pick (eqb reading 0) 0 1

unfoldable pub frames_of : List (Sight Seen) → ℕ
frames_of [] = 0
frames_of (x ∷ xs) = accepts (seen_number x.read) + frames_of xs

unfoldable pub refused_of : List (Sight Seen) → ℕ
refused_of [] = 0
refused_of (x ∷ xs) = refuses (seen_number x.read) + refused_of xs

-- ---- what the walk answers and leaves

-- so many bytes of room take all records, of 64 bytes each
unfoldable pub fits_in : List ℕ → ℕ → Bool
fits_in s room = leb (length (walk_of s).records) (room / 64)

-- where not all records fit: 8, nothing written, and the ledger just opened (document 01, Records,
-- paragraph 1)
unfoldable pub walk_answer : List ℕ → ℕ → Paper
walk_answer s room =
    pick (fits_in s room)
    (answer 0 (length (walk_of s).records ∷ frames_of (sights s) ∷ refused_of (sights s) ∷ []))
    (answer 8 (0 ∷ 0 ∷ 0 ∷ []))

unfoldable pub walk_book : List ℕ → ℕ → Book
walk_book s room = pick (fits_in s room) (walk_of s).ledger (fresh 100)

-- the bytes of records, one behind the other
abbrev pub table_of : List Record → List ℕ
table_of rs = joined (each_of record_of rs)

unfoldable pub walk_leaves : List ℕ → List ℕ → List ℕ
walk_leaves s d = pick (fits_in s (length d)) (laid 0 (table_of (walk_of s).records) d) d
