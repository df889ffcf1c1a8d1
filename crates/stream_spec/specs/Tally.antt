-- The counts and the ledger so far: what each reading adds, and the rules.
use Rattle.std.specs.Prelude.{ℕ, ◌+◌, Bool, ◌&&◌, eqb, leb}
use Rattle.ledger_spec.specs.State as Book
use Rattle.ledger_spec.specs.Calls.{fresh}
use Rattle.ledger.specs.State.{book_of, ledger_of}
use Rattle.ledger.specs.declared.Ledger.{Ledger}
use Rattle.record.specs.declared.Record.{Record}
use Rattle.walk_laws.specs.Walk.{Sight}
use Rattle.reading.specs.declared.Seen.{Seen}
use Rattle.reading.specs.Seen.{seen_number}
use Rattle.walk_spec.specs.Walk.{record_by, book_by, accepts, refuses}
use Rattle.stream_spec.specs.declared.Tally.{Tally}

-- before the first reading: a ledger for channel 100
abbrev pub fresh_tally : Tally
fresh_tally = record { frames = 0; refused = 0; ledger = ledger_of (fresh 100) }

-- one reading more, with this answer and this ledger after it
unfoldable pub tally_with : Tally → ℕ → Ledger → Tally
tally_with t reading l = record { frames = t.frames + accepts reading; refused = t.refused + refuses reading; ledger = l }

-- the record of a reading, and the tally after it: those of the walk
unfoldable pub record_at : Tally → Sight Seen → Record
record_at t x = record_by (book_of t.ledger) x

unfoldable pub tally_after : Tally → Sight Seen → Tally
tally_after t x = tally_with t (seen_number x.read) (ledger_of (book_by (book_of t.ledger) x))

-- the ledger is sound and of channel 100
unfoldable pub ledger_right : Ledger → Bool
ledger_right l = eqb l.channel.0 100 && Book.sound_of (book_of l)

-- and no more readings were counted than bytes came before the place
unfoldable pub tally_right : Tally → ℕ → Bool
tally_right t place = leb (t.frames + t.refused) place && ledger_right t.ledger
