-- The wrong programs that document 01 names, each with a row that rules it out: an input, and an
-- outcome that the promise does not allow there, or the one that it allows alone. A row holds of
-- the promise itself. It is taken from the crate's table, `NAME-rules-out` in proofs/RuledOut.antt,
-- so that none can be lost there unseen. Each program is also tried as an edit of the code, in
-- must-fail/ of its crate.
use Rattle.std.specs.Prelude.{ℕ, ◌^◌, List, [], ◌∷◌, ◌++◌, replicate}
use Rattle.terms.specs.Paper.{Paper, answer}
use Rattle.terms.specs.Letters.{spelled}
use Rattle.terms.specs.Counters.{tick_of, channel_of}
use Rattle.terms.specs.RuledOut.{Row, ◌never◌, ◌only◌, Holds, AllHold, also, RulesOut, left}
use Rattle.frame_spec.specs.Examples.{frame_a, frame_b, A, ending, four, logon, resend}
use Rattle.tick_map.specs.Bits.{bits_in, map_of}
use Rattle.ledger_spec.specs.State.{Asked, nothing, range}
use Rattle.ledger_spec.specs.Calls.{Tick, Reply, Ask, Missing}
use Rattle.ledger.specs.State.{pending_of}
use Rattle.ledger.specs.Papers.{pending_paper}
use Rattle.ledger.specs.declared.Ledger.{Ledger}
use Rattle.record.specs.Record.{record_of, blank_of}
use Rattle.record.specs.Examples.{record_b}
use Rattle.frame.proofs.RuledOut as frame
use Rattle.scrub.proofs.RuledOut as scrub
use Rattle.ledger.proofs.RuledOut as ledger
use Rattle.walk.proofs.RuledOut as walk
use Rattle.walk_step.proofs.RuledOut as walk_step
use Rattle.reading.proofs.RuledOut as reading

-- a row stands in a table: it is the first, or comes later
data Stands {R : Type 0} (row : R) : List R → Type 0 where
  first : {rows : List R} → Stands row (row ∷ rows)
  later : {other : R} {rows : List R} → Stands row rows → Stands row (other ∷ rows)

module _ {C I O : Type 0} {kept : C → Type 0} {sees : C → I} {shows : C → O} where
  -- the row holds of the promise that this table is of
  abbrev RuledBy : {rows : List (Row I O)} → RulesOut kept sees shows rows → Row I O → Type 0
  RuledBy table row = Holds kept sees shows row

  found : {row : Row I O} {rows : List (Row I O)} → AllHold kept sees shows rows → Stands row rows → Holds kept sees shows row
  found (also h hs) first = h
  found (also h hs) (later s) = found hs s
  found Rattle.terms.specs.RuledOut.none s = elim s [ ]

  by : {row : Row I O} {rows : List (Row I O)} (table : RulesOut kept sees shows rows) → Stands row rows → RuledBy table row
  by table s = found table.each s

-- HOW THE PROMISES ARE JUDGED

-- what A reads as
abbrev read_a : Paper
read_a = answer 0 (spelled "S003" ∷ 20260121093000000 ∷ 1 ∷ 0 ∷ [])

-- a reader that refuses everything: A is read, as A
refuses_everything : RuledBy frame.read_at_rules_out ((A, 0) only read_a)
refuses_everything = by frame.read_at_rules_out first

-- a fixed message for every frame: B is not read as A
fixed_message : RuledBy frame.read_at_rules_out ((frame_b, 0) never read_a)
fixed_message = by frame.read_at_rules_out (later first)

-- a search that answers "none": after a stray byte A is found
search_nothing : RuledBy frame.search_rules_out ((0xFF ∷ A, 0) never answer 0 [])
search_nothing = by frame.search_rules_out first

-- a scrubber that does nothing: a logon is not left as it was
paints_nothing : RuledBy scrub.scrub_rules_out (logon 0x41 0x42 30 never left (answer 0 (102 ∷ [])) (logon 0x41 0x42 30))
paints_nothing = by scrub.scrub_rules_out first

-- a ledger of channel 100: floor, top, the places held as one number, the pending range; and what
-- is seen of it
abbrev book : ℕ → ℕ → ℕ → Asked → Ledger
book floor top places pending = record { channel = channel_of 100; floor = tick_of floor; top = tick_of top; map = map_of places; pending = pending_of pending }

abbrev seen : ℕ → ℕ → ℕ → Asked → List ℕ
seen floor top places pending = 100 ∷ floor ∷ top ∷ bits_in (map_of places) ∷ (pending_paper (pending_of pending)).values

-- a ledger that serves the first tick and only nods later: tick 2 after tick 1 is delivered, and
-- the floor passes it
nods_later : RuledBy ledger.Ledger-tick-rules-out ((book 1 1 0 nothing, Tick 100 2) only (answer 0 (2 ∷ 1 ∷ []), seen 2 2 0 nothing))
nods_later = by ledger.Ledger-tick-rules-out (later (later (later first)))

-- a ledger that invents its missing count: with 3 announced and none received, 3 are missing
missing_invented : RuledBy ledger.Ledger-missing-rules-out ((book 0 3 0 nothing, Ask Missing) only (answer 0 (3 ∷ []), seen 0 3 0 nothing))
missing_invented = by ledger.Ledger-missing-rules-out (later first)

-- WHAT WE HAVE BEEN BURNT BY

-- only the low byte of CheckSum compared: A that ends 0000018E is not read as A
low_byte : RuledBy frame.read_at_rules_out ((ending 1 0x8E, 0) never read_a)
low_byte = by frame.read_at_rules_out (later (later first))

-- a resent range marked as received because the reply says so: numbers 1 to 3 are asked for, and
-- after the reply the floor stands where it stood
marks_received : RuledBy ledger.Ledger-reply-rules-out ((book 0 3 0 (range 1 3), Reply 100 1 1) only (answer 0 (1 ∷ 0 ∷ 0 ∷ []), seen 0 3 0 nothing))
marks_received = by ledger.Ledger-reply-rules-out (later first)

-- steps by a damaged BodyLength, 41 in A: the next reading is at B, not 69 bytes on; and a walk has
-- a record of B
abbrev damaged : List ℕ
damaged = frame_a (four 0 41) (four 0 0x8E) ++ (0xFF ∷ frame_b)

steps_by_length : RuledBy walk_step.onward_rules_out ((damaged, (0, 0)) only 29)
steps_by_length = by walk_step.onward_rules_out (later first)

walks_by_length : RuledBy walk.walk_rules_out ((damaged, replicate 128 7) only (answer 0 (2 ∷ 1 ∷ 1 ∷ []), (100 ∷ 0 ∷ 3 ∷ 0 ∷ [], record_of (blank_of 0 4 0 0) ++ record_of record_b)))
walks_by_length = by walk.walk_rules_out (later (later (later (later (later first)))))

-- a refused frame's first bytes in its record: what is seen of it has four spaces for a type
copies_refused : RuledBy reading.see_rules_out ((0xFF ∷ resend 1 0x41, 0) only (2 ∷ spelled "    " ∷ 0 ∷ 0 ∷ 0 ∷ 0 ∷ 0 ∷ 0 ∷ []))
copies_refused = by reading.see_rules_out (later (later first))

-- map places used up for good: with 2 held, tick 1 takes the floor past both, and no place is held
places_used_up : RuledBy ledger.Ledger-tick-rules-out ((book 0 2 (2 ^ 2) nothing, Tick 100 1) only (answer 0 (1 ∷ 2 ∷ []), seen 2 2 0 nothing))
places_used_up = by ledger.Ledger-tick-rules-out (later (later (later (later (later (later (later (later first))))))))
