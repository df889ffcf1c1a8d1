-- Document 01, "Fault records and the listing": the text of a whole listing, from the bytes of
-- its records.
use Rattle.std.specs.Prelude.{ℕ, zero, suc, ◌+◌, ◌*◌, ◌/◌, List, [], ◌∷◌, ◌++◌, length}
use Rattle.record.specs.declared.Record.{Record}
use Rattle.listing_text.specs.declared.Summary.{Summary}
use Rattle.record.specs.Record.{record_at}
use Rattle.listing_text.specs.Text.{line_of, summary_of}

-- n records from number k on: "Records have 64 bytes", so number k has those from 64 k on
unfoldable pub records_from : ℕ → ℕ → List ℕ → List Record
records_from k zero s = []
records_from k (suc n) s = record_at (64 * k) s ∷ records_from (k + 1) n s

-- all whole records, and "no file header"
unfoldable pub records_in : List ℕ → List Record
records_in s = records_from 0 (length s / 64) s

-- the line of each, in order
unfoldable pub lines_of : List Record → List ℕ
lines_of [] = []
lines_of (r ∷ rs) = line_of r ++ lines_of rs

-- the lines of all whole records
abbrev pub lines_in : List ℕ → List ℕ
lines_in s = lines_of (records_in s)

-- "the whole output": the lines, then the last line
unfoldable pub listing_of : List ℕ → Summary → List ℕ
listing_of s last = lines_in s ++ summary_of last
