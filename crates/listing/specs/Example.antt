-- Document 01's 69 bytes A, FF, B, from the bytes to "the whole output"; no bytes; and too many.
use Rattle.std.specs.Prelude.{ℕ, ◌≤◌, ◌<◌, ◌≡◌, refl, List, [], ◌∷◌, ◌++◌, length, replicate}
use Rattle.std.proofs.Common.{arith, le-leb}
use Rattle.std.specs.Int.Count.{ones}
use Rattle.std.proofs.lemmas.List.{length-replicate}
use Rattle.std.proofs.lemmas.Bool.{lt-leb}
use Rattle.octets.specs.Octets.{numeral, digits_of, sum8, sum_of}
use Rattle.calendar.specs.Calendar.{leap, days_in, real_parts, real_time}
use Rattle.rules.specs.Table.{kind_of, suits, measure_of}
use Rattle.rules.specs.Fields.{p001_ok, fields_ok, judge_of}
use Rattle.frame_spec.specs.Frame.{checked, read_of}
use Rattle.frame_spec.specs.Search.{first_of, search_of}
use Rattle.frame_spec.specs.Examples.{start_of_a, frame_a, frame_b}
use Rattle.digits.specs.Digits.{decimal_of, width_in}
use Rattle.ledger_spec.specs.State.{nothing, range_rules, map_rules, sound_of}
use Rattle.ledger_spec.specs.Calls.{own_number, checked_of, number_to, raised, done, missing_count, values_of, answer_to, next_of, fresh}
use Rattle.record.specs.Record.{blank_of}
use Rattle.record.specs.Examples.{record_a, record_fF, record_b}
use Rattle.listing_text.specs.Listing.{listing}
use Rattle.listing_text.specs.Text.{column, named, summary_of}
use Rattle.walk_spec.specs.Literal.{walk_from, literal_walk}
use Rattle.listing_text.specs.Whole.{lines_of}
use Rattle.listing_text.specs.Listed.{listed_of}
use Rattle.listing_text.specs.Output.{over, output_of}

unfoldable pub capture : List ℕ
capture = frame_a (0 ∷ 0 ∷ 0 ∷ 0 ∷ []) (0 ∷ 0 ∷ 0 ∷ 0x8E ∷ []) ++ (0xFF ∷ frame_b)

-- three readings, two of them frames; the announcement raises the top to 3
walked : literal_walk capture ≡ record { records = record_a ∷ record_fF ∷ record_b ∷ []; frames = 2; refused = 1; ledger = record { channel = 100; floor = 0; top = 3; bits = 0; pending = nothing } }
unfolding capture literal_walk walk_from frame_a start_of_a frame_b checked read_of first_of search_of numeral digits_of sum8 sum_of kind_of suits measure_of p001_ok fields_ok real_time real_parts days_in leap judge_of range_rules map_rules sound_of own_number checked_of number_to raised done next_of fresh blank_of
walked = refl

-- "the whole output is:"
pub whole_output : output_of capture
    -- 0 S003 0 1 0 0 0 0
    ≡ 0x30 ∷ 0x20 ∷ 0x53 ∷ 0x30 ∷ 0x30 ∷ 0x33 ∷ 0x20 ∷ 0x30 ∷ 0x20 ∷ 0x31 ∷ 0x20 ∷ 0x30 ∷ 0x20 ∷ 0x30 ∷ 0x20 ∷ 0x30 ∷ 0x20 ∷ 0x30 ∷ 0x0A
    -- 28 ---- 2 0 0 0 0 0
    ∷ 0x32 ∷ 0x38 ∷ 0x20 ∷ 0x2D ∷ 0x2D ∷ 0x2D ∷ 0x2D ∷ 0x20 ∷ 0x32 ∷ 0x20 ∷ 0x30 ∷ 0x20 ∷ 0x30 ∷ 0x20 ∷ 0x30 ∷ 0x20 ∷ 0x30 ∷ 0x20 ∷ 0x30 ∷ 0x0A
    -- 29 P001 0 2 100 3 0 3
    ∷ 0x32 ∷ 0x39 ∷ 0x20 ∷ 0x50 ∷ 0x30 ∷ 0x30 ∷ 0x31 ∷ 0x20 ∷ 0x30 ∷ 0x20 ∷ 0x32 ∷ 0x20 ∷ 0x31 ∷ 0x30 ∷ 0x30 ∷ 0x20 ∷ 0x33 ∷ 0x20 ∷ 0x30 ∷ 0x20 ∷ 0x33 ∷ 0x0A
    -- frames 2 refused 1 floor 0 top 3 missing 3
    ∷ 0x66 ∷ 0x72 ∷ 0x61 ∷ 0x6D ∷ 0x65 ∷ 0x73 ∷ 0x20 ∷ 0x32 ∷ 0x20 ∷ 0x72 ∷ 0x65 ∷ 0x66 ∷ 0x75 ∷ 0x73 ∷ 0x65 ∷ 0x64 ∷ 0x20 ∷ 0x31 ∷ 0x20 ∷ 0x66 ∷ 0x6C ∷ 0x6F ∷ 0x6F ∷ 0x72 ∷ 0x20 ∷ 0x30 ∷ 0x20 ∷ 0x74 ∷ 0x6F ∷ 0x70 ∷ 0x20 ∷ 0x33 ∷ 0x20 ∷ 0x6D ∷ 0x69 ∷ 0x73 ∷ 0x73 ∷ 0x69 ∷ 0x6E ∷ 0x67 ∷ 0x20 ∷ 0x33 ∷ 0x0A ∷ []
unfolding capture frame_a start_of_a frame_b output_of listed_of lines_of answer_to number_to checked_of own_number sound_of map_rules range_rules values_of missing_count ones
whole_output = rw (walked, listing.line_1, listing.line_2, listing.line_3, listing.line_4)

-- nothing on standard input: the last line alone
pub no_input : output_of []
    -- frames 0 refused 0 floor 0 top 0 missing 0
    ≡ 0x66 ∷ 0x72 ∷ 0x61 ∷ 0x6D ∷ 0x65 ∷ 0x73 ∷ 0x20 ∷ 0x30 ∷ 0x20 ∷ 0x72 ∷ 0x65 ∷ 0x66 ∷ 0x75 ∷ 0x73 ∷ 0x65 ∷ 0x64 ∷ 0x20 ∷ 0x30 ∷ 0x20 ∷ 0x66 ∷ 0x6C ∷ 0x6F ∷ 0x6F ∷ 0x72 ∷ 0x20 ∷ 0x30 ∷ 0x20 ∷ 0x74 ∷ 0x6F ∷ 0x70 ∷ 0x20 ∷ 0x30 ∷ 0x20 ∷ 0x6D ∷ 0x69 ∷ 0x73 ∷ 0x73 ∷ 0x69 ∷ 0x6E ∷ 0x67 ∷ 0x20 ∷ 0x30 ∷ 0x0A ∷ []
unfolding output_of listed_of lines_of literal_walk walk_from fresh answer_to number_to checked_of own_number sound_of map_rules range_rules values_of missing_count ones summary_of named column decimal_of digits_of width_in
no_input = refl

-- "at most 65,536 bytes": so many are listed, and of one more or of any other number above it the
-- one line is printed
pub all_listed : (s : List ℕ) → length s ≤ 65536 → output_of s ≡ listed_of s
unfolding output_of
all_listed s l = simp (le-leb (length s) 65536 l)

pub none_listed : (s : List ℕ) → 65536 < length s → output_of s ≡ over
unfolding output_of
none_listed s l = simp (lt-leb (length s) 65536 l)

pub one_too_many : (b : ℕ) → output_of (replicate 65537 b) ≡ over
one_too_many b = none_listed (replicate 65537 b) (omega (arith, length-replicate 65537 b))
