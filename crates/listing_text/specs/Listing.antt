-- What a line shows of a type; and document 01's listing of the 69 bytes, whole.
use Rattle.std.specs.Prelude.{ℕ, ◌≡◌, refl, List, [], ◌∷◌, ◌++◌}
use Rattle.std.proofs.Common.{ne_eqb}
use Rattle.terms.specs.Counters.{session_of, tick_of, channel_of}
use Rattle.terms.specs.Letters.{spelled}
use Rattle.octets.specs.Octets.{digits_of, bytes_of}
use Rattle.digits.specs.Digits.{decimal_of, width_in}
use Rattle.record.specs.declared.Record.{Record}
use Rattle.listing_text.specs.declared.Summary.{Summary}
use Rattle.record.specs.Record.{blank, blank_of}
use Rattle.record.specs.Examples.{record_a, record_fF, record_b}
use Rattle.listing_text.specs.Text.{space, column, type_column, first_columns, last_columns, line_of, named, summary_of}

-- the line of a type so shown
abbrev pub shown_as : Record → List ℕ → List ℕ
shown_as r letters = (column r.place space ++ (letters ++ (column r.answer space ++ column r.seq.0 space))) ++ last_columns r

-- a blank type shows as `----`, any other as its four bytes
pub line_type_blank : (r : Record) → r.msg_type ≡ blank → line_of r ≡ shown_as r (0x2D ∷ 0x2D ∷ 0x2D ∷ 0x2D ∷ 0x20 ∷ [])
unfolding line_of first_columns type_column digits_of
line_type_blank r e = rw e

pub line_type_shown : (r : Record) → (r.msg_type ≡ blank → ⊥) → line_of r ≡ shown_as r (bytes_of 4 r.msg_type ++ (0x20 ∷ []))
unfolding line_of first_columns type_column
line_type_shown r n = rw (ne_eqb r.msg_type blank n)

-- what the ledger says in the end
abbrev pub summary : Summary
summary = record { frames = 2; refused = 1; floor = tick_of 0; top = tick_of 3; missing = 3 }

-- "the whole output is:"
pub record Listing : Type 0 where
  -- 0 S003 0 1 0 0 0 0
  pub line_1 : line_of record_a ≡ 0x30 ∷ 0x20 ∷ 0x53 ∷ 0x30 ∷ 0x30 ∷ 0x33 ∷ 0x20 ∷ 0x30 ∷ 0x20 ∷ 0x31 ∷ 0x20 ∷ 0x30 ∷ 0x20 ∷ 0x30 ∷ 0x20 ∷ 0x30 ∷ 0x20 ∷ 0x30 ∷ 0x0A ∷ []
  -- 28 ---- 2 0 0 0 0 0
  pub line_2 : line_of record_fF ≡ 0x32 ∷ 0x38 ∷ 0x20 ∷ 0x2D ∷ 0x2D ∷ 0x2D ∷ 0x2D ∷ 0x20 ∷ 0x32 ∷ 0x20 ∷ 0x30 ∷ 0x20 ∷ 0x30 ∷ 0x20 ∷ 0x30 ∷ 0x20 ∷ 0x30 ∷ 0x20 ∷ 0x30 ∷ 0x0A ∷ []
  -- 29 P001 0 2 100 3 0 3
  pub line_3 : line_of record_b ≡ 0x32 ∷ 0x39 ∷ 0x20 ∷ 0x50 ∷ 0x30 ∷ 0x30 ∷ 0x31 ∷ 0x20 ∷ 0x30 ∷ 0x20 ∷ 0x32 ∷ 0x20 ∷ 0x31 ∷ 0x30 ∷ 0x30 ∷ 0x20 ∷ 0x33 ∷ 0x20 ∷ 0x30 ∷ 0x20 ∷ 0x33 ∷ 0x0A ∷ []
  -- frames 2 refused 1 floor 0 top 3 missing 3
  pub line_4 : summary_of summary ≡ 0x66 ∷ 0x72 ∷ 0x61 ∷ 0x6D ∷ 0x65 ∷ 0x73 ∷ 0x20 ∷ 0x32 ∷ 0x20 ∷ 0x72 ∷ 0x65 ∷ 0x66 ∷ 0x75 ∷ 0x73 ∷ 0x65 ∷ 0x64 ∷ 0x20 ∷ 0x31 ∷ 0x20 ∷ 0x66 ∷ 0x6C ∷ 0x6F ∷ 0x6F ∷ 0x72 ∷ 0x20 ∷ 0x30 ∷ 0x20 ∷ 0x74 ∷ 0x6F ∷ 0x70 ∷ 0x20 ∷ 0x33 ∷ 0x20 ∷ 0x6D ∷ 0x69 ∷ 0x73 ∷ 0x73 ∷ 0x69 ∷ 0x6E ∷ 0x67 ∷ 0x20 ∷ 0x33 ∷ 0x0A ∷ []

pub listing : Listing
unfolding line_of first_columns last_columns summary_of type_column column named blank_of decimal_of digits_of width_in
listing = record { line_1 = refl; line_2 = refl; line_3 = refl; line_4 = refl }

-- In document 01's lines some numbers are equal. A record and a last line whose numbers all differ
-- tell each column from every other.
abbrev pub record_c : Record
record_c =
    record {
      place = 1;
      msg_type = spelled "M201";
      answer = 2;
      seq = session_of 3;
      tick = tick_of 5;
      channel = channel_of 4;
      body_len = 6;
      floor = tick_of 7;
      top = tick_of 8;
    }

abbrev pub summary_c : Summary
summary_c = record { frames = 1; refused = 2; floor = tick_of 3; top = tick_of 4; missing = 5 }

pub record ToldApart : Type 0 where
  -- 1 M201 2 3 4 5 7 8
  pub line : line_of record_c ≡ 0x31 ∷ 0x20 ∷ 0x4D ∷ 0x32 ∷ 0x30 ∷ 0x31 ∷ 0x20 ∷ 0x32 ∷ 0x20 ∷ 0x33 ∷ 0x20 ∷ 0x34 ∷ 0x20 ∷ 0x35 ∷ 0x20 ∷ 0x37 ∷ 0x20 ∷ 0x38 ∷ 0x0A ∷ []
  -- frames 1 refused 2 floor 3 top 4 missing 5
  pub last_line_holds : summary_of summary_c ≡ 0x66 ∷ 0x72 ∷ 0x61 ∷ 0x6D ∷ 0x65 ∷ 0x73 ∷ 0x20 ∷ 0x31 ∷ 0x20 ∷ 0x72 ∷ 0x65 ∷ 0x66 ∷ 0x75 ∷ 0x73 ∷ 0x65 ∷ 0x64 ∷ 0x20 ∷ 0x32 ∷ 0x20 ∷ 0x66 ∷ 0x6C ∷ 0x6F ∷ 0x6F ∷ 0x72 ∷ 0x20 ∷ 0x33 ∷ 0x20 ∷ 0x74 ∷ 0x6F ∷ 0x70 ∷ 0x20 ∷ 0x34 ∷ 0x20 ∷ 0x6D ∷ 0x69 ∷ 0x73 ∷ 0x73 ∷ 0x69 ∷ 0x6E ∷ 0x67 ∷ 0x20 ∷ 0x35 ∷ 0x0A ∷ []

pub told_apart : ToldApart
unfolding line_of first_columns last_columns summary_of type_column column named decimal_of digits_of width_in
told_apart = record { line = refl; last_line_holds = refl }
