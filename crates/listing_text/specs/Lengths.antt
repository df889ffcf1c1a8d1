-- How many bytes a line has, and at most.
use Rattle.std.specs.Prelude.{ℕ, ◌+◌, ◌<◌, ◌≤◌, ◌^◌, ◌≡◌, length}
use Rattle.std.proofs.Common.{arith, length-append}
use Rattle.octets.specs.Numerals.{length_digits}
use Rattle.digits.specs.Digits.{width_of}
use Rattle.digits.specs.Laws.{length_decimal}
use Rattle.record.specs.declared.Record.{Record}
use Rattle.listing_text.specs.declared.Summary.{Summary}
use Rattle.listing_text.specs.Columns.{few_digits}
use Rattle.record.specs.Fields.{Fits}
use Rattle.listing_text.specs.Text.{column, type_column, first_columns, last_columns, line_of, named, summary_of}

pub length_column : (v behind : ℕ) → length (column v behind) ≡ width_of v + 1
unfolding column
length_column v behind = simp (length-append, length_decimal)

-- the digits of 64 bits, of 32, and of 16
most_64 : (v : ℕ) → v < 256 ^ 8 → width_of v ≤ 20
most_64 v h = few_digits 20 v (omega arith) (omega arith) (omega arith)

most_32 : (v : ℕ) → v < 256 ^ 4 → width_of v ≤ 10
most_32 v h = few_digits 10 v (omega arith) (omega arith) (omega arith)

most_16 : (v : ℕ) → v < 256 ^ 2 → width_of v ≤ 5
most_16 v h = few_digits 5 v (omega arith) (omega arith) (omega arith)

pub length_type : (t : ℕ) → length (type_column t) ≡ 5
unfolding type_column
length_type t = simp (length-append, length_digits)

-- A RECORD'S LINE

module _ (r : Record) where
  pub line_length : length (line_of r) ≡ 12 + width_of r.place + width_of r.answer + width_of r.seq.0 + width_of r.channel.0 + width_of r.tick.0 + width_of r.floor.0 + width_of r.top.0
  unfolding line_of first_columns last_columns
  line_length = simp (length-append, length_type, length_column) (omega arith)

  pub line_most : Fits r → length (line_of r) ≤ 127
  line_most f =
      omega (arith, line_length, most_64 r.place f.place, most_32 r.answer f.answer, most_64 r.seq.0 f.seq, most_16 r.channel.0 f.channel, most_64 r.tick.0 f.tick, most_64 r.floor.0 f.floor, most_64 r.top.0 f.top)

-- THE LAST LINE

module _ (s : Summary) where
  pub summary_length : length (summary_of s) ≡ 38 + width_of s.frames + width_of s.refused + width_of s.floor.0 + width_of s.top.0 + width_of s.missing
  unfolding summary_of named
  summary_length = simp (length-append, length_column) (omega arith)

  pub summary_most : s.frames < 256 ^ 8 → s.refused < 256 ^ 8 → s.floor.0 < 256 ^ 8 → s.top.0 < 256 ^ 8 → s.missing < 256 ^ 8 → length (summary_of s) ≤ 138
  summary_most a b c d e =
      omega (arith, summary_length, most_64 s.frames a, most_64 s.refused b, most_64 s.floor.0 c, most_64 s.top.0 d, most_64 s.missing e)
