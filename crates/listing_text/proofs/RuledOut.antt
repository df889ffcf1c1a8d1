-- For each public function: wrong answers that its promise rules out, as tables of what is given
-- and what is then wrong. Assumes nothing.
use Prim.Native.Nat.{ℕ}
use mathlib.Core.Path.{refl}
use mathlib.Core.List.{List, [], ◌∷◌, ◌++◌}
use lib.ListN.{length, replicate}
use Rattle.terms.specs.Paper.{answer, refusal}
use Rattle.terms.specs.Counters.{tick_of}
use Rattle.terms.specs.RuledOut.{Row, ◌never◌, ◌only◌, Kept, RulesOut, ruled, Left, left, lefts, left_is}
use Rattle.octets.specs.Octets.{digits_of, laid, numeral}
use Rattle.octets.specs.Papers.{written_paper, room_for, laid_if_room}
use Rattle.digits.specs.Digits.{decimal_of, width_in}
use Rattle.record.specs.declared.Record.{Record}
use Rattle.record.specs.Record.{blank_of, first_half, second_half, record_of, record_at}
use Rattle.record.specs.Examples.{record_fF, record_a, record_b}
use Rattle.listing_text.specs.declared.Summary.{Summary}
use Rattle.listing_text.specs.Text.{column, type_column, first_columns, last_columns, line_of, named, summary_of}
use Rattle.listing_text.proofs.put_line.Reads as put-line
use Rattle.listing_text.proofs.put_line.Kinds as put-line-kinds
use Rattle.listing_text.proofs.put_summary.Reads as put-summary
use Rattle.listing_text.proofs.put_summary.Kinds as put-summary-kinds
use Rattle.listing_text.specs.Whole.{records_from, records_in, lines_of, lines_in, listing_of}
use Rattle.listing_text.proofs.put_lines.Reads as put-lines
use Rattle.listing_text.proofs.put_lines.Kinds as put-lines-kinds
use Rattle.listing_text.proofs.put_listing.Reads as put-listing
use Rattle.listing_text.proofs.put_listing.Kinds as put-listing-kinds

-- A LINE: a buffer, a place and a record. Document 01's line of the byte FF is
-- "28 ---- 2 0 0 0 0 0".
abbrev pub put_line_wrong : List (Row (List ℕ × (ℕ × Record)) Left)
put_line_wrong =
    (replicate 20 7, (0, record_fF)) only left (answer 0 (20 ∷ [])) (0x32 ∷ 0x38 ∷ 0x20 ∷ 0x2D ∷ 0x2D ∷ 0x2D ∷ 0x2D ∷ 0x20 ∷ 0x32 ∷ 0x20 ∷ 0x30 ∷ 0x20 ∷ 0x30 ∷ 0x20 ∷ 0x30 ∷ 0x20 ∷ 0x30 ∷ 0x20 ∷ 0x30 ∷ 0x0A ∷ [])  -- dashes where the type is blank
    ∷ (replicate 22 7, (0, record_b)) only left (answer 0 (22 ∷ [])) (0x32 ∷ 0x39 ∷ 0x20 ∷ 0x50 ∷ 0x30 ∷ 0x30 ∷ 0x31 ∷ 0x20 ∷ 0x30 ∷ 0x20 ∷ 0x32 ∷ 0x20 ∷ 0x31 ∷ 0x30 ∷ 0x30 ∷ 0x20 ∷ 0x33 ∷ 0x20 ∷ 0x30 ∷ 0x20 ∷ 0x33 ∷ 0x0A ∷ [])  -- "29 P001 0 2 100 3 0 3": no two columns swapped
    ∷ (replicate 19 7, (0, record_fF)) only left (refusal 8) (replicate 19 7)
    ∷ []

pub put_line_rules_out : RulesOut (Kept _ put-line-kinds.ps put-line-kinds.r put-line.Post) (λ c. (c.args.0.now, (c.args.1.0, c.args.1.1.0))) (λ c. left (written_paper c.result) c.exit.0.now) put_line_wrong
unfolding digits_of laid room_for laid_if_room decimal_of width_in blank_of column type_column first_columns last_columns line_of
put_line_rules_out =
    ruled lefts (λ (i : List ℕ × (ℕ × Record)). left (room_for i.1.0 (length (line_of i.1.1)) (length i.0)) (laid_if_room i.1.0 (line_of i.1.1) i.0)) (λ c p. left_is p) _ refl

-- THE LAST LINE: "frames 2 refused 1 floor 0 top 3 missing 3"
abbrev sums : Summary
sums = record { frames = 2; refused = 1; floor = tick_of 0; top = tick_of 3; missing = 3 }

abbrev pub put_summary_wrong : List (Row (List ℕ × (ℕ × Summary)) Left)
put_summary_wrong =
    (replicate 43 7, (0, sums)) only left (answer 0 (43 ∷ []))
    (0x66 ∷ 0x72 ∷ 0x61 ∷ 0x6D ∷ 0x65 ∷ 0x73 ∷ 0x20 ∷ 0x32 ∷ 0x20 ∷ 0x72 ∷ 0x65 ∷ 0x66 ∷ 0x75 ∷ 0x73 ∷ 0x65 ∷ 0x64 ∷ 0x20 ∷ 0x31 ∷ 0x20 ∷ 0x66 ∷ 0x6C ∷ 0x6F ∷ 0x6F ∷ 0x72 ∷ 0x20 ∷ 0x30 ∷ 0x20 ∷ 0x74 ∷ 0x6F ∷ 0x70 ∷ 0x20 ∷ 0x33 ∷ 0x20 ∷ 0x6D ∷ 0x69 ∷ 0x73 ∷ 0x73 ∷ 0x69 ∷ 0x6E ∷ 0x67 ∷ 0x20 ∷ 0x33 ∷ 0x0A ∷ [])
    ∷ (replicate 42 7, (0, sums)) only left (refusal 8) (replicate 42 7)
    ∷ []

pub put_summary_rules_out : RulesOut (Kept _ put-summary-kinds.ps put-summary-kinds.r put-summary.Post) (λ c. (c.args.0.now, (c.args.1.0, c.args.1.1.0))) (λ c. left (written_paper c.result) c.exit.0.now) put_summary_wrong
unfolding digits_of laid room_for laid_if_room decimal_of width_in column named summary_of
put_summary_rules_out =
    ruled lefts (λ (i : List ℕ × (ℕ × Summary)). left (room_for i.1.0 (length (summary_of i.1.1)) (length i.0)) (laid_if_room i.1.0 (summary_of i.1.1) i.0)) (λ c p. left_is p) _ refl

-- a buffer and the bytes of records; the answer, and the buffer then. The lines of A and of FF have
-- 19 and 20 bytes.
abbrev pub put_lines_wrong : List (Row (List ℕ × List ℕ) Left)
put_lines_wrong =
    (replicate 40 7, record_of record_a ++ record_of record_fF) only left (answer 0 (39 ∷ [])) (line_of record_a ++ (line_of record_fF ++ (7 ∷ [])))  -- a last line laid too
    ∷ (replicate 39 7, record_of record_a ++ record_of record_fF) never left (refusal 8) (replicate 39 7)  -- room kept for a last line
    ∷ (replicate 38 7, record_of record_a ++ record_of record_fF) only left (refusal 8) (replicate 38 7)  -- the first line laid beside 8
    ∷ ([], replicate 63 7) only left (answer 0 (0 ∷ [])) []  -- a record cut short given a line
    ∷ []

pub put_lines_rules_out : RulesOut (Kept _ put-lines-kinds.ps put-lines-kinds.r put-lines.Post) (λ c. (c.args.0.now, c.args.1.0.now)) (λ c. left (written_paper c.result) c.exit.0.now) put_lines_wrong
unfolding numeral digits_of laid room_for laid_if_room decimal_of width_in first_half second_half record_of record_at blank_of column type_column first_columns last_columns line_of records_from records_in lines_of
put_lines_rules_out = ruled lefts (λ (i : List ℕ × List ℕ). left (room_for 0 (length (lines_in i.1)) (length i.0)) (laid_if_room 0 (lines_in i.1) i.0)) (λ c p. left_is p) _ refl

-- the numbers of the last line, which has 43 bytes then; the lines of A and of FF have 19 and 20
abbrev few : Summary
few = record { frames = 1; refused = 1; floor = tick_of 0; top = tick_of 0; missing = 0 }

-- a buffer, the bytes of records, and the numbers of the last line; the answer, and the buffer then
abbrev pub put_listing_wrong : List (Row (List ℕ × (List ℕ × Summary)) Left)
put_listing_wrong =
    (replicate 83 7, (record_of record_a ++ record_of record_fF, few)) never left (answer 0 (82 ∷ [])) (line_of record_fF ++ (line_of record_a ++ (summary_of few ++ (7 ∷ []))))  -- the last record first
    ∷ (replicate 83 7, (record_of record_a ++ record_of record_fF, few)) never left (answer 0 (43 ∷ [])) (summary_of few ++ replicate 40 7)  -- the records left out
    ∷ (replicate 83 7, (record_of record_a ++ record_of record_fF, few)) only left (answer 0 (82 ∷ [])) (line_of record_a ++ (line_of record_fF ++ (summary_of few ++ (7 ∷ []))))
    ∷ (replicate 81 7, (record_of record_a ++ record_of record_fF, few)) only left (refusal 8) (replicate 81 7)  -- nothing laid beside 8
    ∷ []

pub put_listing_rules_out : RulesOut (Kept _ put-listing-kinds.ps put-listing-kinds.r put-listing.Post) (λ c. (c.args.0.now, (c.args.1.0.now, c.args.1.1.0))) (λ c. left (written_paper c.result) c.exit.0.now) put_listing_wrong
unfolding numeral digits_of laid room_for laid_if_room decimal_of width_in first_half second_half record_of record_at blank_of column type_column first_columns last_columns line_of named summary_of records_from records_in lines_of listing_of
put_listing_rules_out =
    ruled lefts (λ (i : List ℕ × (List ℕ × Summary)). left (room_for 0 (length (listing_of i.1.0 i.1.1)) (length i.0)) (laid_if_room 0 (listing_of i.1.0 i.1.1) i.0)) (λ c p. left_is p) _ refl
