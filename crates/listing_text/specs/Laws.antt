-- Records put one behind the other are read as they were put; how long a listing is at most; and
-- document 01's four lines.
use Prim.Native.Nat.{ℕ, zero, suc, ◌+◌, ◌*◌, ◌/◌, ◌^◌, ◌<◌, ◌≤◌}
use Rattle.std.specs.Prelude.{◌≡◌, true, List, [], ◌∷◌, ◌++◌, leb, length, take, drop}
use Rattle.std.proofs.Math.Path.{refl, ap}
use Rattle.std.proofs.Common.{sym, ◌∙◌, append_assoc, arith, drop_at, take_at, rules, le-leb, leb-true}
use Rattle.std.proofs.Math.ListN.{length-append}
use Rattle.octets.specs.Octets.{laid, Bytes}
use Rattle.octets.specs.Numerals.{numeral_below}
use Rattle.octets.specs.Overlays.{laid_same}
use Rattle.octets.specs.Papers.{laid_if_room, laid_there}
use Rattle.walk_laws.specs.Frames.{joined, each_of, each_long}
use Rattle.record.specs.declared.Record.{Record}
use Rattle.listing_text.specs.declared.Summary.{Summary}
use Rattle.record.specs.Record.{record_of, record_at, blank_of}
use Rattle.record.specs.RecordLaws.{length_record}
use Rattle.record.specs.Fields.{Fits}
use Rattle.record.specs.Back.{back}
use Rattle.walk_spec.specs.Walk.{table_of}
use Rattle.listing_text.specs.Lengths.{line_most, summary_most}
use Rattle.record.specs.Examples.{record_a, record_fF, record_b}
use Rattle.listing_text.specs.Listing.{summary, listing}
use Rattle.listing_text.specs.Text.{summary_of}
use Rattle.listing_text.specs.Whole.{records_from, records_in, lines_of, lines_in, listing_of}

-- each record's numbers fit their widths
pub data AllFit : List Record → Type 0 where
  all_none : AllFit []
  all_more : {r : Record} {rs : List Record} → Fits r → AllFit rs → AllFit (r ∷ rs)

-- RECORDS ONE BEHIND THE OTHER

pub length_table : (rs : List Record) → length (table_of rs) ≡ 64 * length rs
length_table = each_long record_of 64 length_record

-- a record behind other bytes is read from its place on
record_behind : (at : ℕ) (p c : List ℕ) (r : Record) → length p ≡ at → Fits r → record_at at (p ++ (record_of r ++ c)) ≡ r
record_behind at p c r l f =
    let long : at + 64 ≤ length (p ++ (record_of r ++ c)) = simp length-append (omega (arith, length_record r)) in
    let stands : take 64 (drop at (p ++ (record_of r ++ c))) ≡ record_of r = rw (drop_at p (record_of r ++ c) at l) (take_at (record_of r) c 64 (length_record r)) in
    let same : laid_if_room at (record_of r) (p ++ (record_of r ++ c)) ≡ p ++ (record_of r ++ c) =
    laid_there at 64 (record_of r) (p ++ (record_of r ++ c)) (length_record r) (le-leb (at + 64) (length (p ++ (record_of r ++ c))) long)
    ∙ ap (λ (b : List ℕ). laid at b (p ++ (record_of r ++ c))) (sym stands)
    ∙ laid_same at 64 (p ++ (record_of r ++ c)) long in
    ap (record_at at) (sym same) ∙ back at r (p ++ (record_of r ++ c)) f long

from_back : (k : ℕ) (p : List ℕ) (rs : List Record) → length p ≡ 64 * k → AllFit rs → records_from k (length rs) (p ++ table_of rs) ≡ rs
unfolding records_from joined each_of
from_back k p [] l all_none = refl
from_back k p (r ∷ rs) l (all_more f g) =
    let n : length (p ++ record_of r) ≡ 64 * (k + 1) = simp length-append (omega (arith, length_record r)) in
    rw (record_behind (64 * k) p (table_of rs) r l f)
    (ap (λ (s : List ℕ). r ∷ records_from (k + 1) (length rs) s) (sym (append_assoc p (record_of r) (table_of rs)))
    ∙ ap (λ (x : List Record). r ∷ x) (from_back (k + 1) (p ++ record_of r) rs n g))

-- READ AS THEY WERE PUT, none passed over
pub records_back : (rs : List Record) → AllFit rs → records_in (table_of rs) ≡ rs
unfolding records_in
records_back rs f =
    let n : length (table_of rs) / 64 ≡ length rs = omega (arith, length_table rs) in
    rw n (from_back 0 [] rs refl f)

-- so a listing has the line of each record, in order, and then the last line
pub listing_table : (rs : List Record) (last : Summary) → AllFit rs → listing_of (table_of rs) last ≡ lines_of rs ++ summary_of last
unfolding listing_of
listing_table rs last f = rw (records_back rs f)

-- no record, as of an empty capture: the last line alone
pub listing_empty : (last : Summary) → listing_of [] last ≡ summary_of last
unfolding listing_of records_in records_from lines_of
listing_empty last = refl

-- HOW LONG

-- the numbers of the last line, as the code's are by their types
pub record LastFits (s : Summary) : Type 0 where
  pub frames : s.frames < 256 ^ 8
  pub refused : s.refused < 256 ^ 8
  pub floor : s.floor.0 < 256 ^ 8
  pub top : s.top.0 < 256 ^ 8
  pub missing : s.missing < 256 ^ 8

-- k records make at most 127 k bytes of lines
pub lines_most : (rs : List Record) → AllFit rs → length (lines_of rs) ≤ 127 * length rs
unfolding lines_of
lines_most [] all_none = omega arith
lines_most (r ∷ rs) (all_more f g) = simp length-append (omega (arith, line_most r f, lines_most rs g))

-- the numbers of a record that is read fit their widths
module _ (s : List ℕ) (b : Bytes s) where
  record_fits : (at : ℕ) → Fits (record_at at s)
  unfolding record_at
  record_fits at =
      record {
        place = numeral_below 256 8 at s b;
        msg_type_holds = numeral_below 256 4 (at + 8) s b;
        answer = numeral_below 256 4 (at + 12) s b;
        seq = numeral_below 256 8 (at + 16) s b;
        tick = numeral_below 256 8 (at + 24) s b;
        channel = numeral_below 256 2 (at + 32) s b;
        body_len = numeral_below 256 4 (at + 36) s b;
        floor = numeral_below 256 8 (at + 40) s b;
        top = numeral_below 256 8 (at + 48) s b;
      }

  from_fit : (k n : ℕ) → AllFit (records_from k n s)
  unfolding records_from
  from_fit k zero = all_none
  from_fit k (suc n) = all_more (record_fits (64 * k)) (from_fit (k + 1) n)

  from_many : (k n : ℕ) → length (records_from k n s) ≡ n
  unfolding records_from
  from_many k zero = refl
  from_many k (suc n) = ap suc (from_many (k + 1) n)

  -- so their lines have at most 127 k bytes
  pub lines_in_most : length (lines_in s) ≤ 127 * (length s / 64)
  unfolding records_in
  lines_in_most = omega (arith, lines_most (records_from 0 (length s / 64) s) (from_fit 0 (length s / 64)), from_many 0 (length s / 64))

  -- where there is room for so many, and for m bytes more, the lines fit with these
  pub roomy_fits : (m room : ℕ) → leb (127 * (length s / 64) + m) room ≡ true → leb (length (lines_in s) + m) room ≡ true
  roomy_fits m room h = le-leb (length (lines_in s) + m) room (omega (arith, lines_in_most, leb-true (127 * (length s / 64) + m) room h))

  -- and the whole listing of k records at most 127 k + 138
  pub listing_most : (last : Summary) → LastFits last → length (listing_of s last) ≤ 127 * (length s / 64) + 138
  unfolding listing_of
  listing_most last f =
      simp length-append
      (omega (arith, lines_in_most, summary_most last f.frames f.refused f.floor f.top f.missing))

-- DOCUMENT 01'S EXAMPLE: the records of A, FF and B, and what the ledger says in the end. "the
-- whole output is:"
pub four_lines : listing_of (table_of (record_a ∷ record_fF ∷ record_b ∷ [])) summary
    -- 0 S003 0 1 0 0 0 0
    ≡ 0x30 ∷ 0x20 ∷ 0x53 ∷ 0x30 ∷ 0x30 ∷ 0x33 ∷ 0x20 ∷ 0x30 ∷ 0x20 ∷ 0x31 ∷ 0x20 ∷ 0x30 ∷ 0x20 ∷ 0x30 ∷ 0x20 ∷ 0x30 ∷ 0x20 ∷ 0x30 ∷ 0x0A
    -- 28 ---- 2 0 0 0 0 0
    ∷ 0x32 ∷ 0x38 ∷ 0x20 ∷ 0x2D ∷ 0x2D ∷ 0x2D ∷ 0x2D ∷ 0x20 ∷ 0x32 ∷ 0x20 ∷ 0x30 ∷ 0x20 ∷ 0x30 ∷ 0x20 ∷ 0x30 ∷ 0x20 ∷ 0x30 ∷ 0x20 ∷ 0x30 ∷ 0x0A
    -- 29 P001 0 2 100 3 0 3
    ∷ 0x32 ∷ 0x39 ∷ 0x20 ∷ 0x50 ∷ 0x30 ∷ 0x30 ∷ 0x31 ∷ 0x20 ∷ 0x30 ∷ 0x20 ∷ 0x32 ∷ 0x20 ∷ 0x31 ∷ 0x30 ∷ 0x30 ∷ 0x20 ∷ 0x33 ∷ 0x20 ∷ 0x30 ∷ 0x20 ∷ 0x33 ∷ 0x0A
    -- frames 2 refused 1 floor 0 top 3 missing 3
    ∷ 0x66 ∷ 0x72 ∷ 0x61 ∷ 0x6D ∷ 0x65 ∷ 0x73 ∷ 0x20 ∷ 0x32 ∷ 0x20 ∷ 0x72 ∷ 0x65 ∷ 0x66 ∷ 0x75 ∷ 0x73 ∷ 0x65 ∷ 0x64 ∷ 0x20 ∷ 0x31 ∷ 0x20 ∷ 0x66 ∷ 0x6C ∷ 0x6F ∷ 0x6F ∷ 0x72 ∷ 0x20 ∷ 0x30 ∷ 0x20 ∷ 0x74 ∷ 0x6F ∷ 0x70 ∷ 0x20 ∷ 0x33 ∷ 0x20 ∷ 0x6D ∷ 0x69 ∷ 0x73 ∷ 0x73 ∷ 0x69 ∷ 0x6E ∷ 0x67 ∷ 0x20 ∷ 0x33 ∷ 0x0A ∷ []
unfolding lines_of blank_of
four_lines =
    listing_table (record_a ∷ record_fF ∷ record_b ∷ []) summary (all_more (search rules) (all_more (search rules) (all_more (search rules) all_none)))
    ∙ rw (listing.line_1, listing.line_2, listing.line_3, listing.line_4)
