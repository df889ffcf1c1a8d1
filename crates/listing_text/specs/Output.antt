-- Document 01, "Fault records and the listing": what the program prints for an input.
use Rattle.std.specs.Prelude.{ℕ, List, [], ◌∷◌, leb, length}
use Rattle.terms.specs.Paper.{pick}
use Rattle.listing_text.specs.Listed.{listed_of}

-- `capture over 65536 bytes`, and a newline
abbrev pub over : List ℕ
over =
    0x63 ∷ 0x61 ∷ 0x70 ∷ 0x74 ∷ 0x75 ∷ 0x72 ∷ 0x65 ∷ 0x20 ∷ 0x6F ∷ 0x76 ∷ 0x65 ∷ 0x72 ∷ 0x20
    ∷ 0x36 ∷ 0x35 ∷ 0x35 ∷ 0x33 ∷ 0x36 ∷ 0x20 ∷ 0x62 ∷ 0x79 ∷ 0x74 ∷ 0x65 ∷ 0x73 ∷ 0x0A ∷ []

-- the listing of an input, or one line for more than 65,536 bytes (document 01, Records,
-- paragraph 2)
unfoldable pub output_of : List ℕ → List ℕ
output_of s = pick (leb (length s) 65536) (listed_of s) over
