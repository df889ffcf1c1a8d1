-- Document 01, "Fault records and the listing": a record's line, and the listing's last line.
use Rattle.std.specs.Prelude.{ℕ, List, [], ◌∷◌, ◌++◌, eqb}
use Rattle.terms.specs.Paper.{pick}
use Rattle.terms.specs.Letters.{spelled}
use Rattle.octets.specs.Octets.{bytes_of}
use Rattle.digits.specs.Digits.{shown_of}
use Rattle.record.specs.declared.Record.{Record}
use Rattle.listing_text.specs.declared.Summary.{Summary}
use Rattle.record.specs.Record.{blank}

abbrev pub space : ℕ
space = 32

abbrev pub newline : ℕ
newline = 10

-- a number, and what stands behind it
unfoldable pub column : ℕ → ℕ → List ℕ
column v behind = shown_of v ++ (behind ∷ [])

-- `----` where the type is blank, else its four bytes as they stand
abbrev pub dashes : ℕ
dashes = spelled "----"

abbrev pub type_shown : ℕ → ℕ
type_shown t = pick (eqb t blank) dashes t

unfoldable pub type_column : ℕ → List ℕ
type_column t = bytes_of 4 (type_shown t) ++ (space ∷ [])

-- the first four columns of a line (document 01, Records, paragraph 4)
unfoldable pub first_columns : Record → List ℕ
first_columns r =
    column r.place space
    ++ (type_column r.msg_type
    ++ (column r.answer space
    ++ column r.seq.0 space))

-- the other four
unfoldable pub last_columns : Record → List ℕ
last_columns r =
    column r.channel.0 space
    ++ (column r.tick.0 space
    ++ (column r.floor.0 space
    ++ column r.top.0 newline))

unfoldable pub line_of : Record → List ℕ
line_of r = first_columns r ++ last_columns r

-- the words of the last line, each with a space behind it
abbrev pub frames : List ℕ
frames = 0x66 ∷ 0x72 ∷ 0x61 ∷ 0x6D ∷ 0x65 ∷ 0x73 ∷ space ∷ []

abbrev pub refused : List ℕ
refused = 0x72 ∷ 0x65 ∷ 0x66 ∷ 0x75 ∷ 0x73 ∷ 0x65 ∷ 0x64 ∷ space ∷ []

abbrev pub floor : List ℕ
floor = 0x66 ∷ 0x6C ∷ 0x6F ∷ 0x6F ∷ 0x72 ∷ space ∷ []

abbrev pub top : List ℕ
top = 0x74 ∷ 0x6F ∷ 0x70 ∷ space ∷ []

abbrev pub missing : List ℕ
missing = 0x6D ∷ 0x69 ∷ 0x73 ∷ 0x73 ∷ 0x69 ∷ 0x6E ∷ 0x67 ∷ space ∷ []

-- a number behind its word
unfoldable pub named : List ℕ → ℕ → ℕ → List ℕ
named word v behind = word ++ column v behind

-- `frames F refused R floor FL top T missing M`
unfoldable pub summary_of : Summary → List ℕ
summary_of s =
    named frames s.frames space
    ++ (named refused s.refused space
    ++ (named floor s.floor.0 space
    ++ (named top s.top.0 space
    ++ named missing s.missing newline)))
