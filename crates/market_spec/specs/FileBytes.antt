-- CR 10: the values of a whole file as bytes, what taking them out of a file answers, and what
-- writing a file from them answers.
-- First MDTime, MDUpdateType and MktStatus; then for each line its type, 401 to 406 in two bytes,
-- and the values of its columns.
use Rattle.std.specs.Prelude.{ℕ, zero, suc, ◌+◌, ◌≡◌, refl, List, [], ◌∷◌, ◌++◌, leb, ltb, eqb, length, get_or, drop}
use Rattle.terms.specs.Paper.{Paper, pick}
use Rattle.octets.specs.Octets.{be, bytes_of, laid}
use Rattle.market_columns.specs.Columns.{Column, N, C, columns, md401, md404, md405, md406}
use Rattle.market_columns.specs.Values.{Value, Fixed, Number, Text}
use Rattle.market_spec.specs.File.{fault, fine, and_then, layout_of, fault_of}
use Rattle.market_spec.specs.LinesValues.{Line}
use Rattle.market_spec.specs.Sound.{Values, text_in, sign_in, units_in, file_of, values_of}
use Rattle.market_spec.specs.ValueBytes.{row_bytes, taken_line, taken_fault}
use Rattle.market_spec.specs.TakenBack.{sizes_of}

-- a type's number, and the type of a number; 0 for none
abbrev pub type_number : ℕ → ℕ
type_number t = pick (eqb t 1) 401 (pick (eqb t 2) 404 (pick (eqb t 3) 405 406))

abbrev pub type_of : ℕ → ℕ
type_of n = pick (eqb n 401) 1 (pick (eqb n 404) 2 (pick (eqb n 405) 3 (pick (eqb n 406) 4 0)))

-- the header's columns that have a value: MDTime, MDUpdateType, MktStatus
abbrev pub own : List Column
own = C 21 ∷ N 1 0 ∷ C 8 ∷ []

abbrev pub own_values : Values → List Value
own_values v = Text v.time ∷ Number v.sign v.update ∷ Text v.status ∷ []

abbrev pub line_bytes : Line → List ℕ
line_bytes l = bytes_of 2 (type_number l.kind) ++ row_bytes l.values

unfoldable pub lines_bytes : List Line → List ℕ
lines_bytes [] = []
lines_bytes (l ∷ ls) = line_bytes l ++ lines_bytes ls

unfoldable pub values_bytes : Values → List ℕ
values_bytes v = row_bytes (own_values v) ++ lines_bytes v.lines

-- TAKING VALUES OUT: as the check answers, then 8 where they have no room; and how many bytes they
-- are
unfoldable pub values_answer : ℕ → List ℕ → Paper
values_answer room s =
    and_then (fault_of s) (λ (k : ℕ).
    pick (ltb room (length (values_bytes (values_of s)))) (fault 8 0) (fine (length (values_bytes (values_of s)))))

-- what stands in a buffer then: only 0 changes it
abbrev pub laid_if0 : Paper → List ℕ → List ℕ → List ℕ
laid_if0 p x d = pick (eqb p.number 0) (laid 0 x d) d

-- WRITING

-- the lines' values from the place p on: 40 cut short, 42 a type, 43 a value that does not fit
unfoldable pub lines_taken : ℕ → ℕ → List ℕ → Paper
lines_taken zero p s = fault 40 (length s)
lines_taken (suc f) p s =
    pick (leb (length s) p) (fine 0)
    (pick (ltb (length s) (p + 2)) (fault 40 (length s))
    (pick (eqb (type_of (be 2 p s)) 0) (fault 42 p)
    (and_then (taken_fault (layout_of (type_of (be 2 p s))) (p + 2) s) (λ (e : ℕ). lines_taken f e s))))

unfoldable pub values_taken : List ℕ → Paper
values_taken s = and_then (taken_fault own 0 s) (λ (e : ℕ). lines_taken (length s + 1) e s)

-- what they say
unfoldable pub lines_given : ℕ → ℕ → List ℕ → List Line
lines_given zero p s = []
lines_given (suc f) p s =
    pick (leb (length s) p) []
    (record { kind = type_of (be 2 p s); values = taken_line (layout_of (type_of (be 2 p s))) (drop (p + 2) s) }
    ∷ lines_given f (p + 2 + sizes_of (layout_of (type_of (be 2 p s)))) s)

abbrev pub own_of : List Value → List Line → Values
own_of hs ls = record { time = text_in (get_or hs 0 Fixed); sign = sign_in (get_or hs 1 Fixed); update = units_in (get_or hs 1 Fixed); status = text_in (get_or hs 2 Fixed); lines = ls }

unfoldable pub values_given : List ℕ → Values
values_given s = own_of (taken_line own s) (lines_given (length s + 1) 38 s)

-- the values' own faults, then 47 for a file above 65,536 bytes, then 8; and how long the file is
unfoldable pub written_answer : ℕ → List ℕ → Paper
written_answer room s =
    and_then (values_taken s) (λ (e : ℕ).
    pick (ltb 65536 (length (file_of (values_given s)))) (fault 47 0)
    (pick (ltb room (length (file_of (values_given s)))) (fault 8 0)
    (fine (length (file_of (values_given s))))))

-- SIZES, computed: 38, and with the type's two bytes 173, 109, 103 and 121
pub record SizesAre : Type 0 where
  pub own_rows : columns 6 9 ≡ own
  pub own_size : sizes_of own ≡ 38
  pub md401_size : 2 + sizes_of md401 ≡ 173
  pub md404_size : 2 + sizes_of md404 ≡ 109
  pub md405_size : 2 + sizes_of md405 ≡ 103
  pub md406_size : 2 + sizes_of md406 ≡ 121

pub sizes_are : SizesAre
sizes_are = record { own_rows = refl; own_size = refl; md401_size = refl; md404_size = refl; md405_size = refl; md406_size = refl }
