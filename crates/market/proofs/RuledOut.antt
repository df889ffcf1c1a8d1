-- For each public function: wrong answers that its promise rules out, as tables of what is given
-- and what is then wrong. Assumes nothing.
use Prim.Native.Nat.{ℕ, ◌+◌, ◌<◌}
use mathlib.Core.Path.{refl, sym, ap, ap₂, ◌∙◌}
use mathlib.Core.List.{List, [], ◌∷◌, ◌++◌}
use lib.ListN.{length, take, drop}
use Rattle.terms.specs.Paper.{Paper}
use Rattle.terms.specs.RuledOut.{Row, ◌never◌, ◌only◌, Kept, Holds, no_other, RulesOut, ruled, numbers, lists, papers}
use Rattle.octets.specs.Octets.{numeral, sum_of, sum8}
use Rattle.digits.specs.Digits.{all_digits, said_by, said_if_digits, digits_at, decimal_at}
use Rattle.market_columns.specs.Numbers.{spaces, decimals_at, joined, number_in, number_at}
use Rattle.market_columns.specs.Columns.{columns, alike, column_ok}
use Rattle.market_spec.specs.File.{fault, fine, end_of, line_fault, begins_at, type_at, first_of, last_of, tail_fault, trailer_fault, lines_fault, fault_of}
use Rattle.market_spec.specs.Types.{file_large}
use Rattle.market_spec.specs.Samples.{head_line, odd_name, price, below, round, line_with, line, trailer_line, sample}
use Rattle.market.specs.Papers.{fault_number, verdict_paper}
use Rattle.market.specs.Starts.{line_number, start_number}
use Rattle.market.specs.declared.Fault.{Fault}
use Rattle.market.specs.declared.Fault.TheVariants.{CutShort, Header, Sum, Large, Room}
use Rattle.market.proofs.U64FromFault.from.Reads as number
use Rattle.market.proofs.U64FromFault.from.Kinds as number-kinds
use Rattle.market.proofs.due.Reads as due
use Rattle.market.proofs.due.Kinds as due-kinds
use Rattle.market.proofs.line_type.Reads as line-type
use Rattle.market.proofs.line_type.Kinds as line-type-kinds
use Rattle.market.proofs.LineType.rows.Reads as rows
use Rattle.market.proofs.LineType.rows.Kinds as rows-kinds
use Rattle.market.proofs.rows_of.Reads as rows_of_lem
use Rattle.market.proofs.rows_of.Kinds as rows-of-kinds
use Rattle.market.proofs.check.Reads as check
use Rattle.market.proofs.check.Kinds as check-kinds

-- FAULTS: a fault, and CR 10's number
abbrev pub U64FromFault_from_wrong : List (Row Fault ℕ)
U64FromFault_from_wrong =
    CutShort only 40  -- not counted from 0
    ∷ Header never 40  -- two faults with one number
    ∷ Sum only 46  -- not 45 or 47, which are others'
    ∷ Large only 47
    ∷ Room only 8  -- not counted on behind 47
    ∷ []

pub U64FromFault_from_rules_out : RulesOut (Kept _ number-kinds.ps number-kinds.r number.Post) (λ c. c.args.0) (λ c. c.result) U64FromFault_from_wrong
U64FromFault_from_rules_out = ruled numbers fault_number (λ c p. p) _ refl

-- DUE: a row and the row behind its layout
abbrev pub due_wrong : List (Row (ℕ × ℕ) ℕ)
due_wrong =
    (8, 9) never 124  -- a bar behind the last column
    ∷ (0, 9) only 124
    ∷ (57, 58) only 10
    ∷ []

pub due_rules_out : RulesOut (Kept _ due-kinds.ps due-kinds.r due.Post) (λ c. (c.args.0, c.args.1.0)) (λ c. c.result) due_wrong
due_rules_out = ruled numbers (λ (i : ℕ × ℕ). end_of (columns (i.0 + 1) i.1)) (λ c p. p) _ refl

-- LINE_TYPE: bytes and a place
abbrev pub line_type_wrong : List (Row (List ℕ × ℕ) ℕ)
line_type_wrong =
    (line, 0) never 1  -- every line taken for MD401
    ∷ (line, 0) only 3
    ∷ (trailer_line 0 0 0, 0) only 5
    ∷ (take 4 line, 0) only 6  -- cut short
    ∷ (line, 200) only 6  -- past the end
    ∷ (line, 1) only 0
    ∷ []

pub line_type_rules_out : RulesOut (Kept _ line-type-kinds.ps line-type-kinds.r line-type.Post) (λ c. (c.args.0.now, c.args.1.0)) (λ c. start_number c.result) line_type_wrong
unfolding type_at begins_at alike
line_type_rules_out = ruled numbers (λ (i : List ℕ × ℕ). type_at i.1 i.0) (λ c p. p) _ refl

-- ROWS: a line's type by its number; its first row, and the one behind its last
abbrev pub LineType_rows_wrong : List (Row ℕ (List ℕ))
LineType_rows_wrong =
    1 only (9 ∷ 26 ∷ [])
    ∷ 2 never (9 ∷ 26 ∷ [])  -- MD401's columns for every line
    ∷ 3 only (36 ∷ 46 ∷ [])
    ∷ 4 never (46 ∷ 57 ∷ [])  -- the last column left out
    ∷ []

pub LineType_rows_rules_out : RulesOut (Kept _ rows-kinds.ps rows-kinds.r rows.Post) (λ c. line_number c.args.0) (λ c. c.result.first ∷ c.result.last ∷ []) LineType_rows_wrong
LineType_rows_rules_out =
    ruled lists (λ (t : ℕ). first_of t ∷ last_of t ∷ []) (λ c p. ap₂ (λ (f : ℕ) (l : ℕ). f ∷ l ∷ []) p.1.0 p.1.1) _ refl

-- ROWS_OF: the number of a line's type; its first row, and the one behind its last
abbrev pub rows_of_wrong : List (Row ℕ (List ℕ))
rows_of_wrong =
    1 only (9 ∷ 26 ∷ [])
    ∷ 2 never (9 ∷ 26 ∷ [])  -- MD401's columns for every line
    ∷ 3 only (36 ∷ 46 ∷ [])
    ∷ 4 never (46 ∷ 57 ∷ [])  -- the last column left out
    ∷ 0 only (46 ∷ 58 ∷ [])
    ∷ 5 never (9 ∷ 26 ∷ [])  -- MD401's columns for a number that is no type's
    ∷ []

pub rows_of_rules_out : RulesOut (Kept _ rows-of-kinds.ps rows-of-kinds.r rows_of_lem.Post) (λ c. c.args.0) (λ c. c.result.first ∷ c.result.last ∷ []) rows_of_wrong
rows_of_rules_out =
    ruled lists (λ (t : ℕ). first_of t ∷ last_of t ∷ []) (λ c p. ap₂ (λ (f : ℕ) (l : ℕ). f ∷ l ∷ []) p.1.1.0 p.1.1.1) _ refl

-- CHECK: files
abbrev empty : List ℕ
empty = head_line 48 ++ trailer_line 2 0 4

-- the sample with another first price, or another second one
abbrev priced : List ℕ → List ℕ
priced p = head_line 49 ++ (line_with odd_name p below round ++ trailer_line 0 0 0)

abbrev second : List ℕ → List ℕ
second p = head_line 49 ++ (line_with odd_name price p round ++ trailer_line 0 0 0)

abbrev pub check_wrong : List (Row (List ℕ) Paper)
check_wrong =
    sample only fine 1  -- columns split at bars: the name holds a bar and a newline
    ∷ empty only fine 0
    ∷ (take 81 empty ++ (13 ∷ drop 82 empty)) only fault 41 81  -- the newline not looked at
    ∷ (head_line 49 ++ (take 123 line ++ (10 ∷ trailer_line 0 4 9))) only fault 43 206  -- a line one byte short
    ∷ priced (32 ∷ 32 ∷ 32 ∷ 32 ∷ 48 ∷ 49 ∷ 50 ∷ 46 ∷ 51 ∷ 52 ∷ 53 ∷ []) only fault 43 143  -- a needless zero: 012.345
    ∷ second (32 ∷ 32 ∷ 32 ∷ 32 ∷ 32 ∷ 45 ∷ 48 ∷ 46 ∷ 48 ∷ 48 ∷ 48 ∷ []) only fault 43 155  -- -0.000
    ∷ priced (32 ∷ 32 ∷ 32 ∷ 32 ∷ 32 ∷ 32 ∷ 32 ∷ 46 ∷ 53 ∷ 48 ∷ 48 ∷ []) only fault 43 143  -- .500
    ∷ priced (49 ∷ 50 ∷ 46 ∷ 51 ∷ 52 ∷ 53 ∷ 32 ∷ 32 ∷ 32 ∷ 32 ∷ 32 ∷ []) only fault 43 143  -- 12.345, left-aligned
    ∷ priced (32 ∷ 32 ∷ 32 ∷ 32 ∷ 32 ∷ 32 ∷ 49 ∷ 50 ∷ 46 ∷ 51 ∷ 52 ∷ []) only fault 43 143  -- two decimals for three
    ∷ priced (32 ∷ 32 ∷ 32 ∷ 32 ∷ 32 ∷ 32 ∷ 32 ∷ 32 ∷ 32 ∷ 32 ∷ 32 ∷ []) only fault 43 143  -- a blank price taken
    ∷ (take 16 empty ++ (48 ∷ drop 17 empty)) only fault 41 16  -- BodyLength filled taken
    ∷ (take 88 sample ++ (32 ∷ drop 89 sample)) only fault 43 88  -- text that begins with a space
    ∷ (head_line 50 ++ (line ++ trailer_line 0 5 0)) only fault 44 0  -- the count compared with all lines, header among them
    ∷ (head_line 49 ++ (line_with odd_name price below (take 10 round ++ (53 ∷ [])) ++ trailer_line 2 0 7)) only fault 46 0  -- the sum with its own digits
    ∷ (head_line 49 ++ (line ++ trailer_line 1 6 2)) only fault 46 0  -- the sum without `TRAILER|`
    ∷ (head_line 48 ++ trailer_line 4 6 0) only fault 46 0  -- a sum above 255: 204 and 256
    ∷ (head_line 50 ++ (line ++ trailer_line 0 0 0)) only fault 44 0  -- 46 before 44
    ∷ (take 81 empty ++ (13 ∷ [])) only fault 41 81  -- 40 before a fault at a lower place
    ∷ (head_line 49 ++ line) only fault 40 207  -- a file without trailer sound
    ∷ (sample ++ (10 ∷ [])) only fault 40 219  -- a left-over byte
    ∷ [] only fault 40 0
    ∷ (head_line 48 ++ (77 ∷ 68 ∷ 52 ∷ 48 ∷ 50 ∷ [])) only fault 42 82  -- MD402
    ∷ (head_line 48 ++ (77 ∷ 68 ∷ 52 ∷ [])) only fault 40 85  -- a type cut short
    ∷ (take 89 empty ++ (32 ∷ drop 90 empty)) only fault 45 89  -- no bar behind TRAILER
    ∷ []

pub check_rules_out : RulesOut (Kept _ check-kinds.ps check-kinds.r check.Post) (λ c. c.args.0.now) (λ c. verdict_paper c.result) check_wrong
unfolding fault_of line_fault lines_fault trailer_fault tail_fault type_at begins_at alike column_ok spaces number_at number_in joined decimals_at digits_at decimal_at said_if_digits said_by all_digits numeral sum_of sum8
check_rules_out = ruled papers fault_of (λ c p. p) _ refl

-- 65,537 bytes read: any file that long is 47, and nothing else
pub check_large : (s : List ℕ) → 65536 < length s → Holds (Kept _ check-kinds.ps check-kinds.r check.Post) (λ c. c.args.0.now) (λ c. verdict_paper c.result) (s only fault 47 0)
check_large s h = no_other (λ p a. sym a.outcome ∙ a.promised ∙ ap fault_of a.given ∙ file_large s h)
