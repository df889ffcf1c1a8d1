-- For each public function: wrong answers that its promise rules out, as tables of what is given
-- and what is then wrong. Assumes nothing.
use Prim.Native.Nat.{ℕ}
use mathlib.Core.Path.{refl}
use mathlib.Core.List.{List, [], ◌∷◌, ◌++◌}
use lib.ListN.{length, take, drop, replicate}
use Rattle.terms.specs.Paper.{Paper}
use Rattle.terms.specs.RuledOut.{Row, ◌never◌, ◌only◌, Kept, RulesOut, ruled, papers, Left, left, lefts, left_is}
use Rattle.octets.specs.Octets.{numeral, digits_of, laid, sum_of, sum8}
use Rattle.digits.specs.Digits.{decimal_of, width_in, all_digits, said_by, said_if_digits, digits_at, decimal_at}
use Rattle.market_columns.specs.Numbers.{spaces, decimals_at, joined, number_in, number_at, number_text, column_text, number_fits}
use Rattle.market_columns.specs.Columns.{alike, column_ok}
use Rattle.market_columns.specs.Values.{value_in, text_of, fits}
use Rattle.market_spec.specs.File.{fault, fine, line_fault, begins_at, type_at, tail_fault, trailer_fault, lines_fault, fault_of}
use Rattle.market_spec.specs.LineValues.{line_values, line_text}
use Rattle.market_spec.specs.LinesValues.{lines_text, lines_values}
use Rattle.market_spec.specs.Sound.{body_of, file_of, values_of}
use Rattle.market_spec.specs.ValueBytes.{row_bytes, taken_of, taken_line, taken_fault}
use Rattle.market_spec.specs.FileBytes.{lines_bytes, values_bytes, values_answer, laid_if0, lines_taken, values_taken, lines_given, values_given, written_answer}
use Rattle.market_spec.specs.Samples.{head_line, trailer_line, sample, head_values_bytes, sample_values}
use Rattle.host_market.specs.Findings.{finding_paper}
use Rattle.std.specs.Prelude.{Result, Ok, Err}
use Rattle.market.specs.declared.Fault.{Fault}
use Rattle.market.specs.declared.Fault.TheVariants.{Header, Sum, Room}
use Rattle.market.specs.declared.Wrong.{Wrong}
use Rattle.market.specs.Papers.{verdict_paper}
use Rattle.host_market.proofs.FindingFromResultUsizeWrong.from.Reads as finding
use Rattle.host_market.proofs.FindingFromResultUsizeWrong.from.Kinds as finding-kinds
use Rattle.host_market.proofs.rk_market_check.Reads as rk-market-check
use Rattle.host_market.proofs.rk_market_check.Kinds as rk-market-check-kinds
use Rattle.host_market.proofs.rk_market_values.Reads as rk-market-values
use Rattle.host_market.proofs.rk_market_values.Kinds as rk-market-values-kinds
use Rattle.host_market.proofs.rk_market_write.Reads as rk-market-write
use Rattle.host_market.proofs.rk_market_write.Kinds as rk-market-write-kinds

abbrev empty : List ℕ
empty = head_line 48 ++ trailer_line 2 0 4

-- FINDING: an answer
abbrev wrong : Fault → ℕ → Result ℕ Wrong
wrong f p = Err (record { fault = f; place = p })

abbrev pub FindingFromResultUsizeWrong_from_wrong : List (Row (Result ℕ Wrong) Paper)
FindingFromResultUsizeWrong_from_wrong =
    Ok 3 only fine 3
    ∷ wrong Header 81 only fault 41 81
    ∷ wrong Sum 0 never fine 0  -- a fault told as sound
    ∷ wrong Room 0 only fault 8 0
    ∷ []

pub FindingFromResultUsizeWrong_from_rules_out : RulesOut (Kept _ finding-kinds.ps finding-kinds.r finding.Post) (λ c. c.args.0) (λ c. finding_paper c.result) FindingFromResultUsizeWrong_from_wrong
FindingFromResultUsizeWrong_from_rules_out = ruled papers verdict_paper (λ c p. p) _ refl

-- CHECK: a file
abbrev pub rk_market_check_wrong : List (Row (List ℕ) Paper)
rk_market_check_wrong =
    sample only fine 1
    ∷ (take 81 empty ++ (13 ∷ drop 82 empty)) never fault 41 0  -- the place left out
    ∷ (head_line 48 ++ trailer_line 2 0 5) only fault 46 0
    ∷ []

pub rk_market_check_rules_out : RulesOut (Kept _ rk-market-check-kinds.ps rk-market-check-kinds.r rk-market-check.Post) (λ c. c.args.0.now) (λ c. finding_paper c.result) rk_market_check_wrong
unfolding fault_of line_fault lines_fault trailer_fault tail_fault type_at begins_at alike column_ok spaces number_at number_in joined decimals_at digits_at decimal_at said_if_digits said_by all_digits numeral sum_of sum8
rk_market_check_rules_out = ruled papers fault_of (λ c p. p) _ refl

-- VALUES: a file and a buffer
abbrev pub rk_market_values_wrong : List (Row (List ℕ × List ℕ) Left)
rk_market_values_wrong =
    (empty, replicate 39 7) only left (fine 38) (head_values_bytes ++ (7 ∷ []))
    ∷ (empty, replicate 37 7) only left (fault 8 0) (replicate 37 7)
    ∷ []

pub rk_market_values_rules_out : RulesOut (Kept _ rk-market-values-kinds.ps rk-market-values-kinds.r rk-market-values.Post) (λ c. (c.args.0.now, c.args.1.0.now)) (λ c. left (finding_paper c.result) c.exit.1.0.now) rk_market_values_wrong
unfolding fault_of line_fault lines_fault trailer_fault tail_fault type_at begins_at alike column_ok spaces number_at number_in joined decimals_at digits_at decimal_at said_if_digits said_by all_digits numeral sum_of sum8 digits_of laid value_in line_values lines_values values_of row_bytes lines_bytes values_bytes values_answer
rk_market_values_rules_out = ruled lefts (λ (i : List ℕ × List ℕ). left (values_answer (length i.1) i.0) (laid_if0 (values_answer (length i.1) i.0) (values_bytes (values_of i.0)) i.1)) (λ c p. left_is p) _ refl

-- WRITE: values and a buffer
abbrev pub rk_market_write_wrong : List (Row (List ℕ × List ℕ) Left)
rk_market_write_wrong =
    (sample_values, replicate 219 7) only left (fine 219) sample
    ∷ (head_values_bytes, replicate 93 7) only left (fault 8 0) (replicate 93 7)
    ∷ (take 37 head_values_bytes, replicate 94 7) only left (fault 40 37) (replicate 94 7)
    ∷ []

pub rk_market_write_rules_out : RulesOut (Kept _ rk-market-write-kinds.ps rk-market-write-kinds.r rk-market-write.Post) (λ c. (c.args.0.now, c.args.1.0.now)) (λ c. left (finding_paper c.result) c.exit.1.0.now) rk_market_write_wrong
unfolding spaces number_text column_text number_fits decimal_of width_in digits_of numeral sum_of sum8 laid text_of fits line_text lines_text body_of file_of taken_of taken_line taken_fault lines_taken values_taken lines_given values_given written_answer
rk_market_write_rules_out = ruled lefts (λ (i : List ℕ × List ℕ). left (written_answer (length i.1) i.0) (laid_if0 (written_answer (length i.1) i.0) (file_of (values_given i.0)) i.1)) (λ c p. left_is p) _ refl
