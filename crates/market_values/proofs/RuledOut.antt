-- For each public function: wrong answers that its promise rules out, as tables of what is given
-- and what is then wrong. Assumes nothing.
use Prim.Native.Nat.{ℕ, ◌<◌}
use mathlib.Core.Path.{◌≡◌, refl, sym, ap, ◌∙◌}
use mathlib.Core.List.{List, [], ◌∷◌, ◌++◌}
use lib.ListN.{length, take, replicate}
use Rattle.terms.specs.RuledOut.{Row, ◌never◌, ◌only◌, Kept, Holds, no_other, RulesOut, ruled, Left, left, lefts, left_is}
use Rattle.octets.specs.Octets.{numeral, digits_of, laid, sum_of, sum8}
use Rattle.digits.specs.Digits.{decimal_of, width_in, all_digits, said_by, said_if_digits, digits_at, decimal_at}
use Rattle.market_columns.specs.Numbers.{spaces, decimals_at, joined, number_in, number_at, number_text, column_text, number_fits}
use Rattle.market_columns.specs.Columns.{alike, column_ok}
use Rattle.market_columns.specs.Values.{value_in, text_of, fits}
use Rattle.market_spec.specs.File.{fault, fine, line_fault, begins_at, type_at, tail_fault, trailer_fault, lines_fault, fault_of}
use Rattle.market_spec.specs.LineValues.{line_values, line_text}
use Rattle.market_spec.specs.LinesValues.{lines_text, lines_values}
use Rattle.market_spec.specs.Sound.{body_of, file_of, values_of}
use Rattle.market_spec.specs.ValueBytes.{row_bytes, taken_of, taken_line, taken_fault}
use Rattle.market_spec.specs.FileBytes.{lines_bytes, values_bytes, values_answer, laid_if0, lines_taken, values_taken, lines_given, values_given, written_answer}
use Rattle.market_spec.specs.WrittenAgain.{written_large}
use Rattle.market_spec.specs.Samples.{head_line, odd_name, price, below, round, line_with, line, trailer_line, sample, head_values_bytes, number, line_values_with, sample_values}
use Rattle.market.specs.Papers.{verdict_paper}
use Rattle.market_values.proofs.values.Reads as values
use Rattle.market_values.proofs.values.Kinds as values-kinds
use Rattle.market_values.proofs.written.Reads as written
use Rattle.market_values.proofs.written.Kinds as written-kinds

-- VALUES: a file and a buffer; the answer, and the buffer then
abbrev pub values_wrong : List (Row (List ℕ × List ℕ) Left)
values_wrong =
    (sample, replicate 142 7) only left (fine 141) (sample_values ++ (7 ∷ []))
    ∷ (sample, replicate 141 7) never left (fine 141) (head_values_bytes ++ line_values_with odd_name (number 0 1 244))  -- the sign dropped
    ∷ (sample, replicate 140 7) only left (fault 8 0) (replicate 140 7)
    ∷ (head_line 48 ++ trailer_line 2 0 4, replicate 38 7) only left (fine 38) head_values_bytes
    ∷ (head_line 49 ++ (line ++ trailer_line 0 0 0), replicate 141 7) only left (fault 46 0) (replicate 141 7)  -- values of an unsound file given
    ∷ []

pub values_rules_out : RulesOut (Kept _ values-kinds.ps values-kinds.r values.Post) (λ c. (c.args.0.now, c.args.1.0.now)) (λ c. left (verdict_paper c.result) c.exit.1.0.now) values_wrong
unfolding fault_of line_fault lines_fault trailer_fault tail_fault type_at begins_at alike column_ok spaces number_at number_in joined decimals_at digits_at decimal_at said_if_digits said_by all_digits numeral sum_of sum8 digits_of laid value_in line_values lines_values values_of row_bytes lines_bytes values_bytes values_answer
values_rules_out = ruled lefts (λ (i : List ℕ × List ℕ). left (values_answer (length i.1) i.0) (laid_if0 (values_answer (length i.1) i.0) (values_bytes (values_of i.0)) i.1)) (λ c p. left_is p) _ refl

-- WRITTEN: values and a buffer
abbrev pub written_wrong : List (Row (List ℕ × List ℕ) Left)
written_wrong =
    (sample_values, replicate 220 7) only left (fine 219) (sample ++ (7 ∷ []))
    ∷ (sample_values, replicate 219 7) never left (fine 219) (head_line 49 ++ (line_with odd_name price (32 ∷ 32 ∷ 32 ∷ 32 ∷ 32 ∷ 32 ∷ 48 ∷ 46 ∷ 53 ∷ 48 ∷ 48 ∷ []) round ++ trailer_line 0 3 6))  -- the sign dropped
    ∷ (sample_values, replicate 219 7) never left (fine 219) (head_line 48 ++ (line ++ trailer_line 0 4 8))  -- a count that is not that of the lines
    ∷ (head_values_bytes ++ line_values_with (replicate 32 0) (number 1 1 244), replicate 219 7) only left (fine 219) (head_line 49 ++ (line_with (replicate 32 0) price below round ++ trailer_line 2 2 0))
    ∷ (head_values_bytes ++ line_values_with (replicate 32 0) (number 1 1 244), replicate 219 7) never left (fine 219) (head_line 49 ++ (line_with (replicate 32 32) price below round ++ trailer_line 2 2 0))  -- names padded
    ∷ (head_values_bytes, replicate 94 7) only left (fine 94) (head_line 48 ++ trailer_line 2 0 4)
    ∷ (take 140 sample_values, replicate 219 7) only left (fault 40 140) (replicate 219 7)
    ∷ (head_values_bytes ++ (1 ∷ 146 ∷ []), replicate 219 7) only left (fault 42 38) (replicate 219 7)  -- 402
    ∷ (head_values_bytes ++ line_values_with odd_name (number 1 0 0), replicate 219 7) only left (fault 43 101) (replicate 219 7)  -- minus zero
    ∷ (head_values_bytes ++ line_values_with odd_name (number 2 1 244), replicate 219 7) only left (fault 43 101) (replicate 219 7)  -- a sign that is neither 0 nor 1
    ∷ (sample_values, replicate 218 7) only left (fault 8 0) (replicate 218 7)
    ∷ []

pub written_rules_out : RulesOut (Kept _ written-kinds.ps written-kinds.r written.Post) (λ c. (c.args.0.now, c.args.1.0.now)) (λ c. left (verdict_paper c.result) c.exit.1.0.now) written_wrong
unfolding spaces number_text column_text number_fits decimal_of width_in digits_of numeral sum_of sum8 laid text_of fits line_text lines_text body_of file_of taken_of taken_line taken_fault lines_taken values_taken lines_given values_given written_answer
written_rules_out = ruled lefts (λ (i : List ℕ × List ℕ). left (written_answer (length i.1) i.0) (laid_if0 (written_answer (length i.1) i.0) (file_of (values_given i.0)) i.1)) (λ c p. left_is (p.0, p.1.0)) _ refl

-- values of a file above 65,536 bytes are 47, whatever room there is, and nothing is written
pub written_47 : (s d : List ℕ) → values_taken s ≡ fine 0 → 65536 < length (file_of (values_given s)) → Holds {I = List ℕ × List ℕ} {O = Left} (Kept _ written-kinds.ps written-kinds.r written.Post) (λ c. (c.args.0.now, c.args.1.0.now)) (λ c. left (verdict_paper c.result) c.exit.1.0.now) ((s, d) only left (fault 47 0) d)
written_47 s d e h =
    no_other {o = left (fault 47 0) d}
    (λ p a.
    let f : List ℕ × List ℕ → Left = λ i. left (written_answer (length i.1) i.0) (laid_if0 (written_answer (length i.1) i.0) (file_of (values_given i.0)) i.1) in
    let z : f (s, d) ≡ left (fault 47 0) d = rw (written_large (length d) s e h) in
    sym a.outcome ∙ left_is (a.promised.0, a.promised.1.0) ∙ ap f a.given ∙ z)
