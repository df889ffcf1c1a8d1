-- A field's rule as numbers: its row, the letter of its form, its greatest width. A tag of no row
-- has the row behind the last.
use Rattle.std.specs.Prelude.{ℕ, [], ◌∷◌, Option, Some, None}
use Rattle.std.specs.Bool.{then_some}
use Rattle.terms.specs.Paper.{Paper, answer}
use Rattle.step_tags.specs.declared.Rule.{Rule}
use Rattle.step_tags.specs.declared.Rule.TheVariants.{Text, Number, Flag, Time}
use Rattle.step_tags.specs.declared.Rows.{Rows}
use Rattle.step_tags.specs.Table.{C, N, B, T, row_at, among, types, rows_of, needed_by}

abbrev pub rule_paper : Option Rule → Paper
rule_paper (Some (Text i w)) = answer 0 (i ∷ C ∷ w ∷ [])
rule_paper (Some (Number i w)) = answer 0 (i ∷ N ∷ w ∷ [])
rule_paper (Some (Flag i)) = answer 0 (i ∷ B ∷ 1 ∷ [])
rule_paper (Some (Time i)) = answer 0 (i ∷ T ∷ 21 ∷ [])
rule_paper None = answer 0 (27 ∷ 0 ∷ 0 ∷ [])

abbrev pub row_paper : ℕ → Paper
row_paper i = answer 0 (i ∷ (row_at i).form ∷ (row_at i).width ∷ [])

-- the rows of a type of the seven
abbrev pub set_of : ℕ → Option Rows
set_of type = then_some (among type types) (record { has = rows_of type; needs = needed_by type })
