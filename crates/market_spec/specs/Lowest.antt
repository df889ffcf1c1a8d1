-- CR 10, "the lowest place first": no column, bar or newline that ends before the place told is at
-- fault.
-- Where columns stand is counted here, by the widths of 003 and the lines' types alone.
use Rattle.std.specs.Prelude.{ℕ, ◌+◌, ◌<◌, ◌≡◌, true, List, ◌∷◌, length, get_or, take, drop}
use Rattle.market_columns.specs.Columns.{Column, wide, column_ok}
use Rattle.market_columns.specs.Tables.{length_of}
use Rattle.market_spec.specs.File.{end_of, type_at, layout_of}
use Rattle.market_spec.specs.LinesValues.{is_line}

-- WHERE COLUMNS STAND

-- a row of columns from p0 on: the columns cs of it begin at p
pub data Counted (cs0 : List Column) (p0 : ℕ) : List Column → ℕ → Type 0 where
  here : Counted cs0 p0 cs0 p0
  beyond : {c : Column} {cs : List Column} {p : ℕ} → Counted cs0 p0 (c ∷ cs) p → Counted cs0 p0 cs (p + wide c + 1)

-- a line begins at a place: behind the header, or as far behind another as that one's type is long
pub data Starts (s : List ℕ) : ℕ → Type 0 where
  first : Starts s 82
  later : {p : ℕ} → Starts s p → is_line (type_at p s) ≡ true → Starts s (p + length_of (layout_of (type_at p s)))

-- the column c at p is right, and so is the byte behind it
pub record RightThere (s : List ℕ) (c : Column) (cs : List Column) (p : ℕ) : Type 0 where
  pub inside : p + wide c < length s
  pub right : column_ok c (take (wide c) (drop p s)) ≡ true
  pub bar : get_or s (p + wide c) 0 ≡ end_of cs
