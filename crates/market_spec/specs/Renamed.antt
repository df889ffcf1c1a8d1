-- CR 10, "Columns are counted, never split at bars": two files that differ in the bytes of names
-- alone have the same answer, whatever bars
-- and newlines the names hold, unless one of the two is 46.
use Rattle.std.specs.Prelude.{ℕ, ◌+◌, ◌≡◌, true, ◌⊎◌, length}
use mathlib.Core.List.{List, [], ◌∷◌}
use Rattle.std.proofs.Math.ListN.{get_or, take, drop}
use Rattle.terms.specs.Paper.{Paper}
use Rattle.market_columns.specs.Columns.{Column, wide, column_ok}
use Rattle.market_columns.specs.Tables.{length_of}
use Rattle.market_spec.specs.File.{type_at, layout_of}
use Rattle.market_spec.specs.LinesValues.{is_line}

-- from a line's start on: the same bytes, or a line whose type, code and all behind the name are
-- the same, and so on
pub data ButNames : List ℕ → List ℕ → Type 0 where
  alike_all : {x : List ℕ} → ButNames x x
  but_name : {x y : List ℕ} → is_line (type_at 0 x) ≡ true → take 12 x ≡ take 12 y → drop 44 (take (length_of (layout_of (type_at 0 x))) x) ≡ drop 44 (take (length_of (layout_of (type_at 0 x))) y)
      → ButNames (drop (length_of (layout_of (type_at 0 x))) x) (drop (length_of (layout_of (type_at 0 x))) y) → ButNames x y

-- two files that differ in names alone
pub record Renamed (s t : List ℕ) : Type 0 where
  pub long : length s ≡ length t
  pub header_same : take 82 s ≡ take 82 t
  pub lines_same : ButNames (drop 82 s) (drop 82 t)

-- A ROW OF COLUMNS

-- each column is as right in x as in y, and the byte behind it is the same
abbrev pub Agree : List Column → List ℕ → List ℕ → Type 0
Agree [] x y = Unit
Agree (c ∷ cs) x y = (column_ok c (take (wide c) x) ≡ column_ok c (take (wide c) y)) × ((get_or x (wide c) 0 ≡ get_or y (wide c) 0) × Agree cs (drop (wide c + 1) x) (drop (wide c + 1) y))

-- A STEP FROM LINE TO LINE

pub record Step (x y : List ℕ) : Type 0 where
  pub type_same : type_at 0 x ≡ type_at 0 y
  pub rows_agree : is_line (type_at 0 x) ≡ true → Agree (layout_of (type_at 0 x)) x y
  pub onward : is_line (type_at 0 x) ≡ true → ButNames (drop (length_of (layout_of (type_at 0 x))) x) (drop (length_of (layout_of (type_at 0 x))) y)
  pub trailer_same : type_at 0 x ≡ 5 → x ≡ y

-- THE TRAILER

abbrev pub But46 : Paper → Paper → Type 0
But46 p q = (p ≡ q) ⊎ ((p.number ≡ 46) ⊎ (q.number ≡ 46))
