-- CR 10: each of 40 to 47 given exactly when. 44 and 46 only where nothing else is wrong, 44 before
-- 46; 47 by length alone.
use Rattle.std.specs.Prelude.{ℕ, ◌+◌, ◌<◌, ◌≤◌, ◌≡◌, true, false, List, [], ◌∷◌, length, get_or}
use Rattle.market_columns.specs.Columns.{header}
use Rattle.market_spec.specs.File.{type_at, layout_of, mark_ok, count_ok, sum_ok}
use Rattle.market_spec.specs.LinesValues.{is_line}
use Rattle.market_spec.specs.Walk.{Wrong, Cut, MarksAt, Walked, Whole}

-- 40, at the end of the file where more is due, or at the first byte behind the trailer
pub data Given40 (s : List ℕ) : ℕ → Type 0 where
  in_header : length s ≤ 65536 → Cut s header 0 → Given40 s (length s)
  in_type : {k p : ℕ} → length s ≤ 65536 → Walked s k p → type_at p s ≡ 6 → Given40 s (length s)
  in_line : {k p : ℕ} → length s ≤ 65536 → Walked s k p → is_line (type_at p s) ≡ true → Cut s (layout_of (type_at p s)) p → Given40 s (length s)
  in_trailer : {k p m : ℕ} {ms : List ℕ} {q : ℕ} → length s ≤ 65536 → Walked s k p → type_at p s ≡ 5 → MarksAt s (p + 7) (m ∷ ms) q → length s ≤ q → Given40 s (length s)
  left : {k p q : ℕ} → length s ≤ 65536 → Walked s k p → type_at p s ≡ 5 → MarksAt s (p + 7) [] q → q < length s → Given40 s q

-- 41, at a column of the header or the byte behind one
pub record Given41 (s : List ℕ) (q : ℕ) : Type 0 where
  pub few : length s ≤ 65536
  pub wrong : Wrong s header 0 q

-- 42, where a line begins with none of the five words
pub record Given42 (s : List ℕ) (q : ℕ) : Type 0 where
  pub few : length s ≤ 65536
  pub lines : ℕ
  pub walked : Walked s lines q
  pub type : type_at q s ≡ 0

-- 43, at a column of a line or the byte behind one
pub record Given43 (s : List ℕ) (q : ℕ) : Type 0 where
  pub few : length s ≤ 65536
  pub lines : ℕ
  pub place : ℕ
  pub walked : Walked s lines place
  pub type : is_line (type_at place s) ≡ true
  pub wrong : Wrong s (layout_of (type_at place s)) place q

-- 44: all is right but the count
pub record Given44 (s : List ℕ) : Type 0 where
  pub lines : ℕ
  pub place : ℕ
  pub whole : Whole s lines place
  pub count : count_ok lines s ≡ false

-- 45, at one of the five bytes behind TRAILER
pub record Given45 (s : List ℕ) (q : ℕ) : Type 0 where
  pub few : length s ≤ 65536
  pub lines : ℕ
  pub place : ℕ
  pub walked : Walked s lines place
  pub type : type_at place s ≡ 5
  pub mark : ℕ
  pub marks_left : List ℕ
  pub marked : MarksAt s (place + 7) (mark ∷ marks_left) q
  pub inside : q < length s
  pub wrong : mark_ok mark (get_or s q 0) ≡ false

-- 46: all is right, the count too, but the sum
pub record Given46 (s : List ℕ) : Type 0 where
  pub lines : ℕ
  pub place : ℕ
  pub whole : Whole s lines place
  pub count : count_ok lines s ≡ true
  pub sum : sum_ok place s ≡ false
