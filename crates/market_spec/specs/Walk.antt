-- CR 10: when each number is given, told by the places of a file and not by the function that
-- answers.
-- `At`: the columns before a place stand right. `Walked`: so do the header and k lines before a
-- place, where the next line begins.
use Rattle.std.specs.Prelude.{ℕ, ◌+◌, ◌-◌, ◌<◌, ◌≤◌, ◌≡◌, refl, true, false, List, [], ◌∷◌, leb, length, get_or, take, drop}
use Rattle.std.proofs.Common.{◌∙◌, ⊎_elim, arith, leb-true}
use Rattle.terms.specs.Paper.{Paper}
use Rattle.terms.specs.Cases.{two, less}
use Rattle.digits.specs.Laws.{both}
use Rattle.market_columns.specs.Columns.{Column, header, wide, column_ok}
use Rattle.market_spec.specs.File.{fault, fine, and_then, end_of, line_fault, type_at, layout_of, marks, mark_ok, tail_fault, count_ok, sum_ok, lines_fault, fault_of}
use Rattle.market_spec.specs.Files.{tail_cut, tail_wrong, tail_on, lines_line}
use Rattle.market_spec.specs.Told.{Told, at_place, refused}
use Rattle.market_spec.specs.LinesValues.{is_line}

-- A ROW OF COLUMNS from the place p0 on: those before p stand right, each with the byte behind it;
-- cs are left
pub data At (s : List ℕ) (cs0 : List Column) (p0 : ℕ) : List Column → ℕ → Type 0 where
  start : At s cs0 p0 cs0 p0
  next : {c : Column} {cs : List Column} {p : ℕ} → At s cs0 p0 (c ∷ cs) p → p + wide c < length s → column_ok c (take (wide c) (drop p s)) ≡ true → get_or s (p + wide c) 0 ≡ end_of cs → At s cs0 p0 cs (p + wide c + 1)

-- a column at fault at its first byte, or the byte behind a right column
pub data Wrong (s : List ℕ) (cs0 : List Column) (p0 : ℕ) : ℕ → Type 0 where
  column : {c : Column} {cs : List Column} {p : ℕ} → At s cs0 p0 (c ∷ cs) p → p + wide c ≤ length s → column_ok c (take (wide c) (drop p s)) ≡ false → Wrong s cs0 p0 p
  bar : {c : Column} {cs : List Column} {p : ℕ} → At s cs0 p0 (c ∷ cs) p → p + wide c < length s → column_ok c (take (wide c) (drop p s)) ≡ true → (get_or s (p + wide c) 0 ≡ end_of cs → ⊥) → Wrong s cs0 p0 (p + wide c)

-- the file ends within a column, or behind a right one
pub data Cut (s : List ℕ) (cs0 : List Column) (p0 : ℕ) : Type 0 where
  within : {c : Column} {cs : List Column} {p : ℕ} → At s cs0 p0 (c ∷ cs) p → length s < p + wide c → Cut s cs0 p0
  behind : {c : Column} {cs : List Column} {p : ℕ} → At s cs0 p0 (c ∷ cs) p → p + wide c ≡ length s → column_ok c (take (wide c) (drop p s)) ≡ true → Cut s cs0 p0

-- THE FIVE BYTES BEHIND TRAILER, in the same way
pub data MarksAt (s : List ℕ) (p0 : ℕ) : List ℕ → ℕ → Type 0 where
  start : MarksAt s p0 marks p0
  next : {m : ℕ} {ms : List ℕ} {p : ℕ} → MarksAt s p0 (m ∷ ms) p → p < length s → mark_ok m (get_or s p 0) ≡ true → MarksAt s p0 ms (p + 1)

-- LINES: the header and k lines stand right, and what follows begins at a place
pub data Walked (s : List ℕ) : ℕ → ℕ → Type 0 where
  head : {e : ℕ} → At s header 0 [] e → Walked s 0 e
  line : {k p e : ℕ} → Walked s k p → is_line (type_at p s) ≡ true → At s (layout_of (type_at p s)) p [] e → Walked s (k + 1) e

-- all but count and sum is right: k lines, then the trailer at a place, and nothing behind it
pub record Whole (s : List ℕ) (k p : ℕ) : Type 0 where
  pub few : length s ≤ 65536
  pub walked : Walked s k p
  pub trailer : type_at p s ≡ 5
  pub tail : ℕ
  pub marked : MarksAt s (p + 7) [] tail
  pub nothing_left : length s ≤ tail

-- EVERY WAY THAT A CHECK ENDS, with its answer

pub data Finding (s : List ℕ) : Paper → Type 0 where
  large : 65536 < length s → Finding s (fault 47 0)
  header_wrong : {q : ℕ} → length s ≤ 65536 → Wrong s header 0 q → Finding s (fault 41 q)
  header_cut : length s ≤ 65536 → Cut s header 0 → Finding s (fault 40 (length s))
  type_wrong : {k p : ℕ} → length s ≤ 65536 → Walked s k p → type_at p s ≡ 0 → Finding s (fault 42 p)
  type_cut : {k p : ℕ} → length s ≤ 65536 → Walked s k p → type_at p s ≡ 6 → Finding s (fault 40 (length s))
  column_wrong : {k p q : ℕ} → length s ≤ 65536 → Walked s k p → is_line (type_at p s) ≡ true → Wrong s (layout_of (type_at p s)) p q → Finding s (fault 43 q)
  line_cut_short : {k p : ℕ} → length s ≤ 65536 → Walked s k p → is_line (type_at p s) ≡ true → Cut s (layout_of (type_at p s)) p → Finding s (fault 40 (length s))
  mark_wrong : {k p m : ℕ} {ms : List ℕ} {q : ℕ} → length s ≤ 65536 → Walked s k p → type_at p s ≡ 5 → MarksAt s (p + 7) (m ∷ ms) q → q < length s → mark_ok m (get_or s q 0) ≡ false → Finding s (fault 45 q)
  trailer_cut : {k p m : ℕ} {ms : List ℕ} {q : ℕ} → length s ≤ 65536 → Walked s k p → type_at p s ≡ 5 → MarksAt s (p + 7) (m ∷ ms) q → length s ≤ q → Finding s (fault 40 (length s))
  left_over_lem : {k p q : ℕ} → length s ≤ 65536 → Walked s k p → type_at p s ≡ 5 → MarksAt s (p + 7) [] q → q < length s → Finding s (fault 40 q)
  count_wrong : {k p : ℕ} → Whole s k p → count_ok k s ≡ false → Finding s (fault 44 0)
  sum_wrong : {k p : ℕ} → Whole s k p → count_ok k s ≡ true → sum_ok p s ≡ false → Finding s (fault 46 0)
  sound : {k p : ℕ} → Whole s k p → count_ok k s ≡ true → sum_ok p s ≡ true → Finding s (fine k)

-- THE FUNCTION FINDS SUCH AN END

-- a row of columns
pub data RowEnd (n : ℕ) (s : List ℕ) (cs0 : List Column) (p0 : ℕ) (p : Paper) : Type 0 where
  passed : {e : ℕ} → At s cs0 p0 [] e → p ≡ fine e → RowEnd n s cs0 p0 p
  wrong_at : {q : ℕ} → Wrong s cs0 p0 q → p ≡ fault n q → RowEnd n s cs0 p0 p
  cut_short : Cut s cs0 p0 → p ≡ fault 40 (length s) → RowEnd n s cs0 p0 p

-- the trailer's bytes
pub data MarksEnd (s : List ℕ) (p0 : ℕ) (p : Paper) : Type 0 where
  passed : {e : ℕ} → MarksAt s p0 [] e → p ≡ fine e → MarksEnd s p0 p
  wrong_at : {m : ℕ} {ms : List ℕ} {q : ℕ} → MarksAt s p0 (m ∷ ms) q → q < length s → mark_ok m (get_or s q 0) ≡ false → p ≡ fault 45 q → MarksEnd s p0 p
  cut_short : {m : ℕ} {ms : List ℕ} {q : ℕ} → MarksAt s p0 (m ∷ ms) q → length s ≤ q → p ≡ fault 40 (length s) → MarksEnd s p0 p

pub marks_end : (s : List ℕ) (p0 : ℕ) (ms : List ℕ) (p : ℕ) → MarksAt s p0 ms p → MarksEnd s p0 (tail_fault ms p s)
unfolding tail_fault
marks_end s p0 [] p a = passed a refl
marks_end s p0 (m ∷ ms) p a =
    ⊎_elim (λ (l : p < length s).
    ⊎_elim (λ (o : mark_ok m (get_or s p 0) ≡ true). over (tail_fault (m ∷ ms) p s) (tail_fault ms (p + 1) s) (tail_on m ms p s l o) (marks_end s p0 ms (p + 1) (next a l o)))
    (λ (o : mark_ok m (get_or s p 0) ≡ false). wrong_at a l o (tail_wrong m ms p s l o))
    (two (mark_ok m (get_or s p 0))))
    (λ (l : length s ≤ p). cut_short a l (tail_cut m ms p s l))
    (less p (length s))
  where
    over : (x y : Paper) → x ≡ y → MarksEnd s p0 y → MarksEnd s p0 x
    over x y e (passed b f) = passed b (e ∙ f)
    over x y e (wrong_at w l o f) = wrong_at w l o (e ∙ f)
    over x y e (cut_short w l f) = cut_short w l (e ∙ f)

-- what is answered from a place on
pub record From (s : List ℕ) (k p : ℕ) : Type 0 where
  pub fuel : ℕ
  pub enough : length s < fuel + p
  pub inside : p ≤ length s
  pub same_answer : fault_of s ≡ lines_fault fuel k p s

pub line_not : (t : ℕ) → is_line t ≡ true → (t ≡ 5 → ⊥) × ((t ≡ 6 → ⊥) × (t ≡ 0 → ⊥))
line_not t h = let q = both (leb 1 t) (leb t 4) h in (λ e. omega (arith, leb-true t 4 q.1), (λ e. omega (arith, leb-true t 4 q.1), λ e. omega (arith, leb-true 1 t q.0)))

pub line_from : {s : List ℕ} {k p : ℕ} (f : From s k p) → is_line (type_at p s) ≡ true → fault_of s ≡ and_then (line_fault 43 (layout_of (type_at p s)) p s) (λ (e : ℕ). lines_fault (f.fuel - 1) (k + 1) e s)
line_from {s} {k} {p} f t = let n = line_not (type_at p s) t in f.same_answer ∙ lines_line f.fuel k p s (omega (arith, f.enough, f.inside)) n.0 n.1.0 n.1.1

-- every answer is 0 or a refusal
pub finding_told : {s : List ℕ} {p : Paper} → Finding s p → Told p
finding_told (large a) = refused 47 _ (λ z. omega arith) refl
finding_told (header_wrong a b) = refused 41 _ (λ z. omega arith) refl
finding_told (header_cut a b) = refused 40 _ (λ z. omega arith) refl
finding_told (type_wrong a b c) = refused 42 _ (λ z. omega arith) refl
finding_told (type_cut a b c) = refused 40 _ (λ z. omega arith) refl
finding_told (column_wrong a b c d) = refused 43 _ (λ z. omega arith) refl
finding_told (line_cut_short a b c d) = refused 40 _ (λ z. omega arith) refl
finding_told (mark_wrong a b c d f g) = refused 45 _ (λ z. omega arith) refl
finding_told (trailer_cut a b c d f) = refused 40 _ (λ z. omega arith) refl
finding_told (left_over_lem a b c d f) = refused 40 _ (λ z. omega arith) refl
finding_told (count_wrong a b) = refused 44 _ (λ z. omega arith) refl
finding_told (sum_wrong a b c) = refused 46 _ (λ z. omega arith) refl
finding_told (sound a b c) = at_place _ refl
