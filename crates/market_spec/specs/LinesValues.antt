-- All lines of a file as values: induction over lines, whatever their types.
use Rattle.std.specs.Prelude.{ℕ, zero, suc, ◌+◌, ◌≤◌, ◌≡◌, refl, Bool, true, false, ◌&&◌, List, [], ◌∷◌, ◌++◌, leb, length, drop}
use Rattle.std.proofs.Common.{⊎_elim, arith, le-leb, leb-true, ne_eqb}
use Rattle.terms.specs.Paper.{pick}
use Rattle.terms.specs.Cases.{same, clash}
use Rattle.digits.specs.Laws.{both}
use Rattle.market_columns.specs.Columns.{alike}
use Rattle.market_columns.specs.Tables.{length_of}
use Rattle.market_spec.specs.File.{fine, type_at, layout_of, begins_at, trailer_fault, lines_fault}
use Rattle.market_columns.specs.Values.{Value, text_of}
use Rattle.market_spec.specs.LineValues.{line_values, line_text, line_fits}

-- a line's type, 1 to 4 for MD401, MD404, MD405, MD406, and its values
pub record Line : Type 0 where
  pub kind : ℕ
  pub values : List Value

abbrev pub is_line : ℕ → Bool
is_line t = leb 1 t && leb t 4

abbrev pub text_of_line : Line → List ℕ
text_of_line l = line_text (layout_of l.kind) l.values

unfoldable pub lines_text : List Line → List ℕ
lines_text [] = []
lines_text (l ∷ ls) = text_of_line l ++ lines_text ls

unfoldable pub lines_fit : List Line → Bool
lines_fit [] = true
lines_fit (l ∷ ls) = (is_line l.kind && line_fits (layout_of l.kind) l.values) && lines_fit ls

-- the lines from the place at on, at most f of them
unfoldable pub lines_values : ℕ → ℕ → List ℕ → List Line
lines_values zero at s = []
lines_values (suc f) at s =
    pick (is_line (type_at at s))
    (record { kind = type_at at s; values = line_values (layout_of (type_at at s)) (drop at s) } ∷ lines_values f (at + length_of (layout_of (type_at at s))) s)
    []

-- LINES WITH NOTHING WRONG

pub record LinesBack (k at n : ℕ) (s : List ℕ) (ls : List Line) : Type 0 where
  pub place : ℕ
  pub inside : place ≤ length s
  pub ends : type_at place s ≡ 5
  pub closes : trailer_fault (k + length ls) place s ≡ fine n
  pub same_bytes : lines_text ls ++ drop place s ≡ drop at s
  pub fitting : lines_fit ls ≡ true

pub not_line : (t : ℕ) → t ≡ 5 → is_line t ≡ false
not_line t e = rw e

pub is_line_holds : (t : ℕ) → t ≤ 6 → (t ≡ 5 → ⊥) → (t ≡ 6 → ⊥) → (t ≡ 0 → ⊥) → is_line t ≡ true
is_line_holds t h a b c = rw (le-leb 1 t (omega arith), le-leb t 4 (omega arith))

-- LINES MADE OF FITTING VALUES

-- the word at a place depends on what follows it alone
pub type_drop : (at : ℕ) (s : List ℕ) → type_at at s ≡ type_at 0 (drop at s)
unfolding type_at begins_at
type_drop at s = refl

-- a line's own type stands at its start
pub line_kind : (t : ℕ) (vs : List Value) (r : List ℕ) → is_line t ≡ true → line_fits (layout_of t) vs ≡ true → type_at 0 (line_text (layout_of t) vs ++ r) ≡ t
unfolding line_fits line_text text_of type_at begins_at alike
line_kind t [] r h f =
    ⊎_elim (λ (a : t ≡ 1). absurd (clash (rw a at f) refl))
    (λ (a : t ≡ 1 → ⊥).
    ⊎_elim (λ (b : t ≡ 2). absurd (clash (rw b at f) refl))
    (λ (b : t ≡ 2 → ⊥).
    ⊎_elim (λ (c : t ≡ 3). absurd (clash (rw c at f) refl)) (λ (c : t ≡ 3 → ⊥). absurd (clash (rw (ne_eqb t 1 a, ne_eqb t 2 b, ne_eqb t 3 c) at f) refl)) (same t 3))
    (same t 2))
    (same t 1)
line_kind t (v ∷ vs) r h f =
    let k = both (leb 1 t) (leb t 4) h in
    ⊎_elim (λ (a : t ≡ 1). rw a)
    (λ (a : t ≡ 1 → ⊥).
    ⊎_elim (λ (b : t ≡ 2). rw b)
    (λ (b : t ≡ 2 → ⊥).
    ⊎_elim (λ (c : t ≡ 3). rw c) (λ (c : t ≡ 3 → ⊥). let e : t ≡ 4 = omega (arith, leb-true 1 t k.0, leb-true t 4 k.1) in rw e) (same t 3))
    (same t 2))
    (same t 1)

pub record LinesMade (f k at : ℕ) (s : List ℕ) (ls : List Line) (r : List ℕ) : Type 0 where
  pub answered : lines_fault f k at s ≡ trailer_fault (k + length ls) (at + length (lines_text ls)) s
  pub same_values : lines_values f at s ≡ ls
  pub onward : drop (at + length (lines_text ls)) s ≡ r
