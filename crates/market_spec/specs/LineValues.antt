-- A line of values, by the law of each column: induction over the columns, whatever the layout.
use Rattle.std.specs.Prelude.{ℕ, ◌+◌, ◌<◌, ◌≡◌, refl, Bool, true, false, ◌&&◌, List, [], ◌∷◌, ◌++◌, length, get_or, take, drop}
use Rattle.std.proofs.Common.{append_assoc, arith, length-append, take_at}
use Rattle.std.proofs.Math.Seq.{drop-append-add}
use Rattle.terms.specs.Cases.{clash}
use Rattle.digits.specs.Laws.{both}
use Rattle.market_columns.specs.Columns.{Column, wide, column_ok}
use Rattle.market_columns.specs.Tables.{length_of}
use Rattle.market_spec.specs.File.{fine, end_of, line_fault}
use Rattle.market_columns.specs.Values.{Value, value_in, text_of, fits}
use Rattle.market_columns.proofs.Values.{column_writes}

-- the values of the columns that the text x begins with
unfoldable pub line_values : List Column → List ℕ → List Value
line_values [] x = []
line_values (c ∷ cs) x = value_in c (take (wide c) x) ∷ line_values cs (drop (wide c + 1) x)

unfoldable pub line_text : List Column → List Value → List ℕ
line_text [] vs = []
line_text (c ∷ cs) [] = []
line_text (c ∷ cs) (v ∷ vs) = text_of c v ++ (end_of cs ∷ line_text cs vs)

unfoldable pub line_fits : List Column → List Value → Bool
line_fits [] [] = true
line_fits [] (v ∷ vs) = false
line_fits (c ∷ cs) [] = false
line_fits (c ∷ cs) (v ∷ vs) = fits c v && line_fits cs vs

-- WHAT A LINE WITH NOTHING WRONG IS

pub record Passed (n : ℕ) (c : Column) (cs : List Column) (at e : ℕ) (s : List ℕ) : Type 0 where
  pub room : at + wide c < length s
  pub right : column_ok c (take (wide c) (drop at s)) ≡ true
  pub bar : get_or s (at + wide c) 0 ≡ end_of cs
  pub onward : line_fault n cs (at + wide c + 1) s ≡ fine e

-- its values fit, and give its bytes again
pub record LineBack (cs : List Column) (x rest : List ℕ) : Type 0 where
  pub same_bytes : line_text cs (line_values cs x) ++ rest ≡ x
  pub fitting : line_fits cs (line_values cs x) ≡ true

-- THE BYTES OF FITTING VALUES

-- a text x, a byte b, then y and what follows
module _ (x y r : List ℕ) (b w : ℕ) (l : length x ≡ w) where
  pub joint : (x ++ (b ∷ y)) ++ r ≡ x ++ (b ∷ (y ++ r))
  joint = append_assoc x (b ∷ y) r

  pub front : take w ((x ++ (b ∷ y)) ++ r) ≡ x
  front = rw joint (take_at x (b ∷ (y ++ r)) w l)

  pub after : drop (w + 1) ((x ++ (b ∷ y)) ++ r) ≡ y ++ r
  after = rw (joint, ← l) (drop-append-add x (b ∷ (y ++ r)) 1)

pub line_fits_both : (c : Column) (cs : List Column) (v : Value) (vs : List Value) → line_fits (c ∷ cs) (v ∷ vs) ≡ true → (fits c v ≡ true) × (line_fits cs vs ≡ true)
unfolding line_fits
line_fits_both c cs v vs f = both (fits c v) (line_fits cs vs) f

pub line_values_lem : (cs : List Column) (vs : List Value) (r : List ℕ) → line_fits cs vs ≡ true → line_values cs (line_text cs vs ++ r) ≡ vs
unfolding line_text line_values line_fits
line_values_lem [] [] r f = refl
line_values_lem [] (v ∷ vs) r f = absurd (clash f refl)
line_values_lem (c ∷ cs) [] r f = absurd (clash f refl)
line_values_lem (c ∷ cs) (v ∷ vs) r f =
    let p = line_fits_both c cs v vs f in
    let g = column_writes c v p.0 in
    rw (front (text_of c v) (line_text cs vs) r (end_of cs) (wide c) g.long, after (text_of c v) (line_text cs vs) r (end_of cs) (wide c) g.long, g.same_value, line_values_lem cs vs r p.1)

pub line_text_long : (cs : List Column) (vs : List Value) → line_fits cs vs ≡ true → length (line_text cs vs) ≡ length_of cs
unfolding line_text line_fits
line_text_long [] [] f = refl
line_text_long [] (v ∷ vs) f = absurd (clash f refl)
line_text_long (c ∷ cs) [] f = absurd (clash f refl)
line_text_long (c ∷ cs) (v ∷ vs) f =
    let p = line_fits_both c cs v vs f in
    let g = column_writes c v p.0 in
    rw (length-append (text_of c v) (end_of cs ∷ line_text cs vs), g.long) (omega (arith, line_text_long cs vs p.1))
