-- What a column, a line and a file say beside their constants, blanks, bars, count and sum; and the
-- bytes made of that.
use Rattle.std.specs.Prelude.{ℕ, ◌≡◌, Bool, true, false, ◌&&◌, ◌||◌, List, [], ◌∷◌, eqb, length, replicate}
use Rattle.market_columns.specs.Numbers.{spaces, number_in, column_text, number_fits}
use Rattle.market_columns.specs.Columns.{Column, K, S, N, C, U, wide, blank, column_ok}

-- A COLUMN

-- what a column says: nothing of its own, a number (sign and units), or its bytes
pub data Value : Type 0 where
  Fixed : Value
  Number : ℕ → ℕ → Value
  Text : List ℕ → Value

abbrev pub number_of : List ℕ → Value
number_of [] = Fixed
number_of (m ∷ []) = Fixed
number_of (m ∷ v ∷ vs) = Number m v

unfoldable pub value_in : Column → List ℕ → Value
value_in (K t) x = Fixed
value_in (S n) x = Fixed
value_in (N n d) x = number_of (number_in d x).values
value_in (C n) x = Text x
value_in (U n) x = Text x

-- the bytes of a column, made of its value
unfoldable pub text_of : Column → Value → List ℕ
text_of (K t) v = t
text_of (S n) v = replicate n 32
text_of (N n d) Fixed = []
text_of (N n d) (Number m v) = column_text n d m v
text_of (N n d) (Text x) = []
text_of (C n) Fixed = []
text_of (C n) (Number m v) = []
text_of (C n) (Text x) = x
text_of (U n) Fixed = []
text_of (U n) (Number m v) = []
text_of (U n) (Text x) = x

-- a value fits a column
unfoldable pub fits : Column → Value → Bool
fits (K t) Fixed = true
fits (K t) (Number m v) = false
fits (K t) (Text x) = false
fits (S n) Fixed = true
fits (S n) (Number m v) = false
fits (S n) (Text x) = false
fits (N n d) Fixed = false
fits (N n d) (Number m v) = number_fits n d m v
fits (N n d) (Text x) = false
fits (C n) Fixed = false
fits (C n) (Number m v) = false
fits (C n) (Text x) = eqb (length x) n && (eqb (spaces x) 0 || blank x)
fits (U n) Fixed = false
fits (U n) (Number m v) = false
fits (U n) (Text x) = eqb (length x) n

-- COLUMN-BACK, COLUMN-FORE

-- what a right column says fits it, and gives its bytes again
pub record Back (c : Column) (x : List ℕ) : Type 0 where
  pub same_bytes : text_of c (value_in c x) ≡ x
  pub fitting : fits c (value_in c x) ≡ true

-- the bytes made of a fitting value are a right column, which says that value
pub record Fore (c : Column) (v : Value) : Type 0 where
  pub long : length (text_of c v) ≡ wide c
  pub right : column_ok c (text_of c v) ≡ true
  pub same_value : value_in c (text_of c v) ≡ v
