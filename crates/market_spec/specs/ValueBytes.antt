-- Values as bytes: a number has nine, its sign and its units high byte first; text and name have
-- their own; constants and blanks none.
use Rattle.std.specs.Prelude.{ℕ, ◌+◌, ◌<◌, ◌≤◌, ◌≡◌, true, false, not, List, [], ◌∷◌, ◌++◌, ltb, length, get_or, take, drop, set}
use Rattle.std.proofs.Math.Path.{refl}
use Rattle.std.proofs.Common.{sym, ap, ◌∙◌, ⊎_elim, arith, drop-drop}
use borrow.Author.Tests.{lt-ltb, le-ltb, eq-eqb}
use Rattle.terms.specs.Paper.{Paper, pick}
use Rattle.terms.specs.Cases.{two, less}
use Rattle.octets.specs.Octets.{be, bytes_of, laid}
use Rattle.octets.specs.Overlays.{laid_append, length_laid, laid_one}
use Rattle.market_columns.specs.Numbers.{column_text, number_fits}
use Rattle.market_columns.specs.Columns.{Column, K, S, N, C, U, row_of, columns, wide, kind_of, decimals_of, column_ok, fixed_text}
use Rattle.market_columns.specs.Tables.{length_of}
use Rattle.market_spec.specs.File.{fault, fine, end_of}
use Rattle.market_spec.specs.Lines.{columns_next, columns_none}
use Rattle.market_columns.specs.Values.{Value, Fixed, Number, Text, text_of, fits}
use Rattle.market_columns.proofs.Values.{column_writes}
use Rattle.market_spec.specs.LineValues.{line_text}

abbrev pub value_bytes : Value → List ℕ
value_bytes Fixed = []
value_bytes (Number m v) = m ∷ bytes_of 8 v
value_bytes (Text x) = x

unfoldable pub row_bytes : List Value → List ℕ
row_bytes [] = []
row_bytes (v ∷ vs) = value_bytes v ++ row_bytes vs

-- how many bytes a column's value has
abbrev pub size_of : Column → ℕ
size_of (K t) = 0
size_of (S n) = 0
size_of (N n d) = 9
size_of (C n) = n
size_of (U n) = n

-- the value that bytes begin with, for a column
unfoldable pub taken_of : Column → List ℕ → Value
taken_of (K t) x = Fixed
taken_of (S n) x = Fixed
taken_of (N n d) x = Number (get_or x 0 0) (be 8 1 x)
taken_of (C n) x = Text (take n x)
taken_of (U n) x = Text (take n x)

unfoldable pub taken_line : List Column → List ℕ → List Value
taken_line [] x = []
taken_line (c ∷ cs) x = taken_of c x ∷ taken_line cs (drop (size_of c) x)

-- the values of the columns cs, from the place p on: 40 at the end where more is due, 43 at a value
-- that does not fit
unfoldable pub taken_fault : List Column → ℕ → List ℕ → Paper
taken_fault [] p s = fine p
taken_fault (c ∷ cs) p s =
    pick (ltb (length s) (p + size_of c)) (fault 40 (length s))
    (pick (not (fits c (taken_of c (drop p s)))) (fault 43 p)
    (taken_fault cs (p + size_of c) s))

-- BY KIND

module _ (x : List ℕ) where
  pub size_fixed : (c : Column) → kind_of c ≤ 1 → size_of c ≡ 0
  size_fixed (K t) e = refl
  size_fixed (S n) e = refl
  size_fixed (N n d) e = absurd (omega arith)
  size_fixed (C n) e = absurd (omega arith)
  size_fixed (U n) e = absurd (omega arith)

  pub size_number : (c : Column) → kind_of c ≡ 2 → size_of c ≡ 9
  size_number (K t) e = absurd (omega arith)
  size_number (S n) e = absurd (omega arith)
  size_number (N n d) e = refl
  size_number (C n) e = absurd (omega arith)
  size_number (U n) e = absurd (omega arith)

  pub size_text : (c : Column) → 2 < kind_of c → size_of c ≡ wide c
  size_text (K t) e = absurd (omega arith)
  size_text (S n) e = absurd (omega arith)
  size_text (N n d) e = absurd (omega arith)
  size_text (C n) e = refl
  size_text (U n) e = refl

  pub fits_fixed : (c : Column) → kind_of c ≤ 1 → fits c (taken_of c x) ≡ true
  unfolding fits taken_of
  fits_fixed (K t) e = refl
  fits_fixed (S n) e = refl
  fits_fixed (N n d) e = absurd (omega arith)
  fits_fixed (C n) e = absurd (omega arith)
  fits_fixed (U n) e = absurd (omega arith)

  pub fits_number : (c : Column) → kind_of c ≡ 2 → fits c (taken_of c x) ≡ number_fits (wide c) (decimals_of c) (get_or x 0 0) (be 8 1 x)
  unfolding fits taken_of
  fits_number (K t) e = absurd (omega arith)
  fits_number (S n) e = absurd (omega arith)
  fits_number (N n d) e = refl
  fits_number (C n) e = absurd (omega arith)
  fits_number (U n) e = absurd (omega arith)

  pub fits_text : (c : Column) → kind_of c ≡ 3 → length (take (wide c) x) ≡ wide c → fits c (taken_of c x) ≡ column_ok c (take (wide c) x)
  unfolding fits taken_of column_ok
  fits_text (K t) e l = absurd (omega arith)
  fits_text (S n) e l = absurd (omega arith)
  fits_text (N n d) e l = absurd (omega arith)
  fits_text (C n) e l = rw (eq-eqb (length (take n x)) n l)
  fits_text (U n) e l = absurd (omega arith)

  pub fits_name : (c : Column) → 3 < kind_of c → length (take (wide c) x) ≡ wide c → fits c (taken_of c x) ≡ true
  unfolding fits taken_of
  fits_name (K t) e l = absurd (omega arith)
  fits_name (S n) e l = absurd (omega arith)
  fits_name (N n d) e l = absurd (omega arith)
  fits_name (C n) e l = absurd (omega arith)
  fits_name (U n) e l = eq-eqb (length (take n x)) n l

  pub text_fixed : (c : Column) → kind_of c ≤ 1 → text_of c (taken_of c x) ≡ fixed_text c
  unfolding text_of taken_of fixed_text
  text_fixed (K t) e = refl
  text_fixed (S n) e = refl
  text_fixed (N n d) e = absurd (omega arith)
  text_fixed (C n) e = absurd (omega arith)
  text_fixed (U n) e = absurd (omega arith)

  pub text_number : (c : Column) → kind_of c ≡ 2 → text_of c (taken_of c x) ≡ column_text (wide c) (decimals_of c) (get_or x 0 0) (be 8 1 x)
  unfolding text_of taken_of
  text_number (K t) e = absurd (omega arith)
  text_number (S n) e = absurd (omega arith)
  text_number (N n d) e = refl
  text_number (C n) e = absurd (omega arith)
  text_number (U n) e = absurd (omega arith)

  pub text_own : (c : Column) → 2 < kind_of c → text_of c (taken_of c x) ≡ take (wide c) x
  unfolding text_of taken_of
  text_own (K t) e = absurd (omega arith)
  text_own (S n) e = absurd (omega arith)
  text_own (N n d) e = absurd (omega arith)
  text_own (C n) e = refl
  text_own (U n) e = refl

-- ONE TURN OF EACH LOOP

module _ (i e p z : ℕ) (s : List ℕ) (h : i < e) (k : e ≤ 58) (l : z ≡ size_of (row_of i)) where
  opened : taken_fault (columns i e) p s ≡ taken_fault (row_of i ∷ columns (i + 1) e) p s
  opened = ap (λ (cs : List Column). taken_fault cs p s) (columns_next i e h k)

  pub taken_cut : length s < p + z → taken_fault (columns i e) p s ≡ fault 40 (length s)
  unfolding taken_fault
  taken_cut r = opened ∙ rw (lt-ltb (length s) (p + size_of (row_of i)) (rw l at r))

  pub taken_unfit : p + z ≤ length s → fits (row_of i) (taken_of (row_of i) (drop p s)) ≡ false → taken_fault (columns i e) p s ≡ fault 43 p
  unfolding taken_fault
  taken_unfit r f = opened ∙ rw (le-ltb (length s) (p + size_of (row_of i)) (rw l at r), f)

  pub taken_on : p + z ≤ length s → fits (row_of i) (taken_of (row_of i) (drop p s)) ≡ true → taken_fault (columns i e) p s ≡ taken_fault (columns (i + 1) e) (p + z) s
  unfolding taken_fault
  taken_on r f = opened ∙ rw (le-ltb (length s) (p + size_of (row_of i)) (rw l at r), f) (ap (λ (n : ℕ). taken_fault (columns (i + 1) e) (p + n) s) (sym l))

pub taken_none : (i e p : ℕ) (s : List ℕ) → e ≤ i → taken_fault (columns i e) p s ≡ fine p
unfolding taken_fault
taken_none i e p s h = rw (columns_none i e h)

-- what is left to be laid of a line, at a place of a buffer, and what is left of its values
pub line_next : (i e p : ℕ) (s : List ℕ) → i < e → e ≤ 58 → line_text (columns i e) (taken_line (columns i e) (drop p s)) ≡ text_of (row_of i) (taken_of (row_of i) (drop p s)) ++ (end_of (columns (i + 1) e) ∷ line_text (columns (i + 1) e) (taken_line (columns (i + 1) e) (drop (p + size_of (row_of i)) s)))
unfolding line_text taken_line
line_next i e p s h k = rw (columns_next i e h k, drop-drop (size_of (row_of i)) p s)

pub line_none : (i e p : ℕ) (s : List ℕ) → e ≤ i → line_text (columns i e) (taken_line (columns i e) (drop p s)) ≡ []
unfolding line_text
line_none i e p s h = rw (columns_none i e h)

-- a column laid, and the byte behind it: what is left, laid over that, gives the same
pub lay_next : (at w b : ℕ) (x y d d1 : List ℕ) → length x ≡ w → at + w + 1 ≤ length d → d1 ≡ laid at x d → laid at (x ++ (b ∷ y)) d ≡ laid (at + w + 1) y (set d1 (at + w) b)
lay_next at w b x y d d1 l r e =
    let n : length d1 ≡ length d = ap length e ∙ length_laid at x d (omega arith) in
    laid_append at x (b ∷ y) d (omega arith)
    ∙ rw (l, ← e) (laid_append (at + w) (b ∷ []) y d1 (omega arith) ∙ rw (laid_one (at + w) b d1 (omega arith)))

-- THE LOOP THAT LAYS A LINE

-- the values from a place on are whole and fit
abbrev pub AllFit : List Column → ℕ → List ℕ → Type 0
AllFit cs p s = (taken_fault cs p s).number ≡ 0

pub record Fitting (i e p : ℕ) (s : List ℕ) : Type 0 where
  pub whole : p + size_of (row_of i) ≤ length s
  pub fitting : fits (row_of i) (taken_of (row_of i) (drop p s)) ≡ true
  pub onward : AllFit (columns (i + 1) e) (p + size_of (row_of i)) s

pub all_next : (i e p : ℕ) (s : List ℕ) → i < e → e ≤ 58 → AllFit (columns i e) p s → Fitting i e p s
all_next i e p s h k g =
    ⊎_elim (λ (l : length s < p + size_of (row_of i)). absurd (omega (arith, ap (λ (x : Paper). x.number) (taken_cut i e p (size_of (row_of i)) s h k refl l))))
    (λ (l : p + size_of (row_of i) ≤ length s).
    ⊎_elim (λ (f : fits (row_of i) (taken_of (row_of i) (drop p s)) ≡ true).
    record { whole = l; fitting = f; onward = ap (λ (x : Paper). x.number) (sym (taken_on i e p (size_of (row_of i)) s h k refl l f)) ∙ g })
    (λ (f : fits (row_of i) (taken_of (row_of i) (drop p s)) ≡ false). absurd (omega (arith, ap (λ (x : Paper). x.number) (taken_unfit i e p (size_of (row_of i)) s h k refl l f))))
    (two (fits (row_of i) (taken_of (row_of i) (drop p s)))))
    (less (length s) (p + size_of (row_of i)))

pub length_next : (i e : ℕ) → i < e → e ≤ 58 → length_of (columns i e) ≡ wide (row_of i) + 1 + length_of (columns (i + 1) e)
length_next i e h k = ap length_of (columns_next i e h k)

-- one column and the byte behind it laid
pub line_laid : (i e p at : ℕ) (s d d1 g : List ℕ) → i < e → e ≤ 58 → Fitting i e p s → at + wide (row_of i) + 1 ≤ length d → d1 ≡ laid at (text_of (row_of i) (taken_of (row_of i) (drop p s))) d
    → laid at (line_text (columns i e) (taken_line (columns i e) (drop p s))) d ≡ g
    → laid (at + wide (row_of i) + 1) (line_text (columns (i + 1) e) (taken_line (columns (i + 1) e) (drop (p + size_of (row_of i)) s))) (set d1 (at + wide (row_of i)) (end_of (columns (i + 1) e))) ≡ g
line_laid i e p at s d d1 g h k f r q z =
    sym (lay_next at (wide (row_of i)) (end_of (columns (i + 1) e)) (text_of (row_of i) (taken_of (row_of i) (drop p s))) (line_text (columns (i + 1) e) (taken_line (columns (i + 1) e) (drop (p + size_of (row_of i)) s))) d d1 (column_writes (row_of i) (taken_of (row_of i) (drop p s)) f.fitting).long r q)
    ∙ ap (λ (t : List ℕ). laid at t d) (sym (line_next i e p s h k))
    ∙ z
