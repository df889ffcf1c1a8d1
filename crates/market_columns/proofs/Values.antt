-- What a column, a line and a file say beside their constants, blanks, bars, count and sum; and the
-- bytes made of that.
use Rattle.std.specs.Prelude.{ℕ, ◌≡◌, refl, true, ◌||◌, List, [], ◌++◌, eqb, length, replicate}
use Rattle.std.proofs.Common.{sym, ap, ◌∙◌, inl, inr, append-nil, arith, take_all, eq-eqb, eqb-true}
use Rattle.std.proofs.lemmas.List.{length-replicate}
use Rattle.terms.specs.Cases.{clash}
use Rattle.digits.specs.Laws.{both}
use Rattle.market_columns.specs.Numbers.{spaces, number_in}
use Rattle.market_columns.specs.NumberLaws.{number_fits_lem, fits_number, SaysOrNot}
use Rattle.market_columns.specs.Pieces.{spaces_front, spaces_stand}
use Rattle.market_columns.specs.Columns.{Column, K, S, N, C, U, wide, blank, column_ok}
use Rattle.market_columns.specs.ColumnLaws.{alike_self, alike_is}
use Rattle.market_columns.proofs.NumberLaws.{number_says, says_fits, says_back, number_either, column_long, column_fore}
use Rattle.market_columns.specs.Values.{value_in, Back, text_of, fits, Value, Text, Number, Fixed, Fore}

blank_is : (x : List ℕ) → blank x ≡ true → x ≡ replicate (length x) 32
blank_is x e =
    let p : spaces x ≡ length x = eqb-true (spaces x) (length x) e in
    sym (take_all (length x) x (omega arith)) ∙ (rw p at (spaces_stand x))

replicate_blank : (n : ℕ) → blank (replicate n 32) ≡ true
unfolding spaces
replicate_blank n =
    let a : replicate n 32 ++ [] ≡ replicate {A = ℕ} n 32 = append-nil (replicate n 32) in
    let e : spaces (replicate n 32) ≡ n = ap spaces (sym a) ∙ spaces_front n [] refl in
    rw (e, length-replicate {A = ℕ} n 32) (eq-eqb n n refl)

number_back : (n d : ℕ) (x : List ℕ) → length x ≡ n → SaysOrNot (number_in d x) → column_ok (N n d) x ≡ true → Back (N n d) x
unfolding column_ok text_of value_in fits
number_back n d x l (inl e) o = absurd (clash (rw e at o) refl)
number_back n d x l (inr (m, (v, e))) o =
    let r = number_says d x m v e in
    record {
      same_bytes = rw (e, ← l) (says_back d x m v r);
      fitting = rw (e, ← l) (number_fits_lem (length x) d m v (says_fits d x m v r));
    }

pub column_reads : (c : Column) (x : List ℕ) → length x ≡ wide c → column_ok c x ≡ true → Back c x
unfolding column_ok text_of value_in fits
column_reads (K t) x l o = record { same_bytes = alike_is t x o; fitting = refl }
column_reads (S n) x l o = record { same_bytes = rw (← l) (sym (blank_is x o)); fitting = refl }
column_reads (N n d) x l o = number_back n d x l (number_either d x) o
column_reads (C n) x l o = record { same_bytes = refl; fitting = rw (eq-eqb (length x) n l, o) }
column_reads (U n) x l o = record { same_bytes = refl; fitting = eq-eqb (length x) n l }

pub column_writes : (c : Column) (v : Value) → fits c v ≡ true → Fore c v
unfolding column_ok text_of value_in fits
column_writes (K t) Fixed f = record { long = refl; right = alike_self t; same_value = refl }
column_writes (K t) (Number m v) f = absurd (clash f refl)
column_writes (K t) (Text x) f = absurd (clash f refl)
column_writes (S n) Fixed f = record { long = length-replicate n 32; right = replicate_blank n; same_value = refl }
column_writes (S n) (Number m v) f = absurd (clash f refl)
column_writes (S n) (Text x) f = absurd (clash f refl)
column_writes (N n d) Fixed f = absurd (clash f refl)
column_writes (N n d) (Number m v) f =
    let g = fits_number n d m v f in
    let e = column_fore n d m v g in
    record { long = column_long n d m v g; right = rw e; same_value = rw e }
column_writes (N n d) (Text x) f = absurd (clash f refl)
column_writes (C n) Fixed f = absurd (clash f refl)
column_writes (C n) (Number m v) f = absurd (clash f refl)
column_writes (C n) (Text x) f =
    let p = both (eqb (length x) n) (eqb (spaces x) 0 || blank x) f in
    record { long = eqb-true (length x) n p.0; right = p.1; same_value = refl }
column_writes (U n) Fixed f = absurd (clash f refl)
column_writes (U n) (Number m v) f = absurd (clash f refl)
column_writes (U n) (Text x) f = record { long = eqb-true (length x) n f; right = refl; same_value = refl }
