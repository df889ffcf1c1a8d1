-- Value bytes are read back: for a column, and for the columns of a line. And what the values of a
-- line are that pass.
use Rattle.std.specs.Prelude.{ℕ, suc, ◌+◌, ◌<◌, ◌≤◌, ◌^◌, ◌≡◌, refl, true, false, List, [], ◌∷◌, ◌++◌, eqb, length, get_or, take, drop}
use Rattle.std.proofs.Common.{sym, ap, ◌∙◌, ⊎_elim, append_assoc, add-zero, add_assoc, arith, length-append, length-drop, take-append-drop, drop-drop, take_at, drop_at, lt-ltb, le-ltb, eqb-true}
use Rattle.terms.specs.Cases.{two, less, clash}
use Rattle.octets.specs.Octets.{be, bytes_of, Bytes}
use Rattle.octets.specs.Numerals.{length_digits, numeral_drop, be_front, bytes_of_be, below_drop}
use Rattle.digits.specs.Laws.{both}
use Rattle.market_columns.specs.NumberLaws.{fits_number}
use Rattle.market_columns.proofs.NumberLaws.{units_below}
use Rattle.market_columns.specs.Columns.{Column, K, S, N, C, U}
use Rattle.market_columns.specs.Values.{Value, Fixed, Number, Text, fits}
use Rattle.market_spec.specs.File.{fault, fine, place_of}
use Rattle.market_spec.specs.LineValues.{line_fits, line_fits_both}
use Rattle.market_spec.specs.Told.{Told, at_place, refused, not_fine}
use Rattle.market_spec.specs.ValueBytes.{value_bytes, row_bytes, size_of, taken_of, taken_line, taken_fault}

-- how many bytes the values of columns have
abbrev pub sizes_of : List Column → ℕ
sizes_of [] = 0
sizes_of (c ∷ cs) = size_of c + sizes_of cs

-- A COLUMN

pub value_long : (c : Column) (v : Value) → fits c v ≡ true → length (value_bytes v) ≡ size_of c
unfolding fits
value_long (K t) Fixed f = refl
value_long (K t) (Number m v) f = absurd (clash f refl)
value_long (K t) (Text x) f = absurd (clash f refl)
value_long (S n) Fixed f = refl
value_long (S n) (Number m v) f = absurd (clash f refl)
value_long (S n) (Text x) f = absurd (clash f refl)
value_long (N n d) Fixed f = absurd (clash f refl)
value_long (N n d) (Number m v) f = ap (λ (i : ℕ). suc i) (length_digits 256 8 v)
value_long (N n d) (Text x) f = absurd (clash f refl)
value_long (C n) Fixed f = absurd (clash f refl)
value_long (C n) (Number m v) f = absurd (clash f refl)
value_long (C n) (Text x) f = eqb-true (length x) n (both (eqb (length x) n) _ f).0
value_long (U n) Fixed f = absurd (clash f refl)
value_long (U n) (Number m v) f = absurd (clash f refl)
value_long (U n) (Text x) f = eqb-true (length x) n f

units_back : (m v : ℕ) (r : List ℕ) → v < 256 ^ 8 → be 8 1 (m ∷ (bytes_of 8 v ++ r)) ≡ v
units_back m v r h = sym (numeral_drop 256 8 1 0 (m ∷ (bytes_of 8 v ++ r))) ∙ be_front 8 v r h

pub value_back : (c : Column) (v : Value) (r : List ℕ) → fits c v ≡ true → taken_of c (value_bytes v ++ r) ≡ v
unfolding fits taken_of
value_back (K t) Fixed r f = refl
value_back (K t) (Number m v) r f = absurd (clash f refl)
value_back (K t) (Text x) r f = absurd (clash f refl)
value_back (S n) Fixed r f = refl
value_back (S n) (Number m v) r f = absurd (clash f refl)
value_back (S n) (Text x) r f = absurd (clash f refl)
value_back (N n d) Fixed r f = absurd (clash f refl)
value_back (N n d) (Number m v) r f = ap (λ (u : ℕ). Number m u) (units_back m v r (units_below n d m v (fits_number n d m v f)))
value_back (N n d) (Text x) r f = absurd (clash f refl)
value_back (C n) Fixed r f = absurd (clash f refl)
value_back (C n) (Number m v) r f = absurd (clash f refl)
value_back (C n) (Text x) r f = ap Text (take_at x r n (eqb-true (length x) n (both (eqb (length x) n) _ f).0))
value_back (U n) Fixed r f = absurd (clash f refl)
value_back (U n) (Number m v) r f = absurd (clash f refl)
value_back (U n) (Text x) r f = ap Text (take_at x r n (eqb-true (length x) n f))

-- THE COLUMNS OF A LINE

-- what decides: the bytes of the first value, and whether it fits
pub data Judged (c : Column) (cs : List Column) (p : ℕ) (s : List ℕ) : Type 0 where
  short : taken_fault (c ∷ cs) p s ≡ fault 40 (length s) → Judged c cs p s
  unfit : taken_fault (c ∷ cs) p s ≡ fault 43 p → Judged c cs p s
  passed : p + size_of c ≤ length s → fits c (taken_of c (drop p s)) ≡ true → taken_fault (c ∷ cs) p s ≡ taken_fault cs (p + size_of c) s → Judged c cs p s

row_on : (c : Column) (cs : List Column) (p : ℕ) (s : List ℕ) → p + size_of c ≤ length s → fits c (taken_of c (drop p s)) ≡ true → taken_fault (c ∷ cs) p s ≡ taken_fault cs (p + size_of c) s
unfolding taken_fault
row_on c cs p s h f = rw (le-ltb (length s) (p + size_of c) h, f)

pub judged : (c : Column) (cs : List Column) (p : ℕ) (s : List ℕ) → Judged c cs p s
unfolding taken_fault
judged c cs p s =
    ⊎_elim (λ (l : length s < p + size_of c). short (rw (lt-ltb (length s) (p + size_of c) l)))
    (λ (l : p + size_of c ≤ length s).
    ⊎_elim (λ (f : fits c (taken_of c (drop p s)) ≡ true). passed l f (row_on c cs p s l f)) (λ (f : fits c (taken_of c (drop p s)) ≡ false). unfit (rw (le-ltb (length s) (p + size_of c) l, f))) (two (fits c (taken_of c (drop p s)))))
    (less (length s) (p + size_of c))

pub row_told : (cs : List Column) (p : ℕ) (s : List ℕ) → Told (taken_fault cs p s)
unfolding taken_fault
row_told [] p s = at_place p refl
row_told (c ∷ cs) p s = by (judged c cs p s) (row_told cs (p + size_of c) s)
  where
    on : taken_fault (c ∷ cs) p s ≡ taken_fault cs (p + size_of c) s → Told (taken_fault cs (p + size_of c) s) → Told (taken_fault (c ∷ cs) p s)
    on e (at_place q x) = at_place q (e ∙ x)
    on e (refused m q z x) = refused m q z (e ∙ x)

    by : Judged c cs p s → Told (taken_fault cs (p + size_of c) s) → Told (taken_fault (c ∷ cs) p s)
    by (short e) t = refused 40 (length s) (λ q. omega arith) e
    by (unfit e) t = refused 43 p (λ q. omega arith) e
    by (passed l f e) t = on e t

-- values that pass fit, and end within the bytes
pub record RowFits (cs : List Column) (p e : ℕ) (s : List ℕ) : Type 0 where
  pub fitting : line_fits cs (taken_line cs (drop p s)) ≡ true
  pub ends : p + sizes_of cs ≡ e
  pub inside : e ≤ length s

pub row_fits_lem : (cs : List Column) (p e : ℕ) (s : List ℕ) → p ≤ length s → taken_fault cs p s ≡ fine e → RowFits cs p e s
unfolding taken_fault taken_line line_fits
row_fits_lem [] p e s h q = let z : p ≡ e = ap place_of q in record { fitting = refl; ends = omega arith; inside = omega arith }
row_fits_lem (c ∷ cs) p e s h q = by (λ l x. row_fits_lem cs (p + size_of c) e s l x) (judged c cs p s)
  where
    by : (p + size_of c ≤ length s → taken_fault cs (p + size_of c) s ≡ fine e → RowFits cs (p + size_of c) e s) → Judged c cs p s → RowFits (c ∷ cs) p e s
    by g (short x) = absurd (not_fine 40 (length s) e (λ z. omega arith) (sym x ∙ q))
    by g (unfit x) = absurd (not_fine 43 p e (λ z. omega arith) (sym x ∙ q))
    by g (passed l f x) =
        let r = g l (sym x ∙ q) in
        record { fitting = rw (f, drop-drop (size_of c) p s) r.fitting; ends = omega (arith, r.ends); inside = r.inside }

-- fitting values as bytes: nothing is wrong with them, and they are read back
pub row_long : (cs : List Column) (vs : List Value) → line_fits cs vs ≡ true → length (row_bytes vs) ≡ sizes_of cs
unfolding row_bytes line_fits
row_long [] [] f = refl
row_long [] (v ∷ vs) f = absurd (clash f refl)
row_long (c ∷ cs) [] f = absurd (clash f refl)
row_long (c ∷ cs) (v ∷ vs) f =
    let p = line_fits_both c cs v vs f in
    rw (length-append (value_bytes v) (row_bytes vs), value_long c v p.0, row_long cs vs p.1)

pub record RowMade (cs : List Column) (vs : List Value) (p : ℕ) (s r : List ℕ) : Type 0 where
  pub answered : taken_fault cs p s ≡ fine (p + sizes_of cs)
  pub same_values : taken_line cs (drop p s) ≡ vs
  pub onward : drop (p + sizes_of cs) s ≡ r
  pub inside : p + sizes_of cs ≤ length s

pub row_made : (cs : List Column) (vs : List Value) (p : ℕ) (s r : List ℕ) → line_fits cs vs ≡ true → p ≤ length s → drop p s ≡ row_bytes vs ++ r → RowMade cs vs p s r
unfolding taken_fault taken_line row_bytes line_fits
row_made [] [] p s r f h e = record { answered = rw (add-zero p); same_values = refl; onward = rw (add-zero p) e; inside = omega arith }
row_made [] (v ∷ vs) p s r f h e = absurd (clash f refl)
row_made (c ∷ cs) [] p s r f h e = absurd (clash f refl)
row_made (c ∷ cs) (v ∷ vs) p s r f h e =
    let q = line_fits_both c cs v vs f in
    let l = value_long c v q.0 in
    let x : drop p s ≡ value_bytes v ++ (row_bytes vs ++ r) = e ∙ append_assoc (value_bytes v) (row_bytes vs) r in
    let y : taken_of c (drop p s) ≡ v = ap (taken_of c) x ∙ value_back c v (row_bytes vs ++ r) q.0 in
    let z : drop (p + size_of c) s ≡ row_bytes vs ++ r = sym (drop-drop (size_of c) p s) ∙ ap (drop (size_of c)) x ∙ drop_at (value_bytes v) (row_bytes vs ++ r) (size_of c) l in
    let k : p + size_of c ≤ length s = omega (arith, length-drop p s, ap length x ∙ length-append (value_bytes v) (row_bytes vs ++ r), l) in
    let m = row_made cs vs (p + size_of c) s r q.1 k z in
    let a : p + size_of c + sizes_of cs ≡ p + (size_of c + sizes_of cs) = add_assoc p (size_of c) (sizes_of cs) in
    record {
      answered = row_on c cs p s k (rw y q.0) ∙ rw (← a) m.answered;
      same_values = rw (y, drop-drop (size_of c) p s, m.same_values);
      onward = rw (← a) m.onward;
      inside = rw (← a) m.inside;
    }

-- the values that were taken give the bytes again
value_bytes_lem : (c : Column) (x : List ℕ) → Bytes x → size_of c ≤ length x → value_bytes (taken_of c x) ≡ take (size_of c) x
unfolding taken_of
value_bytes_lem (K t) x b h = refl
value_bytes_lem (S n) x b h = refl
value_bytes_lem (N n d) x b h = number x b h
  where
    number : (y : List ℕ) → Bytes y → 9 ≤ length y → get_or y 0 0 ∷ bytes_of 8 (be 8 1 y) ≡ take 9 y
    number [] g k = absurd (omega arith)
    number (m ∷ y) g k = ap (λ (z : List ℕ). m ∷ z) (bytes_of_be 8 1 (m ∷ y) g (omega arith))
value_bytes_lem (C n) x b h = refl
value_bytes_lem (U n) x b h = refl

pub row_bytes_lem : (cs : List Column) (p e : ℕ) (s : List ℕ) → Bytes s → p ≤ length s → taken_fault cs p s ≡ fine e → row_bytes (taken_line cs (drop p s)) ++ drop e s ≡ drop p s
unfolding taken_fault taken_line row_bytes
row_bytes_lem [] p e s b h q = let z : p ≡ e = ap place_of q in rw z
row_bytes_lem (c ∷ cs) p e s b h q = by (λ l x. row_bytes_lem cs (p + size_of c) e s b l x) (judged c cs p s)
  where
    by : (p + size_of c ≤ length s → taken_fault cs (p + size_of c) s ≡ fine e → row_bytes (taken_line cs (drop (p + size_of c) s)) ++ drop e s ≡ drop (p + size_of c) s) → Judged c cs p s → (value_bytes (taken_of c (drop p s)) ++ row_bytes (taken_line cs (drop (size_of c) (drop p s)))) ++ drop e s ≡ drop p s
    by g (short x) = absurd (not_fine 40 (length s) e (λ z. omega arith) (sym x ∙ q))
    by g (unfit x) = absurd (not_fine 43 p e (λ z. omega arith) (sym x ∙ q))
    by g (passed l f x) =
        let r = g l (sym x ∙ q) in
        let v = value_bytes_lem c (drop p s) (below_drop 256 p s b) (rw length-drop (omega arith)) in
        append_assoc (value_bytes (taken_of c (drop p s))) (row_bytes (taken_line cs (drop (size_of c) (drop p s)))) (drop e s)
        ∙ rw (v, drop-drop (size_of c) p s, r, ← drop-drop (size_of c) p s) (take-append-drop (size_of c) (drop p s))
