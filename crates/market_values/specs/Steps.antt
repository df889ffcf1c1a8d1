-- How the functions go by a column's numbers, and a line's type by its number.
use Rattle.std.specs.Prelude.{Option, Some, None, ℕ, ◌+◌, ◌≤◌, ◌<◌, ◌≡◌, refl, Bool, true, false, ◌&&◌, ◌⊎◌, List, leb, length, get_or, take, drop}
use Rattle.std.proofs.Common.{sym, ap, ◌∙◌, ⊎_elim, lit<, lit≤, arith, add-zero, get_or-drop, le-leb}
use Rattle.terms.specs.Paper.{Paper, pick}
use Rattle.terms.specs.Cases.{and_false}
use Rattle.digits.specs.Digits.{nothing}
use Rattle.octets.specs.Octets.{be, laid}
use Rattle.octets.specs.Numerals.{numeral_drop}
use Rattle.octets.specs.Papers.{laid_if_room, laid_there}
use Rattle.market.specs.Starts.{line_number}
use Rattle.market.specs.declared.LineType.{LineType}
use Rattle.market_columns.specs.Numbers.{amount, number_fits, column_text}
use Rattle.market_columns.specs.Pieces.{column_length}
use Rattle.market_columns.specs.Columns.{row_of, wide, kind_of, kind_number, FormIs, ok_at, is_fixed, fixed_text}
use Rattle.market_columns.specs.declared.Kind.{Kind}
use Rattle.market_columns.specs.declared.Kind.TheVariants.{Constant, Blank, Text, Name}
use Rattle.market_columns.specs.ColumnLaws.{ok_there}
use Rattle.market_columns.specs.Values.{text_of, fits}
use Rattle.market_columns.proofs.Values.{column_writes}
use Rattle.market_spec.specs.ValueBytes.{size_of, taken_of, size_fixed, size_number, size_text, fits_fixed, fits_number, fits_text, fits_name, text_fixed, text_number, text_own}

-- which kinds have no value of their own, and which their bytes
pub fixed_kind : {k : Kind} → (k ≡ Constant) ⊎ (k ≡ Blank) → kind_number k ≤ 1
fixed_kind e = ⊎_elim (λ q. rw q (lit≤ tt)) (λ q. rw q (lit≤ tt)) e

pub own_kind : {k : Kind} → (k ≡ Text) ⊎ (k ≡ Name) → 2 < kind_number k
own_kind e = ⊎_elim (λ q. rw q (lit< tt)) (λ q. rw q (lit< tt)) e

-- what nine bytes say, where their sign is one, and where it is none
pub nine_say : (b : Bool) (m n v u : ℕ) → amount m v ≡ pick b (amount n u) nothing → (m ≡ n) × (v ≡ u)
nine_say true m n v u e = (ap (λ (p : Paper). get_or p.values 0 0) e, ap (λ (p : Paper). get_or p.values 1 0) e)
nine_say false m n v u e = absurd (omega (arith, ap (λ (p : Paper). length p.values) e))

pub nine_not : (b : Bool) (m v : ℕ) → nothing ≡ pick b (amount m v) nothing → b ≡ false
nine_not true m v e = absurd (omega (arith, ap (λ (p : Paper). length p.values) e))
nine_not false m v e = refl

unfit_sign : (w d m v : ℕ) → leb m 1 ≡ false → number_fits w d m v ≡ false
unfolding number_fits
unfit_sign w d m v e = rw e (and_false (leb w 19))

-- a line's type as `type_of` has it, 0 where there is none
abbrev pub some_number : Option LineType → ℕ
some_number (Some l) = line_number l
some_number None = 0

module _ (i p : ℕ) (s : List ℕ) (k w d start : ℕ) (f : FormIs (row_of i) k w d start) where
  x : List ℕ
  x = drop p s

  kind : kind_of (row_of i) ≡ k
  kind = sym f.kind_is

  -- SIZE

  pub step_size_0 : k ≤ 1 → size_of (row_of i) ≡ 0
  step_size_0 h = size_fixed s (row_of i) (rw f.kind_is at h)

  pub step_size_9 : k ≡ 2 → size_of (row_of i) ≡ 9
  step_size_9 h = size_number s (row_of i) (rw f.kind_is at h)

  pub step_size_w : 2 < k → size_of (row_of i) ≡ w
  step_size_w h = size_text s (row_of i) (rw f.kind_is at h) ∙ sym f.width_is

  -- FITS

  pub step_fixed : k ≤ 1 → fits (row_of i) (taken_of (row_of i) (drop p s)) ≡ true
  step_fixed h = fits_fixed (drop p s) (row_of i) (rw f.kind_is at h)

  first : get_or (drop p s) 0 0 ≡ get_or s p 0
  first = get_or-drop p s 0 0 ∙ rw (add-zero p)

  units : be 8 1 (drop p s) ≡ be 8 (p + 1) s
  units = numeral_drop 256 8 p 1 s

  pub step_number : k ≡ 2 → fits (row_of i) (taken_of (row_of i) (drop p s)) ≡ number_fits w d (get_or s p 0) (be 8 (p + 1) s)
  step_number h = fits_number (drop p s) (row_of i) (rw f.kind_is at h) ∙ rw (first, units, ← f.width_is, ← f.decimals_is)

  pub step_sign : k ≡ 2 → leb (get_or s p 0) 1 ≡ false → fits (row_of i) (taken_of (row_of i) (drop p s)) ≡ false
  step_sign h e = step_number h ∙ unfit_sign w d (get_or s p 0) (be 8 (p + 1) s) e

  module _ (r : p + w ≤ length s) where
    long : length (take (wide (row_of i)) (drop p s)) ≡ wide (row_of i)
    long = column_length s p (wide (row_of i)) (rw f.width_is at r)

    pub step_text : k ≡ 3 → fits (row_of i) (taken_of (row_of i) (drop p s)) ≡ ok_at i p s
    step_text h = fits_text (drop p s) (row_of i) (rw f.kind_is at h) long ∙ sym (ok_there i p s (le-leb (p + wide (row_of i)) (length s) (rw f.width_is at r)))

    pub step_name : 3 < k → fits (row_of i) (taken_of (row_of i) (drop p s)) ≡ true
    step_name h = fits_name (drop p s) (row_of i) (rw f.kind_is at h) long

  -- TEXT

  pub long_text : fits (row_of i) (taken_of (row_of i) (drop p s)) ≡ true → length (text_of (row_of i) (taken_of (row_of i) (drop p s))) ≡ w
  long_text e = (column_writes (row_of i) (taken_of (row_of i) (drop p s)) e).long ∙ sym f.width_is

  module _ (at : ℕ) (o : List ℕ) (room : at + w ≤ length o) where
    pub put_fixed_is : k ≤ 1 → (y : List ℕ) → y ≡ pick (is_fixed (row_of i) && leb (at + wide (row_of i)) (length o)) (laid at (fixed_text (row_of i)) o) o → y ≡ laid at (text_of (row_of i) (taken_of (row_of i) (drop p s))) o
    put_fixed_is h y e =
        e ∙ rw (le-leb (kind_of (row_of i)) 1 (rw f.kind_is at h), le-leb (at + wide (row_of i)) (length o) (rw f.width_is at room)) (ap (λ (t : List ℕ). laid at t o) (sym (text_fixed (drop p s) (row_of i) (rw f.kind_is at h))))

    pub put_number_is : k ≡ 2 → fits (row_of i) (taken_of (row_of i) (drop p s)) ≡ true → (y : List ℕ) → y ≡ pick (number_fits w d (get_or s p 0) (be 8 (p + 1) s) && leb (at + w) (length o)) (laid at (column_text w d (get_or s p 0) (be 8 (p + 1) s)) o) o → y ≡ laid at (text_of (row_of i) (taken_of (row_of i) (drop p s))) o
    put_number_is h g y e =
        e ∙ rw (sym (step_number h) ∙ g, le-leb (at + w) (length o) room) (ap (λ (t : List ℕ). laid at t o) (sym (text_number (drop p s) (row_of i) (rw f.kind_is at h) ∙ rw (first, units, ← f.width_is, ← f.decimals_is))))

    pub put_own_is : 2 < k → p + w ≤ length s → (t y : List ℕ) → t ≡ take w (drop p s) → y ≡ laid_if_room at t o → y ≡ laid at (text_of (row_of i) (taken_of (row_of i) (drop p s))) o
    put_own_is h r t y q e =
        let l : length t ≡ w = ap length q ∙ column_length s p w r in
        e ∙ laid_there at w t o l (le-leb (at + w) (length o) room)
        ∙ ap (λ (z : List ℕ). laid at z o) (q ∙ ap (λ (n : ℕ). take n (drop p s)) f.width_is ∙ sym (text_own (drop p s) (row_of i) (rw f.kind_is at h)))

-- values of three kinds always fit
pub step_true : (i p : ℕ) (s : List ℕ) (k : Kind) (w d start : ℕ) → FormIs (row_of i) (kind_number k) w d start → p + size_of (row_of i) ≤ length s → (k ≡ Constant) ⊎ ((k ≡ Blank) ⊎ (k ≡ Name)) → fits (row_of i) (taken_of (row_of i) (drop p s)) ≡ true
step_true i p s k w d start f h e =
    ⊎_elim (λ q. step_fixed i p s (kind_number k) w d start f (omega (arith, ap kind_number q)))
    (λ r. ⊎_elim (λ q. step_fixed i p s (kind_number k) w d start f (omega (arith, ap kind_number q)))
    (λ q. step_name i p s (kind_number k) w d start f (omega (arith, h, step_size_w i p s (kind_number k) w d start f (omega (arith, ap kind_number q)))) (omega (arith, ap kind_number q))) r)
    e
