-- The laws of a number column. `number_says`, `says_number`: a value is given exactly when the
-- column has 003's form. `column_back`: writing what
-- was read gives the same bytes. `column_fore`: reading what was written gives the value.
use Rattle.std.specs.Prelude.{ℕ, ◌%◌, ◌<◌, ◌≤◌, ◌^◌, ◌≡◌, true, false, ◌&&◌, not, ◌⊎◌}
use Rattle.std.proofs.Common.{add-one, arith, lit<, le-leb, leb-true}
use Rattle.std.proofs.Math.Logic.{⊎_elim}
use Rattle.std.proofs.Math.Nat.{one-le-pow, pow-le-pow_right}
use Rattle.std.proofs.Math.Dec.{leb, eqb}
use Rattle.std.proofs.Math.ListN.{length}
use Rattle.std.proofs.lemmas.Bool.{not-true}
use Rattle.terms.specs.Cases.{two}
use Rattle.terms.specs.Paper.{Paper}
use Rattle.digits.specs.Digits.{nothing}
use Rattle.digits.specs.Laws.{both, length_decimal}
use Rattle.market_columns.specs.Numbers.{amount, behind, decimals_text, number_text, number_fits}

-- PARTS OF A NUMBER

pub ten_pos : (d : ℕ) → 0 < 10 ^ d
ten_pos d = one-le-pow d 10 (lit< tt)

pub ten_most : (d : ℕ) → d ≤ 19 → 10 ^ d < 18446744073709551616
ten_most d h = omega (arith, pow-le-pow_right {n = 10} (lit< tt) {i = d} {j = 19} h)

-- COLUMN-FORE

-- what a fitting value is
pub record NumberFits (w d m v : ℕ) : Type 0 where
  pub few : w ≤ 19
  pub sign : m ≤ 1
  pub signed : (eqb m 1 && eqb v 0) ≡ false
  pub room : length (number_text d m v) ≤ w

pub fits_number : (w d m v : ℕ) → number_fits w d m v ≡ true → NumberFits w d m v
unfolding number_fits
fits_number w d m v e =
    let a = both (leb w 19) (leb m 1 && (not (eqb m 1 && eqb v 0) && leb (length (number_text d m v)) w)) e in
    let b = both (leb m 1) (not (eqb m 1 && eqb v 0) && leb (length (number_text d m v)) w) a.1 in
    let c = both (not (eqb m 1 && eqb v 0)) (leb (length (number_text d m v)) w) b.1 in
    record { few = leb-true w 19 a.0; sign = leb-true m 1 b.0; signed = not-true (eqb m 1 && eqb v 0) c.0; room = leb-true (length (number_text d m v)) w c.1 }

pub number_fits_lem : (w d m v : ℕ) → NumberFits w d m v → number_fits w d m v ≡ true
unfolding number_fits
number_fits_lem w d m v f = rw (le-leb w 19 f.few, le-leb m 1 f.sign, f.signed, le-leb (length (number_text d m v)) w f.room)

pub decimals_long : (d v : ℕ) → length (decimals_text d v) ≡ behind d
decimals_long d v =
    ⊎_elim (λ (e : eqb d 0 ≡ true). rw e) (λ (f : eqb d 0 ≡ false). rw (f, length_decimal d (v % 10 ^ d), ← add-one d)) (two (eqb d 0))

abbrev pub SaysOrNot : Paper → Type 0
SaysOrNot p = (p ≡ nothing) ⊎ ((m : ℕ) × ((v : ℕ) × (p ≡ amount m v)))
