-- Each check of reading from the facts that decide it.
use Rattle.std.specs.Prelude.{ℕ, ◌-◌, ◌<◌, ◌≤◌, ◌≡◌, true, false, get_or, take, drop}
use Rattle.std.proofs.Common.{⊎_elim, arith}
use mathlib.Core.List.{List}
use Rattle.std.proofs.Math.ListN.{length}
use borrow.Author.Tests.{eq-eqb, ne_eqb, le-leb, lt-leb, lt-ltb, le-ltb}
use Rattle.terms.specs.Cases.{less, and_false}
use Rattle.octets.specs.Octets.{sum8}
use Rattle.digits.specs.Digits.{decimal_at, number, nothing, plain}
use Rattle.step_tags.specs.Forms.{some}
use Rattle.step_spec.specs.Pieces.{SOH}
use Rattle.step_spec.specs.Frame.{front, digit_run, length_check, sum_check, trailer_of}

-- THE LENGTH FIELD, over its window

module _ (w : List ℕ) (k : ℕ) (r : digit_run w ≡ k) where
  pub length_many : 9 < k → length_check w ≡ 24
  unfolding length_check
  length_many h = rw (r, lt-leb k 9 h)

  pub length_zero : plain k (get_or w 0 0) ≡ false → length_check w ≡ 24
  unfolding length_check
  length_zero h = rw (r, h, and_false)

  module _ (few : k ≤ 9) (p : plain k (get_or w 0 0) ≡ true) where
    pub length_more : length w ≤ k → length_check w ≡ 1
    unfolding length_check
    length_more h = rw (r, le-leb k 9 few, p, le-ltb k (length w) h)

    module _ (h : k < length w) where
      pub length_open : (get_or w k 0 ≡ SOH → ⊥) → length_check w ≡ 24
      unfolding length_check
      length_open ne = rw (r, le-leb k 9 few, p, lt-ltb k (length w) h, ne_eqb _ _ ne)

      module _ (c : get_or w k 0 ≡ SOH) where
        pub length_none : decimal_at 0 k w ≡ nothing → length_check w ≡ 24
        unfolding length_check some
        length_none e = rw (r, le-leb k 9 few, p, lt-ltb k (length w) h, eq-eqb _ _ c, e)

        pub length_good : (n : ℕ) → decimal_at 0 k w ≡ number n → length_check w ≡ 0
        unfolding length_check some
        length_good n e = rw (r, le-leb k 9 few, p, lt-ltb k (length w) h, eq-eqb _ _ c, e)

-- THE SUM

module _ (e : ℕ) (s : List ℕ) where
  pub sum_short : length s < e → sum_check e s ≡ 1
  unfolding sum_check
  sum_short h = rw (lt-leb e (length s) h)

  module _ (h : e ≤ length s) where
    pub sum_open : (get_or s (e - 1) 0 ≡ SOH → ⊥) → sum_check e s ≡ 5
    unfolding sum_check
    sum_open ne = rw (le-leb e (length s) h, ne_eqb _ _ ne)

    pub sum_is : get_or s (e - 1) 0 ≡ SOH → sum_check e s ≡ front 5 (trailer_of (sum8 (take e s))) (drop e s)
    unfolding sum_check
    sum_is c = rw (le-leb e (length s) h, eq-eqb _ _ c)

pub sum_room : (e : ℕ) (s : List ℕ) → sum_check e s ≡ 0 → e ≤ length s
sum_room e s h = ⊎_elim (λ (l : length s < e). absurd (omega (arith, sum_short e s l, h))) (λ (l : e ≤ length s). l) (less (length s) e)
