-- How `number_in` takes a column apart, step by step: k spaces, the sign m, n digits before the
-- point, then the decimals.
use Rattle.std.specs.Prelude.{ℕ, ◌+◌, ◌*◌, ◌<◌, ◌≤◌, ◌^◌, ◌≡◌, List, length, get_or, take, drop}
use Rattle.std.proofs.Common.{sym, ap, ◌∙◌, ⊎_elim, mul-le-mul_right, add-mul, one-mul, arith, pow-add, lit<, le-leb}
use Rattle.std.proofs.Math.Nat.{pow-le-pow_right}
use Rattle.terms.specs.Cases.{same}
use Rattle.digits.specs.Digits.{number, nothing, decimal_at}
use Rattle.digits.specs.Laws.{said_below}
use Rattle.digits.specs.Texts.{Says, decimal_given}
use Rattle.market_columns.specs.Numbers.{spaces, sign_of, behind, decimals_at, unless0, joined, start_of, whole_of, number_in}
use Rattle.market_columns.specs.Pieces.{column_length, behind_some}
use Rattle.market_columns.proofs.NumberLaws.{lo_below}
use Rattle.market_columns.specs.NumberSteps.{Steps}

module _ (d : ℕ) (t : List ℕ) (k m n : ℕ) (q : Steps d t k m n) where
  sign_is : sign_of (get_or t (spaces t) 0) ≡ m
  sign_is = ap (λ (i : ℕ). sign_of (get_or t i 0)) (sym q.spaced) ∙ sym q.sign

  start_is : start_of t ≡ k + m
  start_is = rw (sign_is, q.spaced)

  whole_is : whole_of d t ≡ n
  whole_is = rw start_is (sym q.whole)

  within_is : decimal_at (start_of t) (whole_of d t) t ≡ decimal_at (k + m) n t
  within_is = rw (whole_is, start_is)

  place_is : start_of t + whole_of d t ≡ k + m + n
  place_is = rw (whole_is, start_is)

  pub whole_lacks : decimal_at (k + m) n t ≡ nothing → number_in d t ≡ nothing
  unfolding number_in joined
  whole_lacks e = rw (le-leb (length t) 19 q.few, within_is, e)

  module _ (h : ℕ) (e : decimal_at (k + m) n t ≡ number h) where
    said : Says (k + m) n t h
    said = (decimal_given (k + m) n t h e).0

    pub parts_fit : k + m + n + behind d ≤ length t
    parts_fit = omega (arith, said.place.some, q.whole)

    high : h < 10 ^ n
    high =
        let l : length (take n (drop (k + m) t)) ≡ n = column_length t (k + m) n said.place.within in
        rw (said.says, l) at (said_below (take n (drop (k + m) t)) said.digits)

    pub d_room : n + d ≤ 19
    d_room = ⊎_elim (λ (z : d ≡ 0). omega (arith, parts_fit, q.few)) (λ (z : d ≡ 0 → ⊥). omega (arith, parts_fit, q.few, behind_some d z)) (same d 0)

    pub parts_lack : decimals_at d (k + m + n) t ≡ nothing → number_in d t ≡ nothing
    unfolding number_in joined
    parts_lack f = rw (le-leb (length t) 19 q.few, within_is, e, place_is, f)

    pub parts_there : (l : ℕ) → decimals_at d (k + m + n) t ≡ number l → number_in d t ≡ unless0 m (h * 10 ^ d + l)
    unfolding number_in joined
    parts_there l f = rw (le-leb (length t) 19 q.few, within_is, e, place_is, f, sign_is)

    pub small : (l : ℕ) → decimals_at d (k + m + n) t ≡ number l → h * 10 ^ d + l < 10 ^ 19
    small l f =
        let a : h * 10 ^ d + 10 ^ d ≤ 10 ^ n * 10 ^ d = rw (add-mul, one-mul) at (mul-le-mul_right {m = h + 1} {n = 10 ^ n} (10 ^ d) (omega (arith, high))) in
        let b : 10 ^ n * 10 ^ d ≤ 10 ^ 19 = rw (← pow-add 10 n d) (pow-le-pow_right {n = 10} (lit< tt) {i = n + d} {j = 19} d_room) in
        omega (arith, a, b, lo_below d (k + m + n) l t f)
