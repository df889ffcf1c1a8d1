-- What `==` and `starts_with` say, as the definitions have it. Assumes nothing.
use Rattle.std.proofs.Common.{ℕ, ◌≡◌, ◌-◌, Bool, true, false, ◌&&◌, List, [], ◌∷◌, Option, Some, None, refl, sym, ap, ◌∙◌, eqb, length, take, drop}
use Rattle.std.specs.Option.{option_eq}
use Rattle.std.specs.Str.{bytes_eq}
use Rattle.std.proofs.Math.ListN.{length-drop}
use Rattle.std.proofs.Math.Seq.{take_all}
use native.Mathlib.Omega.{arith}
use borrow.Author.Tests.{eqb-true, eqb-false}
use Rattle.digits.specs.Digits.{decimal_paper}
use Rattle.market_columns.specs.Columns.{alike}
use Rattle.market_columns.specs.ColumnLaws.{alike_bytes}
use Rattle.market_columns.specs.Numbers.{amount_paper}
use Rattle.market_columns.specs.declared.Amount.{Amount}
use Rattle.market_spec.specs.File.{begins_at}
use Rattle.market_spec.specs.Files.{word_test, cut_test}

and_true : (b : Bool) → (b && true) ≡ b
and_true true = refl
and_true false = refl

abbrev of : ℕ → ℕ → Amount
of m v = record { sign = m; units = v }

-- the derived `==` of amounts is E
module _ (E : Amount → Amount → Bool) (each : (m v k : ℕ) → E (of m v) (of 0 k) ≡ (eqb m 0 && eqb v k)) (k : ℕ) where
  pub counted : (r : Option Amount) → option_eq E r (Some (of 0 k)) ≡ alike (amount_paper r).values (0 ∷ k ∷ [])
  unfolding alike
  counted None = refl
  counted (Some a) = each a.sign a.units k ∙ ap (λ (b : Bool). eqb a.sign 0 && b) (sym (and_true (eqb a.units k)))

pub summed : (n : ℕ) (r : Option ℕ) → option_eq eqb r (Some n) ≡ alike (decimal_paper r).values (n ∷ [])
unfolding alike
summed n None = refl
summed n (Some v) = sym (and_true (eqb v n))

-- what is left of the bytes from a place on, as the code cuts it out
rest : (s : List ℕ) (at : ℕ) → take (length s - at) (drop at s) ≡ drop at s
rest s at = take_all (length s - at) (drop at s) (omega (arith, length-drop at s))

begins_test : (word : List ℕ) (at : ℕ) (s : List ℕ) → bytes_eq word (take (length word) (take (length s - at) (drop at s))) ≡ eqb (begins_at word at s) 1
begins_test word at s = ap (λ (r : List ℕ). bytes_eq word (take (length word) r)) (rest s at) ∙ sym (alike_bytes word (take (length word) (drop at s))) ∙ word_test word at s

-- a word stands there whole, or not; r is what the code tested
module _ (word : List ℕ) (at : ℕ) (s : List ℕ) (r : Bool) (e : r ≡ bytes_eq word (take (length word) (take (length s - at) (drop at s)))) where
  pub whole : r ≡ true → begins_at word at s ≡ 1
  whole t = eqb-true (begins_at word at s) 1 (sym (begins_test word at s) ∙ sym e ∙ t)

  pub not_whole : r ≡ false → begins_at word at s ≡ 1 → ⊥
  not_whole f = eqb-false (begins_at word at s) 1 (sym (begins_test word at s) ∙ sym e ∙ f)

pub ends_test : (word : List ℕ) (at : ℕ) (s : List ℕ) → (begins_at word at s ≡ 1 → ⊥) → bytes_eq (take (length s - at) (drop at s)) (take (length (take (length s - at) (drop at s))) word) ≡ eqb (begins_at word at s) 2
ends_test word at s n = ap (λ (r : List ℕ). bytes_eq r (take (length r) word)) (rest s at) ∙ sym (alike_bytes (drop at s) (take (length (drop at s)) word)) ∙ cut_test word at s n
