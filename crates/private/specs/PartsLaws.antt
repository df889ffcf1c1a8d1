-- What is told of private spans lies within the body, whatever is lent; each number is given
-- exactly when; and the answers can be told from their papers.
use Rattle.std.specs.Prelude.{ℕ, zero, suc, ◌+◌, ◌≤◌, ◌≡◌, refl, true, false, ◌↔◌, List, [], ◌∷◌, length, get_or, Result, Ok, Err}
use Rattle.std.proofs.Common.{sym, ap, ◌∙◌, ⊎_elim, eq-eqb, ne_eqb}
use Rattle.terms.specs.Paper.{answer, refusal, one_number}
use Rattle.terms.specs.Cases.{two, same}
use Rattle.terms.specs.declared.Refusal.{Refusal}
use Rattle.terms.specs.Refusals.{told}
use Rattle.terms.proofs.Refusals.{told_refused}
use Rattle.rules.specs.declared.Kind.{Kind}
use Rattle.rules.specs.Table.{kind_of, known, suits, measure_of}
use Rattle.rules.specs.Outcomes.{measure_type, measure_long, measure_length, measure_fine, Measured, m_type, m_long, m_length, m_fine, measured}
use Rattle.rules.specs.Meaning.{length_says, type_is, type_known, type_says, rowed, denied, unsaid}
use Rattle.frame_spec.specs.Measures.{fits}
use Rattle.private.specs.declared.Span.{Span}
use Rattle.private.specs.declared.Parts.{Parts}
use Rattle.private.specs.declared.Parts.TheVariants.{Nothing, One, Two, Three}
use Rattle.private.specs.Private.{private_of, span_at}
use Rattle.private.specs.Paint.{Within, within_at}
use Rattle.private.specs.PrivateLaws.{private_within}
use Rattle.private.specs.Parts.{suited_spans, parts_spans, span_numbers, told_paper, span_answer, SpanTyped, SpanShort, SpanSuited, SpanGiven}

-- ALL AT ONCE

module _ (k : Kind) (b : List ℕ) where
  pub suited_is : suits k (length b) ≡ true → suited_spans k b ≡ private_of k b
  unfolding suited_spans
  suited_is h = rw h

  pub suited_none : suits k (length b) ≡ false → suited_spans k b ≡ []
  unfolding suited_spans
  suited_none h = rw h

  -- a type with nothing private has no span
  pub suited_nothing : private_of k b ≡ [] → [] ≡ suited_spans k b
  suited_nothing e =
      ⊎_elim (λ (t : suits k (length b) ≡ true). sym (suited_is t ∙ e)) (λ (f : suits k (length b) ≡ false). sym (suited_none f)) (two (suits k (length b)))

  -- no span lies outside the body, whatever its type and length
  pub suited_within : Within (length b) (suited_spans k b)
  suited_within =
      ⊎_elim (λ (t : suits k (length b) ≡ true). rw (suited_is t) (private_within k b t))
      (λ (f : suits k (length b) ≡ false). rw (suited_none f) refl)
      (two (suits k (length b)))

-- the spans told from their list
parts_of : List Span → Parts
parts_of [] = Nothing
parts_of (p ∷ []) = One p
parts_of (p ∷ q ∷ []) = Two p q
parts_of (p ∷ q ∷ r ∷ ps) = Three p q r

parts_told : (x : Parts) → parts_of (parts_spans x) ≡ x
unfolding parts_of
parts_told Nothing = refl
parts_told (One p) = refl
parts_told (Two p q) = refl
parts_told (Three p q r) = refl

pub parts_one : (x y : Parts) → parts_spans x ≡ parts_spans y → x ≡ y
parts_one x y e = sym (parts_told x) ∙ ap parts_of e ∙ parts_told y

-- ONE BY ONE

-- the answer told from its paper
span_told : List ℕ → Result Span Refusal
span_told vs = Ok (record { place = get_or vs 0 0; len = get_or vs 1 0; fill = get_or vs 2 0 })

told_told : (x : Result Span Refusal) → told span_told Err (told_paper x) ≡ x
unfolding told span_told
told_told (Ok p) = refl
told_told (Err w) = told_refused span_told Err w

pub told_one : (x y : Result Span Refusal) → told_paper x ≡ told_paper y → x ≡ y
told_one x y e = sym (told_told x) ∙ ap (told span_told Err) e ∙ told_told y

module _ (type : ℕ) (b : List ℕ) (i : ℕ) where
  abbrev check : ℕ
  check = measure_of (kind_of type) (length b)

  pub span_told_lem : check ≡ 0 → span_answer type b i ≡ answer 0 (span_numbers (span_at i (private_of (kind_of type) b)))
  unfolding span_answer
  span_told_lem z = rw (eq-eqb check 0 z)

  pub span_refused : (check ≡ 0 → ⊥) → span_answer type b i ≡ refusal check
  unfolding span_answer
  span_refused ne = rw (ne_eqb check 0 ne)

  -- 0, or the number of the check that fails
  pub span_number : (span_answer type b i).number ≡ check
  span_number =
      ⊎_elim (λ (z : check ≡ 0). one_number (span_told_lem z) ∙ sym z) (λ (ne : check ≡ 0 → ⊥). one_number (span_refused ne)) (same check 0)

  -- a span that is told lies within the body
  pub span_within : (span_answer type b i).number ≡ 0 → (span_at i (private_of (kind_of type) b)).place + (span_at i (private_of (kind_of type) b)).len ≤ length b
  span_within z =
      within_at (length b) i (private_of (kind_of type) b) (private_within (kind_of type) b (fits _ _ (sym span_number ∙ z)).suit)

-- GIVEN EXACTLY WHEN

module _ (k : Kind) (type n : ℕ) where
  kind : SpanTyped k type → kind_of type ≡ k
  kind t = type_is k type t.is

  is : SpanTyped k type → known (kind_of type) ≡ true
  is t = rw (kind t) (type_known k type t.is)

  from_0 : SpanSuited k type n → measure_of (kind_of type) n ≡ 0
  from_0 t = measure_fine _ _ (is t.before.before) t.before.short (rw (kind t.before.before) ((length_says k n).1 t.suit))

  from_4 : SpanShort k type n → (suits k n ≡ false) → measure_of (kind_of type) n ≡ 4
  from_4 t f = measure_length _ _ (is t.before) t.short (rw (kind t.before) f)

to_number : (m type n : ℕ) → SpanGiven m type n → measure_of (kind_of type) n ≡ m
to_number zero type n h = from_0 h.0 type n h.1
to_number (suc zero) type n h = absurd h
to_number (suc (suc zero)) type n h = measure_type _ _ (denied (type_says type) (λ q. h q.0 q.1))
to_number (suc (suc (suc zero))) type n h = measure_long _ _ (is h.0 type n h.1.0) h.1.1
to_number (suc (suc (suc (suc zero)))) type n h = from_4 h.0 type n h.1.0 (denied (length_says h.0 n) h.1.1)
to_number (suc (suc (suc (suc (suc m))))) type n h = absurd h

from_number : (m type n x : ℕ) → Measured (kind_of type) n x → x ≡ m → SpanGiven m type n
from_number m type n x (m_type e a) p = rw (sym p ∙ e) (λ k t. unsaid (type_says type) a (k, t))
from_number m type n x (m_long e a l) p = rw (sym p ∙ e) (kind_of type, (record { is = rowed type a }, l))
from_number m type n x (m_length e a l s) p =
    rw (sym p ∙ e) (kind_of type, (record { before = record { is = rowed type a }; short = l }, unsaid (length_says _ _) s))
from_number m type n x (m_fine e a l s) p =
    rw (sym p ∙ e) (kind_of type, record { before = record { before = record { is = rowed type a }; short = l }; suit = (length_says _ _).0 s })

-- A NUMBER IS GIVEN EXACTLY WHEN ITS CONDITION HOLDS, for every number, type, body and span
pub span_given : (m type : ℕ) (b : List ℕ) (i : ℕ) → ((span_answer type b i).number ≡ m) ↔ SpanGiven m type (length b)
span_given m type b i = (
  λ (e : (span_answer type b i).number ≡ m). from_number m type (length b) _ (measured (kind_of type) (length b)) (sym (span_number type b i) ∙ e),
  λ (h : SpanGiven m type (length b)). span_number type b i ∙ to_number m type (length b) h,
)
