-- What is told of the private spans of a body: all of them at once, to the scrubber; and one by
-- one, with reading's 2, 3 and 4. No span lies outside the body, whatever is lent.
use Rattle.std.specs.Prelude.{ℕ, zero, suc, ◌<◌, ◌≤◌, List, [], ◌∷◌, eqb, length, Result, Ok, Err}
use Rattle.terms.specs.Paper.{Paper, answer, refusal, pick}
use Rattle.terms.specs.declared.Refusal.{Refusal}
use Rattle.terms.specs.Refusals.{number_of}
use Rattle.rules.specs.declared.Kind.{Kind}
use Rattle.rules.specs.Table.{kind_of, suits, measure_of}
use Rattle.rules.specs.Rules.{TypeRule, LengthRule}
use Rattle.private.specs.declared.Span.{Span}
use Rattle.private.specs.declared.Parts.{Parts}
use Rattle.private.specs.declared.Parts.TheVariants.{Nothing, One, Two, Three}
use Rattle.private.specs.Private.{private_of, span_at}

-- ALL AT ONCE: the spans of a body whose length suits its type; of any other body none
unfoldable pub suited_spans : Kind → List ℕ → List Span
suited_spans k b = pick (suits k (length b)) (private_of k b) []

abbrev pub parts_spans : Parts → List Span
parts_spans Nothing = []
parts_spans (One p) = p ∷ []
parts_spans (Two p q) = p ∷ q ∷ []
parts_spans (Three p q r) = p ∷ q ∷ r ∷ []

-- ONE BY ONE: where a span starts in the body, its length, the byte that replaces each
abbrev pub span_numbers : Span → List ℕ
span_numbers p = p.place ∷ p.len ∷ p.fill ∷ []

abbrev pub told_paper : Result Span Refusal → Paper
told_paper (Ok p) = answer 0 (span_numbers p)
told_paper (Err w) = refusal (number_of w)

-- span number i of a body of that type; or the number of reading's check that it fails, of type
-- and length
unfoldable pub span_answer : ℕ → List ℕ → ℕ → Paper
span_answer type b i = pick (eqb (measure_of (kind_of type) (length b)) 0) (answer 0 (span_numbers (span_at i (private_of (kind_of type) b)))) (refusal (measure_of (kind_of type) (length b)))

-- WHEN EACH NUMBER IS GIVEN: document 01's checks on MsgType and on a body of n bytes, in order,
-- for a row k of the table

-- 2: MsgType in the table
pub record SpanTyped (k : Kind) (type : ℕ) : Type 0 where
  pub is : TypeRule k type

-- 3: a body of at most 8,164 bytes
pub record SpanShort (k : Kind) (type n : ℕ) : Type 0 where
  pub before : SpanTyped k type
  pub short : n ≤ 8164

-- 4: a length that suits the type
pub record SpanSuited (k : Kind) (type n : ℕ) : Type 0 where
  pub before : SpanShort k type n
  pub suit : LengthRule k n

-- the condition of each number; no other is given
abbrev pub SpanGiven : ℕ → ℕ → ℕ → Type 0
SpanGiven zero type n = (k : Kind) × SpanSuited k type n
SpanGiven (suc zero) type n = ⊥
SpanGiven (suc (suc zero)) type n = (k : Kind) → TypeRule k type → ⊥
SpanGiven (suc (suc (suc zero))) type n = (k : Kind) × (SpanTyped k type × (8164 < n))
SpanGiven (suc (suc (suc (suc zero)))) type n = (k : Kind) × (SpanShort k type n × (LengthRule k n → ⊥))
SpanGiven (suc (suc (suc (suc (suc m))))) type n = ⊥
