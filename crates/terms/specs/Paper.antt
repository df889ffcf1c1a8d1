-- An answer as document 01 puts it: its number, then the values that stand beside it. And the one
-- choice that all definitions use.
use Rattle.std.specs.Prelude.{ℕ, ◌≡◌, Bool, true, false, List, []}
use Rattle.std.proofs.Common.{ap}

pub record Paper : Type 0 where
  pub number : ℕ
  pub values : List ℕ

abbrev pub answer : ℕ → List ℕ → Paper
answer n vs = record { number = n; values = vs }

-- a refusal gives its number and nothing else
abbrev pub refusal : ℕ → Paper
refusal n = answer n []

abbrev pub pick : {A : Type 0} → Bool → A → A → A
pick true a b = a
pick false a b = b

-- papers that are equal have one number
pub one_number : {p q : Paper} → p ≡ q → p.number ≡ q.number
one_number e = ap (λ (x : Paper). x.number) e
