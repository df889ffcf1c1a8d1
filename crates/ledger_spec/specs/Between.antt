-- Request 8: how many numbers from a to z are missing. What the count is, made number by number,
-- and what the question is answered, told from the calls and answers before it alone.
-- proofs/Between.antt proves it for every row of calls.
use Rattle.std.specs.Prelude.{◌≡◌, Bool, [], ◌∷◌, ℕ, ◌+◌, ◌-◌}
use Rattle.terms.specs.Paper.{Paper, answer}
use Rattle.tick_map.specs.Bits.{tally}
use Rattle.ledger_spec.specs.Trace.{History}
use Rattle.ledger_spec.specs.Words.{one, missing}
use Rattle.ledger_spec.specs.Given.{FineBetween}

-- "the count made number by number": how many numbers from a to z are so, both of them counted
unfoldable pub count_between : (ℕ → Bool) → ℕ → ℕ → ℕ
count_between so a z = tally (λ i. one (so (a + i))) (z + 1 - a)

pub record BetweenAnswers (h : History) (a z : ℕ) (p : Paper) : Type 0 where
  pub number_10 : (FineBetween a z → ⊥) → p ≡ answer 10 (0 ∷ [])
  pub counts_0 : FineBetween a z → p ≡ answer 0 (count_between (missing h) a z ∷ [])
