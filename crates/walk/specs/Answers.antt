-- The walk's answer told from its paper, and what a refusal leaves.
use Rattle.std.specs.Prelude.{ℕ, ◌≡◌, refl, List, length, Result, Ok, Err}
use Rattle.std.proofs.Math.Path.{ap₂}
use Rattle.std.proofs.Common.{◌∙◌}
use Rattle.terms.specs.Paper.{one_number}
use Rattle.terms.specs.Verdicts.{verdict_number}
use Rattle.terms.specs.declared.Refusal.{Refusal}
use Rattle.ledger.specs.declared.Ledger.{Ledger}
use Rattle.walk.specs.declared.Counts.{Counts}
use Rattle.walk.specs.declared.Walked.{Walked}
use Rattle.walk_spec.specs.Walk.{fits_in, walk_answer, walk_leaves}
use Rattle.walk_spec.specs.Answers.{left_kept, answer_done, Refusing, refusing_leaves}
use Rattle.walk.specs.Papers.{counts_paper, counts_one, walk_paper}

-- two answers of one paper and one ledger are one
pub walked_one : (x y : Walked) → walk_paper x ≡ walk_paper y → x.ledger ≡ y.ledger → x ≡ y
walked_one x y e l = ap₂ (λ (a : Result Counts Refusal) (k : Ledger). record { answer = a; ledger = k }) (counts_one x.answer y.answer e) l

-- its number is the answer's
counts_number : (a : Result Counts Refusal) → verdict_number a ≡ (counts_paper a).number
counts_number (Ok c) = refl
counts_number (Err why) = refl

-- an answer that is a refusal
abbrev pub Refuses : Walked → Type 0
Refuses x = Refusing x.answer

module _ (s : List ℕ) (d : List ℕ) where
  -- a refusal leaves the buffer as it was
  pub refused_leaves : (e : List ℕ) (x : Walked) → Refuses x → walk_paper x ≡ walk_answer s (length d) → e ≡ walk_leaves s d → e ≡ d
  refused_leaves e x w p q = refusing_leaves x.answer w _ (counts_number x.answer ∙ one_number p) (fits_in s (length d)) (answer_done s d) d e (λ f. q ∙ left_kept s d f)
