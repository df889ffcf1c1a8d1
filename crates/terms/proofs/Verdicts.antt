-- A verdict, an answer with no value, as document 01's number: 0, or the refusal's.
use Rattle.std.specs.Prelude.{ℕ, ◌≡◌, ⊤, refl, List, Result, Ok, Err}
use Rattle.std.proofs.Common.{sym, ap, ◌∙◌}
use Rattle.terms.specs.Paper.{refusal}
use Rattle.terms.specs.Refusals.{number_of, told}
use Rattle.terms.specs.declared.Refusal.{Refusal}
use Rattle.terms.proofs.Refusals.{told_refused}
use Rattle.terms.specs.Verdicts.{verdict_number}

-- the verdict told from its number
told_verdict : ℕ → Result ⊤ Refusal
told_verdict n = told (λ (vs : List ℕ). Ok tt) Err (refusal n)

verdict_told : (v : Result ⊤ Refusal) → told_verdict (verdict_number v) ≡ v
unfolding told_verdict told
verdict_told (Ok tt) = refl
verdict_told (Err w) = told_refused (λ (vs : List ℕ). Ok tt) Err w

-- two verdicts of one number are one
pub verdict_one : (v w : Result ⊤ Refusal) → verdict_number v ≡ verdict_number w → v ≡ w
verdict_one v w e = sym (verdict_told v) ∙ ap told_verdict e ∙ verdict_told w
