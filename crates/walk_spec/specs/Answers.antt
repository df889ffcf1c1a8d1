-- What the walk answers with room for its records, and what it leaves without.
use Rattle.std.specs.Prelude.{ℕ, ◌≡◌, Bool, true, false, List, length, Result, Err}
use Rattle.std.proofs.Common.{sym, ap, ◌∙◌, ⊎_elim}
use Rattle.terms.specs.Cases.{two}
use Rattle.terms.specs.Refusals.{refusal_pos}
use Rattle.terms.specs.declared.Refusal.{Refusal}
use Rattle.terms.specs.Verdicts.{verdict_number}
use Rattle.walk_spec.specs.Walk.{fits_in, walk_answer, walk_leaves}

module _ (s : List ℕ) (d : List ℕ) where
  pub left_kept : fits_in s (length d) ≡ false → walk_leaves s d ≡ d
  unfolding walk_leaves
  left_kept f = rw f

  pub answer_done : fits_in s (length d) ≡ true → (walk_answer s (length d)).number ≡ 0
  unfolding walk_answer
  answer_done f = rw f

-- An answer that is a refusal; and that it leaves the buffer d as it was, of any call that answers
-- 0 where its bytes fit and leaves d where they do not.
abbrev pub Refusing : {T : Type 0} → Result T Refusal → Type 0
Refusing a = (w : Refusal) × (a ≡ Err w)

pub refusing_leaves : {T : Type 0} (a : Result T Refusal) → Refusing a → (n : ℕ) → verdict_number a ≡ n → (fits : Bool) → (fits ≡ true → n ≡ 0) → (d e : List ℕ)
    → (fits ≡ false → e ≡ d) → e ≡ d
refusing_leaves a w n p fits done d e left =
    ⊎_elim (λ (f : fits ≡ true). absurd (refusal_pos w.0 (ap verdict_number (sym w.1) ∙ p ∙ done f))) left (two fits)
