-- The walk's answer in document 01's numbers.
use Rattle.std.specs.Prelude.{◌≡◌, ℕ, List, [], ◌∷◌, Result, Ok, Err, refl, get_or}
use Rattle.std.proofs.Common.{sym, ap, ◌∙◌}
use Rattle.terms.specs.Paper.{Paper, answer}
use Rattle.terms.specs.Refusals.{number_of, refusal_not_0, told}
use Rattle.terms.proofs.Refusals.{refusal_back}
use Rattle.terms.specs.declared.Refusal.{Refusal}
use Rattle.walk.specs.declared.Counts.{Counts}
use Rattle.walk.specs.declared.Walked.{Walked}

-- number, records, frames, refused: beside a refusal the counts are 0
abbrev pub counts_paper : Result Counts Refusal → Paper
counts_paper (Ok c) = answer 0 (c.records ∷ c.frames ∷ c.refused ∷ [])
counts_paper (Err why) = answer (number_of why) (0 ∷ 0 ∷ 0 ∷ [])

abbrev pub walk_paper : Walked → Paper
walk_paper w = counts_paper w.answer

-- two answers of one paper are one
counted : List ℕ → Result Counts Refusal
counted vs = Ok (record { records = get_or vs 0 0; frames = get_or vs 1 0; refused = get_or vs 2 0 })

counts_told : (a : Result Counts Refusal) → told counted Err (counts_paper a) ≡ a
unfolding told counted
counts_told (Ok c) = refl
counts_told (Err why) = rw (refusal_not_0 why, refusal_back why)

pub counts_one : (a b : Result Counts Refusal) → counts_paper a ≡ counts_paper b → a ≡ b
counts_one a b e = sym (counts_told a) ∙ ap (told counted Err) e ∙ counts_told b
