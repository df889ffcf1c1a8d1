-- The answers of cleaning and of the check in document 01's numbers.
use Rattle.std.specs.Prelude.{ℕ, Result, Ok, Err, Option, Some, None, List, [], ◌∷◌}
use Rattle.terms.specs.Paper.{Paper, answer}
use Rattle.terms.specs.Refusals.{number_of}
use Rattle.terms.specs.declared.Refusal.{Refusal}
use Rattle.clean.specs.declared.Cleaned.{Cleaned}

-- number, bytes, frames, frames behind damage; 0 beside a refusal
abbrev pub clean_paper : Result Cleaned Refusal → Paper
clean_paper (Ok c) = answer 0 (c.bytes ∷ c.frames ∷ c.after_damage ∷ [])
clean_paper (Err w) = answer (number_of w) (0 ∷ 0 ∷ 0 ∷ [])

-- a place, or none
abbrev pub places_of : Option ℕ → List ℕ
places_of None = []
places_of (Some p) = p ∷ []

-- the same of the code's answer to the check
abbrev pub check_paper : Option ℕ → Paper
check_paper place = answer 0 (places_of place)
