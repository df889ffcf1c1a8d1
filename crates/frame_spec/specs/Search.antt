-- The search. Lowest.antt says what it means: the lowest place that reads.
use Rattle.std.specs.Prelude.{ℕ, ◌+◌, List, [], ◌∷◌, length, drop, leb}
use Rattle.terms.specs.Paper.{Paper, answer, refusal, pick}
use Rattle.frame_spec.specs.Frame.{reads}

-- the first place that reads, where the list's first element stands at p
unfoldable pub first_of : ℕ → List ℕ → Paper
first_of p [] = answer 0 []
first_of p (b ∷ s) = pick (reads (b ∷ s)) (answer 0 (p ∷ [])) (first_of (p + 1) s)

unfoldable pub search_of : List ℕ → ℕ → Paper
search_of s from = pick (leb from (length s)) (first_of from (drop from s)) (refusal 9)
