-- The numbers of the last line that the program prints. What it prints is `output_of` of
-- `listing_text`.
use Rattle.std.specs.Prelude.{ℕ, ◌≡◌, refl, Result, Ok, Err}
use Rattle.std.specs.Result.{result_unwrap_or}
use Rattle.terms.specs.declared.Refusal.{Refusal}
use Rattle.ledger_spec.specs.Words.{value_at}
use Rattle.ledger.specs.Papers.{count_paper}
use Rattle.ledger.specs.State.{book_of}
use Rattle.listing_text.specs.declared.Summary.{Summary}
use Rattle.walk.specs.declared.Counts.{Counts}
use Rattle.ledger.specs.declared.Ledger.{Ledger}
use Rattle.listing_text.specs.Listed.{last_at}

-- the last line's numbers, of what the code's walk hands back
unfoldable pub last_by : Counts → Ledger → Summary
last_by c l = last_at c.frames c.refused (book_of l)

-- a count, and 0 beside a refusal
pub told_count : (a : Result ℕ Refusal) → result_unwrap_or a 0 ≡ value_at (count_paper a) 0
told_count (Ok n) = refl
told_count (Err why) = refl
