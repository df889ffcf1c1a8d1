-- A ledger call on nine words: what it answers and tells, and the words after it.
use Rattle.std.specs.Prelude.{ℕ, ◌≡◌, List, eqb}
use Rattle.std.proofs.Common.{ne_eqb}
use Rattle.terms.specs.Paper.{Paper, pick}
use Rattle.ledger_spec.specs.Calls.{Call, answer_to}
use Rattle.ledger.specs.declared.Ledger.{Ledger}
use Rattle.ledger.specs.State.{next_in}
use Rattle.host_words.specs.Words.{words_of, ledger_in, book_in}

-- the words after an answer beside which the ledger next stands: 0 and 12 store it, any other
-- refusal leaves them as they were
unfoldable pub kept_by : ℕ → Ledger → List ℕ → List ℕ
kept_by number next was = pick (eqb number 0) (words_of next) (pick (eqb number 12) (words_of next) was)

-- what a call answers and tells, and the words after it
abbrev pub call_told : List ℕ → Call → Paper
call_told w call = answer_to (book_in w) call

unfoldable pub words_after : List ℕ → Call → List ℕ
words_after w call = kept_by (answer_to (book_in w) call).number (next_in (ledger_in w) call) w

-- PROOFS

-- such a refusal leaves them
pub kept_by_lem : (n : ℕ) (next : Ledger) (w : List ℕ) → (n ≡ 0 → ⊥) → (n ≡ 12 → ⊥) → kept_by n next w ≡ w
unfolding kept_by
kept_by_lem n next w z f = rw (ne_eqb n 0 z, ne_eqb n 12 f)
