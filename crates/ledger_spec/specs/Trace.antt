-- A row of calls on a fresh ledger, and what the caller sees of it: each call with its answer.
use Rattle.std.specs.Prelude.{ℕ}
use Rattle.terms.specs.Paper.{Paper}
use Rattle.ledger_spec.specs.State.{Book}
use Rattle.ledger_spec.specs.Calls.{Call, answer_to, next_of, fresh}

-- no call, or some calls and then one more
infixl 20 ◌▸◌
pub data Calls : Type 0 where
  none : Calls
  ◌▸◌ : Calls → Call → Calls

-- the book of a channel after the calls
abbrev pub after : ℕ → Calls → Book
after channel none = fresh channel
after channel (calls ▸ call) = next_of (after channel calls) call

-- the calls with their answers, and nothing else: no book is seen in a history
infixl 20 ◌▸◌⇒◌
pub data History : Type 0 where
  start : History
  ◌▸◌⇒◌ : History → Call → Paper → History

unfoldable pub trace : ℕ → Calls → History
trace channel none = start
trace channel (calls ▸ call) = trace channel calls ▸ call ⇒ answer_to (after channel calls) call
