-- A row of calls as the code runs it.
use Rattle.std.specs.Prelude.{◌≡◌, ℕ}
use Rattle.terms.specs.Paper.{Paper}
use Rattle.ledger_spec.specs.State.{Book}
use Rattle.ledger_spec.specs.Calls.{Call, answer_to, fresh}
use Rattle.ledger_spec.specs.Trace.{Calls, none, ◌▸◌, History, start, ◌▸◌⇒◌}
use Rattle.ledger.specs.State.{book_of, ledger_of, next_by}
use Rattle.ledger.specs.Old.{old_book_of, old_ledger_of}
use Rattle.ledger.specs.declared.Ledger.{Ledger}

-- what a call on the ledger l promises of its answer and of the next ledger, where `read` and
-- `keep` say how a ledger keeps a book
pub record PromiseBy (read : Ledger → Book) (keep : Book → Ledger) (l : Ledger) (call : Call) (next : Ledger) (paper : Paper) : Type 0 where
  pub paper_is : paper ≡ answer_to (read l) call
  pub next_is : next ≡ next_by read keep l call

-- the ledger l and the history h come of calls of the code on a freshly opened channel, each
-- meeting its promise
pub data RanBy (read : Ledger → Book) (keep : Book → Ledger) (channel : ℕ) : Calls → Ledger → History → Type 0 where
  opening : {l : Ledger} → l ≡ keep (fresh channel) → RanBy read keep channel none l start
  one_more : {calls : Calls} {l next : Ledger} {h : History} {paper : Paper} (call : Call) → RanBy read keep channel calls l h
      → PromiseBy read keep l call next paper → RanBy read keep channel (calls ▸ call) next (h ▸ call ⇒ paper)

-- `tick_is_step` and the like say it of each call's `ensures`
abbrev pub Promise : Ledger → Call → Ledger → Paper → Type 0
Promise l call next paper = PromiseBy book_of ledger_of l call next paper

abbrev pub Ran : ℕ → Calls → Ledger → History → Type 0
Ran channel calls l h = RanBy book_of ledger_of channel calls l h

-- a row of calls with the map of before request 9: the answers are today's, the places the old ones
abbrev pub OldRan : ℕ → Calls → Ledger → History → Type 0
OldRan channel calls l h = RanBy old_book_of old_ledger_of channel calls l h
