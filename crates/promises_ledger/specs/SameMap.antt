-- Request 9, sentence by sentence: the map that does not move. `Ran` is a row of calls of the code,
-- `OldRan` the same calls with the map of before the request, which moved with the floor. The
-- answers are today's on both sides (request 7 too): two maps are compared, and not two versions
-- of the code. `held_now` and `held_old` read the four words of each.
use Rattle.std.specs.Prelude.{ℕ, ◌+◌, ◌%◌, ◌/◌, ◌≤◌, ◌<◌, true, false, ◌≡◌, get_or}
use Rattle.terms.specs.Paper.{Paper}
use Rattle.tick_map.specs.Bits.{Words, is_set}
use Rattle.ledger_spec.specs.State.{has}
use Rattle.ledger_spec.specs.Calls.{Call}
use Rattle.ledger_spec.specs.Trace.{Calls, History}
use Rattle.ledger_spec.specs.Words.{answered}
use Rattle.ledger.specs.declared.Ledger.{Ledger}
use Rattle.ledger.specs.State.{book_of}
use Rattle.ledger.specs.Old.{old_book_of, old_ledger_of}
use Rattle.ledger.specs.Trace.{PromiseBy, Promise, Ran, OldRan}
use Rattle.ledger.specs.SameMap.{SameHeld, OldRuns}
use Rattle.ledger.proofs.SameMap as Same

-- a number's place is "its remainder by 256"
pub place_is : (l : Ledger) → Words l.map.words → (n : ℕ) → l.floor.0 < n → n ≤ l.floor.0 + 256
    → has (book_of l) n ≡ is_set (get_or l.map.words (n % 256 / 64) 0) (n % 64)
place_is = Same.place_is

-- places are cleared "as the floor passes them"
pub passed_cleared : (l next : Ledger) (call : Call) (paper : Paper) → Words l.map.words → Promise l call next paper → answered paper 0 ≡ true
    → (n : ℕ) → l.floor.0 < n → n ≤ next.floor.0 → is_set (get_or next.map.words (n % 256 / 64) 0) (n % 64) ≡ false
passed_cleared = Same.passed_cleared

-- both of every ledger that calls can reach: its map has four words of 64 bits
pub ran_words : (channel : ℕ) → channel ≤ 9999 → {calls : Calls} {l : Ledger} {h : History} → Ran channel calls l h → Words l.map.words
ran_words = Same.ran_words

-- calls answer as with the old map
pub answers_as_old : (channel : ℕ) → channel ≤ 9999 → {calls : Calls} {now old : Ledger} {h g : History} → Ran channel calls now h → OldRan channel calls old g → h ≡ g
answers_as_old = Same.answers_as_old

-- and "the same set of numbers" is held, in every state that calls reach
pub holds_as_old : (channel : ℕ) → channel ≤ 9999 → {calls : Calls} {now old : Ledger} {h g : History} → Ran channel calls now h → OldRan channel calls old g → SameHeld now old
holds_as_old = Same.holds_as_old

-- every row of calls ran so
pub old_runs : (channel : ℕ) (calls : Calls) → OldRuns channel calls
old_runs = Same.old_runs

-- and of one call, on every state, sound or not
pub one_call_as_old : (now old next oldNext : Ledger) (call : Call) (paper oldPaper : Paper) → Words now.map.words → Words old.map.words → SameHeld now old
    → Promise now call next paper → PromiseBy old_book_of old_ledger_of old call oldNext oldPaper → (paper ≡ oldPaper) × SameHeld next oldNext
one_call_as_old = Same.one_call_as_old
