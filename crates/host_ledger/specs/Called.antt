-- A ledger call through the host in the book's words, and a row of such calls on words that
-- rk_ledger_open wrote. No definition of the promises stands here: proofs/Promised.antt says of
-- each function that what its promise allows is such a call.
use Rattle.std.specs.Prelude.{ℕ, ◌≡◌, List, [], ◌∷◌, eqb, get_or}
use Rattle.terms.specs.Paper.{Paper, answer, pick}
use Rattle.tick_map.specs.Bits.{value_of}
use Rattle.tick_map.specs.Ring.{rotated}
use Rattle.ledger_spec.specs.State.{Asked, nothing, range, Book, StateRules}
use Rattle.ledger_spec.specs.Calls.{Call, number_to, answer_to, next_of, fresh, missing_count, held_count}
use Rattle.ledger_spec.specs.Trace.{Calls, none, ◌▸◌, History, start, ◌▸◌⇒◌}
use Rattle.ledger_spec.specs.Words.{known_top, pending, held, missing, count, floor_of}
use Rattle.ledger.specs.State.{ledger_of}
use Rattle.host_words.specs.Words.{words_of, book_in}

-- WHAT THE CALLER SEES of a count, which is one number of a told row: 0 beside a refusal
abbrev pub counted : ℕ → ℕ → Paper
counted number count = answer number (pick (eqb number 0) count 0 ∷ [])

-- and of a reply's two sets, told as nine words: each is read round from the place of the number
-- that both count from. 0 and two empty sets beside a refusal
abbrev pub sets_in : List ℕ → List ℕ
sets_in row =
    get_or row 0 0
    ∷ rotated (get_or row 0 0) (value_of (get_or row 1 0) (get_or row 2 0) (get_or row 3 0) (get_or row 4 0))
    ∷ rotated (get_or row 0 0) (value_of (get_or row 5 0) (get_or row 6 0) (get_or row 7 0) (get_or row 8 0))
    ∷ []

abbrev pub settled_by : ℕ → List ℕ → Paper
settled_by number row = answer number (pick (eqb number 0) (sets_in row) (0 ∷ 0 ∷ 0 ∷ []))

-- A CALL on the words w, which leaves w' and of which the caller sees a: it is the book's own call
-- on the book that w stands for
pub record Called (w : List ℕ) (call : Call) (w' : List ℕ) (a : Paper) : Type 0 where
  pub number : a.number ≡ number_to (book_in w) call
  pub answer_is : a ≡ answer_to (book_in w) call
  -- w' stands for the next book, also where w breaks the rules
  pub next_is : book_in w' ≡ next_of (book_in w) call
  -- and where w is what a sound ledger is kept as, so is w', word by word
  pub words_are : (b : Book) → StateRules b → w ≡ words_of (ledger_of b) → w' ≡ words_of (ledger_of (next_of b call))
  -- a refusal other than 12 leaves the very words
  pub kept : (a.number ≡ 0 → ⊥) → (a.number ≡ 12 → ⊥) → w' ≡ w

-- A ROW OF CALLS: the words w and the history h come of these calls, on what a call of
-- rk_ledger_open left
pub data HostRan (channel : ℕ) : Calls → List ℕ → History → Type 0 where
  opening : {w : List ℕ} → w ≡ words_of (ledger_of (fresh channel)) → HostRan channel none w start
  one_more : {calls : Calls} {w w' : List ℕ} {h : History} {a : Paper} (call : Call) → HostRan channel calls w h → Called w call w' a
      → HostRan channel (calls ▸ call) w' (h ▸ call ⇒ a)

-- WHAT A LEDGER HAS TO TELL: channel, floor, top, how many numbers are missing, how many are held,
-- and the pending request, 0 and 0 where there is none
abbrev pub asked_numbers : Asked → List ℕ
asked_numbers nothing = 0 ∷ 0 ∷ []
asked_numbers (range first last) = first ∷ last ∷ []

abbrev pub book_numbers : Book → List ℕ
book_numbers b = b.channel ∷ b.floor ∷ b.top ∷ missing_count b ∷ held_count b ∷ asked_numbers b.pending

-- the same from the calls and their answers alone
abbrev pub history_numbers : ℕ → History → List ℕ
history_numbers channel h = channel ∷ floor_of h ∷ known_top h ∷ count (missing h) (known_top h) ∷ count (held h) (known_top h) ∷ asked_numbers (pending h)
