-- The calls of a table in the documents' numbers: what each is answered, and the table after it.
-- Document 02, request 3.
-- (13 judges how a table is kept: `channels` has it. A table that calls have made never meets it.)
use Rattle.std.specs.Prelude.{List, [], ◌∷◌, ℕ, eqb, ltb}
use Rattle.terms.specs.Paper.{Paper, answer, refusal, pick}
use Rattle.ledger_spec.specs.State.{Asked, nothing, range, Book}
use Rattle.ledger_spec.specs.Calls as ledger
use Rattle.ledger_spec.specs.Calls.{missing_count, held_count, fresh}
use Rattle.channels_spec.specs.Table.{Place, free, holds, Table, put, place_of, free_place, pending_place, steps, turn, is_open, book_in, book_of}

-- what is said to one channel's ledger
pub data Said : Type 0 where
  Tick : (n : ℕ) → Said
  Announce : (n : ℕ) → Said
  Reply : (first status : ℕ) → Said
  Between : (a z : ℕ) → Said

-- a request names no channel, and a new session (request 12) none either
pub data Call : Type 0 where
  Open : (channel : ℕ) → Call
  Close : (channel : ℕ) → Call
  Request : Call
  To : (channel : ℕ) → Said → Call
  Told : (channel : ℕ) → Call
  Renew : Call

-- the ledger's own call
abbrev pub called : ℕ → Said → ledger.Call
called channel (Tick n) = ledger.Tick channel n
called channel (Announce n) = ledger.Announce channel n
called channel (Reply first status) = ledger.Reply channel first status
called channel (Between a z) = ledger.Ask (ledger.Between channel a z)

-- ======== Opening and closing

-- "on opening, 10, then 22 already open, then 21 table full"
unfoldable pub opening_number : Table → ℕ → ℕ
opening_number t channel = pick (ltb 9999 channel) 10 (pick (is_open t channel) 22 (pick (ltb (free_place t) 32) 0 21))

-- "18 for a channel not open"
abbrev pub closing_number : Table → ℕ → ℕ
closing_number t channel = pick (is_open t channel) 0 18

-- ======== A request

-- 14: "one request is pending for the whole table"; 15: no open channel has something missing; else
-- the number of the ledger whose turn it is
abbrev pub asking : Table → ledger.Call
asking t = ledger.Request (book_in (t.place (turn t))).channel

abbrev pub asked : Table → Paper
asked t = ledger.answer_to (book_in (t.place (turn t))) (asking t)

unfoldable pub request_number : Table → ℕ
request_number t = pick (ltb (pending_place t) 32) 14 (pick (ltb (steps t) 32) (asked t).number 15)

-- the ledger whose turn it is has its request pending, and its place was asked last
abbrev pub granted : Table → Table
granted t =
    record {
      place = (put t (turn t) (holds (ledger.next_of (book_in (t.place (turn t))) (asking t)))).place;
      last = turn t;
    }

-- ======== A new session: each ledger has nothing pending, and all else stays, the turn too

abbrev pub renewed_place : Place → Place
renewed_place free = free
renewed_place (holds b) = holds (ledger.next_of b ledger.Renew)

abbrev pub renewed : Table → Table
renewed t = record { place = λ i. renewed_place (t.place i); last = t.last }

-- ======== What a channel has to tell: floor, top, how many numbers are missing and held, the
-- pending request's first and last number or 0 and 0

abbrev pub pending_told : Asked → List ℕ
pending_told nothing = 0 ∷ 0 ∷ []
pending_told (range first last) = first ∷ last ∷ []

abbrev pub told_of : Book → List ℕ
told_of b = b.floor ∷ b.top ∷ missing_count b ∷ held_count b ∷ pending_told b.pending

-- ======== One call

-- beside 18 stands what the ledger puts beside a refusal of that call
abbrev pub unopened : ℕ → Said → Paper
unopened channel said = answer 18 (ledger.beside (called channel said))

unfoldable pub answer_to : Table → Call → Paper
answer_to t (Open channel) = refusal (opening_number t channel)
answer_to t (Close channel) = refusal (closing_number t channel)
answer_to t Request = answer (request_number t) (pick (eqb (request_number t) 0) ((book_in (t.place (turn t))).channel ∷ (asked t).values) [])
answer_to t (To channel said) = pick (is_open t channel) (ledger.answer_to (book_of t channel) (called channel said)) (unopened channel said)
answer_to t (Told channel) = pick (is_open t channel) (answer 0 (told_of (book_of t channel))) (refusal 18)
answer_to t Renew = answer 0 []

unfoldable pub next_of : Table → Call → Table
next_of t (Open channel) = pick (eqb (opening_number t channel) 0) (put t (free_place t) (holds (fresh channel))) t
next_of t (Close channel) = pick (is_open t channel) (put t (place_of t channel) free) t
next_of t Request = pick (eqb (request_number t) 0) (granted t) t
next_of t (To channel said) = pick (is_open t channel) (put t (place_of t channel) (holds (ledger.next_of (book_of t channel) (called channel said)))) t
next_of t (Told channel) = t
next_of t Renew = renewed t
