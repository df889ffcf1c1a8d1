-- The calls of a stream: what each is answered, the stream after it, and what it leaves in the lent
-- buffer. CR 1.
use Rattle.std.specs.Prelude.{ℕ, ◌+◌, ◌/◌, Bool, true, false, not, List, [], ◌∷◌, eqb, leb, length, Err}
use Rattle.std.specs.Result.{result_unwrap_or}
use Rattle.terms.specs.Paper.{Paper, answer, pick}
use Rattle.octets.specs.Octets.{laid}
use Rattle.record.specs.declared.Record.{Record}
use Rattle.walk_laws.specs.Cuts as Cuts
use Rattle.reading.specs.Seen.{seen_of}
use Rattle.walk_spec.specs.Walk.{table_of}
use Rattle.stream_spec.specs.declared.Stream.{Stream}
use Rattle.stream_spec.specs.declared.Tally.{Tally}
use Rattle.stream_spec.specs.declared.Fed.{Fed}
use Rattle.terms.specs.declared.Refusal.{Refusal}
use Rattle.ledger.specs.Papers.{count_paper}
use Rattle.stream_spec.specs.Tally.{record_at, tally_after}
use Rattle.stream_spec.specs.State.{last_place, meant_by, value_of, sound_of}
use Rattle.stream_spec.specs.Run.{says_in}

-- one more cut, perhaps of no bytes; or the closing call, which brings none
pub data Call : Type 0 where
  Feed : List ℕ → Call
  Close : Call

abbrev pub cut_of : Call → List ℕ
cut_of (Feed cut) = cut
cut_of Close = []

abbrev pub closes : Call → Bool
closes (Feed cut) = false
closes Close = true

-- ---- what a cut comes to

-- the kept bytes and the cut, walked as far as no place waits; at the closing call none does
abbrev pub feed_of : Bool → Cuts.Stream Tally → List ℕ → Cuts.Fed Tally Record
feed_of closing y cut = Cuts.feed_of seen_of (says_in closing) record_at tally_after y cut

-- the records that it decides
unfoldable pub given_of : Stream → Bool → List ℕ → List Record
given_of x closing cut = (feed_of closing (meant_by x) cut).records

-- the stream behind it
unfoldable pub behind_of : Stream → Bool → List ℕ → Stream
behind_of x closing cut = value_of closing (feed_of closing (meant_by x) cut).stream

-- ---- one call, where the buffer has so much room

-- the refusals of a call in their order: 13, then 19, 29 and 8 as CR 1 has them
unfoldable pub number_for : Stream → Bool → List ℕ → ℕ → ℕ
number_for x closing cut room =
    pick (not (sound_of x)) 13
    (pick x.closed 19
    (pick (not (leb (x.place + (x.len + length cut)) last_place)) 29
    (pick (not (leb (length (given_of x closing cut)) (room / 64))) 8 0)))

-- those that go before the room, where a call brings n bytes
unfoldable pub may_take : Stream → ℕ → ℕ
may_take x n =
    pick (not (sound_of x)) 13
    (pick x.closed 19
    (pick (not (leb (x.place + (x.len + n)) last_place)) 29 0))

-- the number, and how many records
unfoldable pub answer_for : Stream → Bool → List ℕ → ℕ → Paper
answer_for x closing cut room = answer (number_for x closing cut room) (pick (eqb (number_for x closing cut room) 0) (length (given_of x closing cut)) 0 ∷ [])

-- "nothing changes" beside a refusal
unfoldable pub next_for : Stream → Bool → List ℕ → ℕ → Stream
next_for x closing cut room = pick (eqb (number_for x closing cut room) 0) (behind_of x closing cut) x

unfoldable pub leaves_for : Stream → Bool → List ℕ → List ℕ → List ℕ
leaves_for x closing cut d = pick (eqb (number_for x closing cut (length d)) 0) (laid 0 (table_of (given_of x closing cut)) d) d

-- the same by the call: its records, its number, its answer, the stream after it, and what it
-- leaves in the buffer
abbrev pub share : Stream → Call → List Record
share x call = given_of x (closes call) (cut_of call)

abbrev pub number_to : Stream → Call → ℕ → ℕ
number_to x call room = number_for x (closes call) (cut_of call) room

abbrev pub answer_to : Stream → Call → ℕ → Paper
answer_to x call room = answer_for x (closes call) (cut_of call) room

abbrev pub next_of : Stream → Call → ℕ → Stream
next_of x call room = next_for x (closes call) (cut_of call) room

abbrev pub leaves : Stream → Call → List ℕ → List ℕ
leaves x call d = leaves_for x (closes call) (cut_of call) d

-- ---- the code's answers in numbers

-- number, and how many records, 0 beside a refusal
abbrev pub fed_paper : Fed ℕ → Paper
fed_paper f = count_paper f.answer

-- how many records a call gave
abbrev pub records_of : Fed ℕ → ℕ
records_of f = result_unwrap_or f.answer 0

abbrev pub refused_by : {T : Type 0} → Stream → Refusal → Fed T
refused_by x why = record { answer = Err why; stream = x }
