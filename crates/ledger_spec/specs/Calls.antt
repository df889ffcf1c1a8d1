-- The calls of a ledger in document 01's numbers: what each is answered, and the state after it.
-- Document 01, "What each number says" and "Ledger".
use Rattle.std.specs.Prelude.{Bool, true, false, ◌&&◌, not, List, [], ◌∷◌, ℕ, ◌+◌, ◌-◌, ◌/◌, ◌%◌, ◌^◌, min, max, eqb, leb, ltb}
use Rattle.std.specs.Int.Bits.{bit_or}
use Rattle.std.specs.Int.Count.{ones, count_trailing_zeros}
use Rattle.terms.specs.Paper.{Paper, answer, pick}
use Rattle.tick_map.specs.Bits.{run}
use Rattle.ledger_spec.specs.State.{Asked, nothing, range, Book, or_else, largest, has, sound_of}

-- what a ledger may be asked without being changed: how many numbers are missing, how many are
-- held, and how many from a to z are missing
pub data Question : Type 0 where
  Missing : Question
  Held : Question
  Between : (channel a z : ℕ) → Question

-- a call; each names its channel, but the first two questions and a new session (request 12)
pub data Call : Type 0 where
  Tick : (channel n : ℕ) → Call
  Announce : (channel n : ℕ) → Call
  Request : (channel : ℕ) → Call
  Reply : (channel first status : ℕ) → Call
  Ask : Question → Call
  Renew : Call

-- the number that a tick or an announcement offers
abbrev pub offered : Call → ℕ
offered (Tick channel n) = n
offered (Announce channel n) = n
offered (Request channel) = 0
offered (Reply channel first status) = 0
offered (Ask q) = 0
offered Renew = 0

-- ======== The number answered

-- a tick's number: above 0, at most 18 digits
abbrev pub tick_number : ℕ → Bool
tick_number n = leb 1 n && leb n largest

-- a reply's status: 1 to 5 or 99
abbrev pub reply_status : ℕ → Bool
reply_status s = or_else (leb 1 s && leb s 5) (eqb s 99)

abbrev pub is_pending : Asked → Bool
is_pending nothing = false
is_pending (range first last) = true

abbrev pub starts_at : Asked → ℕ → Bool
starts_at nothing n = false
starts_at (range first last) n = eqb first n

-- whether a call names another channel
abbrev pub elsewhere : Book → Call → Bool
elsewhere b (Tick channel n) = not (eqb channel b.channel)
elsewhere b (Announce channel n) = not (eqb channel b.channel)
elsewhere b (Request channel) = not (eqb channel b.channel)
elsewhere b (Reply channel first status) = not (eqb channel b.channel)
elsewhere b (Ask Missing) = false
elsewhere b (Ask Held) = false
elsewhere b (Ask (Between channel a z)) = not (eqb channel b.channel)
elsewhere b Renew = false

-- the checks of each call after 13 and 18, in their order (document 01, Numbers, paragraph 2); of
-- request 8's question 10, for either end
-- (15: nothing is missing where the top is the floor, since floor + 1 is not held. `given_15` says
-- it in the document's words.)
unfoldable pub own_number : Book → Call → ℕ
own_number b (Tick channel n) = pick (not (tick_number n)) 10 (pick (has b n) 11 (pick (ltb (b.floor + 256) n) 12 0))
own_number b (Announce channel n) = pick (ltb largest n) 10 0
own_number b (Request channel) = pick (is_pending b.pending) 14 (pick (eqb b.top b.floor) 15 0)
own_number b (Reply channel first status) = pick (not (reply_status status)) 17 (pick (not (starts_at b.pending first)) 16 0)
own_number b (Ask Missing) = 0
own_number b (Ask Held) = 0
own_number b (Ask (Between channel a z)) = pick (not (tick_number a && tick_number z)) 10 0
own_number b Renew = 0

-- 13, then 18, then the call's own checks (document 01, Numbers, paragraph 2)
unfoldable pub checked_of : Book → Bool → ℕ → ℕ
checked_of b other own = pick (not (sound_of b)) 13 (pick other 18 own)

unfoldable pub number_to : Book → Call → ℕ
number_to b call = checked_of b (elsewhere b call) (own_number b call)

-- ======== The state after the call

-- the book once its floor has passed k numbers of the map m, which moves down by as many
abbrev pub moved : Book → (k m top : ℕ) → Asked → Book
moved b k m top pending = record { channel = b.channel; floor = b.floor + k; top = top; bits = m / 2 ^ k; pending = pending }

-- the map with the tick's place, and how many numbers the floor then passes: the run of held
-- ones above it
abbrev pub marked : Book → ℕ → ℕ
marked b n = bit_or b.bits (2 ^ (n - b.floor - 1))

unfoldable pub passes : Book → ℕ → ℕ
passes b n = run 256 (marked b n)

-- a tick is "marked received", and the floor moves on (document 01, Ledger, paragraph 2)
unfoldable pub taken : Book → ℕ → Book
taken b n = moved b (passes b n) (marked b n) (max b.top n) b.pending

-- ---- a reply: status 4 gives up what the pending range still misses (CR 7)

abbrev pub last_of : Asked → ℕ
last_of nothing = 0
last_of (range first last) = last

-- how many numbers above the floor the pending range reaches, on status 4
unfoldable pub reach : Book → ℕ → ℕ
reach b status = pick (eqb status 4) (last_of b.pending - b.floor) 0

-- the map with all of them, and how many numbers the floor then passes: these, and the received
-- ones that follow
abbrev pub covered : Book → ℕ → ℕ
covered b w = bit_or b.bits (2 ^ w - 1)

unfoldable pub leaps : Book → ℕ → ℕ
leaps b w = run 256 (covered b w)

-- the given-up numbers, and the received ones newly passed: each as one number, whose digit i
-- stands for floor + 1 + i
unfoldable pub gave_up : Book → ℕ → ℕ
gave_up b w = (2 ^ w - 1) - b.bits % 2 ^ w

unfoldable pub handed : Book → ℕ → ℕ
handed b w = b.bits % 2 ^ leaps b w

unfoldable pub replied : Book → ℕ → Book
replied b w = moved b (leaps b w) (covered b w) b.top nothing

-- the top raised to n, if it was lower
unfoldable pub raised : Book → ℕ → Book
raised b n = record { channel = b.channel; floor = b.floor; top = max b.top n; bits = b.bits; pending = b.pending }

unfoldable pub waiting : Book → Asked → Book
waiting b p = record { channel = b.channel; floor = b.floor; top = b.top; bits = b.bits; pending = p }

-- how many numbers a request names: it ends before the first held one, at the top, or after 200
-- (document 01, Ledger, paragraph 2)
unfoldable pub asked : Book → ℕ
asked b = min (min (b.top - b.floor) (count_trailing_zeros 256 b.bits)) 200

-- where the call is answered 0; a new session clears the pending request and keeps all else
unfoldable pub done : Book → Call → Book
done b (Tick channel n) = taken b n
done b (Announce channel n) = raised b n
done b (Request channel) = waiting b (range (b.floor + 1) (b.floor + asked b))
done b (Reply channel first status) = replied b (reach b status)
done b (Ask q) = b
done b Renew = waiting b nothing

-- a refusal changes nothing, but 12 may raise the top (document 01, Numbers, paragraph 2)
abbrev pub next_at : Book → Call → ℕ → Book
next_at b call number = pick (eqb number 0) (done b call) (pick (eqb number 12) (raised b (offered call)) b)

-- ======== The values answered

unfoldable pub held_count : Book → ℕ
held_count b = ones b.bits

unfoldable pub missing_count : Book → ℕ
missing_count b = b.top - b.floor - ones b.bits

-- request 8, from the floor, the top and a count of bits: the numbers from a to z that lie above
-- the floor and not above the top, less those of them that are held. The map has 256 places, so no
-- more are counted. `between_counts` of proofs/Between.antt says what it means
abbrev pub lowest : Book → ℕ → ℕ
lowest b a = max a (b.floor + 1)

abbrev pub span : Book → ℕ → ℕ → ℕ
span b a z = min z b.top + 1 - lowest b a

unfoldable pub between_count : Book → ℕ → ℕ → ℕ
between_count b a z = span b a z - ones (b.bits / 2 ^ min 256 (lowest b a - b.floor - 1) % 2 ^ min 256 (span b a z))

-- the count that a question is answered by
abbrev pub count_of : Book → Question → ℕ
count_of b Missing = missing_count b
count_of b Held = held_count b
count_of b (Between channel a z) = between_count b a z

-- a tick's answer: the first number newly passed, and how many; a request's: first and last number;
-- a count's: the count; a reply's: the floor + 1 that both its sets count from, the given-up
-- numbers, and the received ones newly passed
unfoldable pub values_of : Book → Call → List ℕ
values_of b (Tick channel n) = (b.floor + 1) ∷ passes b n ∷ []
values_of b (Announce channel n) = []
values_of b (Request channel) = (b.floor + 1) ∷ (b.floor + asked b) ∷ []
values_of b (Reply channel first status) = (b.floor + 1) ∷ gave_up b (reach b status) ∷ handed b (reach b status) ∷ []
values_of b (Ask q) = count_of b q ∷ []
values_of b Renew = []

-- beside a refusal: nothing; beside a refused count, 0, and beside a refused reply 0 and
-- two empty sets
abbrev pub beside : Call → List ℕ
beside (Tick channel n) = []
beside (Announce channel n) = []
beside (Request channel) = []
beside (Reply channel first status) = 0 ∷ 0 ∷ 0 ∷ []
beside (Ask q) = 0 ∷ []
beside Renew = []

abbrev pub answer_at : Book → Call → ℕ → Paper
answer_at b call number = answer number (pick (eqb number 0) (values_of b call) (beside call))

-- ======== One call

unfoldable pub answer_to : Book → Call → Paper
answer_to b call = answer_at b call (number_to b call)

unfoldable pub next_of : Book → Call → Book
next_of b call = next_at b call (number_to b call)

-- ======== Opening

unfoldable pub fresh : ℕ → Book
fresh channel = record { channel = channel; floor = 0; top = 0; bits = 0; pending = nothing }

abbrev pub open_number : ℕ → ℕ
open_number channel = pick (ltb 9999 channel) 10 0

-- opening: 0; or 10, and beside it a fresh ledger of channel 0 (document 01, Numbers, paragraph 2)
unfoldable pub open_of : ℕ → Book
open_of channel = pick (ltb 9999 channel) (fresh 0) (fresh channel)
