-- Document 01, "Marked examples": the twelve of them as one table under one theorem, computed from
-- the definitions.
use Rattle.std.specs.Prelude.{ℕ, ◌+◌, ◌-◌, ◌^◌, ◌<◌, ◌≡◌, refl, Bool, true, false, List, [], ◌∷◌, length, replicate, take, eqb}
use Rattle.std.proofs.Common.{sym, ap, ◌∙◌, arith}
use Rattle.std.specs.Int.Count.{ones, count_trailing_zeros}
use Rattle.std.proofs.Math.Pow.{pow-lt}
use Rattle.terms.specs.Paper.{Paper, answer, refusal, pick}
use Rattle.octets.specs.Octets.{numeral, digits_of, sum8, sum_of}
use Rattle.calendar.specs.Calendar.{leap, days_in, real_parts, real_time}
use Rattle.rules.specs.Table.{kind_of, suits, measure_of}
use Rattle.rules.specs.Fields.{fields_ok, judge_of}
use Rattle.frame_spec.specs.Frame.{body_length, checked, read_of}
use Rattle.frame_spec.specs.Examples.{start_of_a, frame_a, header_m101}
use Rattle.tick_map.specs.Bits.{run, bit, tally}
use Rattle.tick_map.proofs.Digits.{ones_tally}
use Rattle.ledger_spec.specs.State.{Asked, nothing, range, Book, has, range_rules, map_rules, sound_of}
use Rattle.ledger_spec.specs.Calls.{Call, Tick, Announce, Request, Ask, Missing, own_number, checked_of, number_to, passes, taken, raised, waiting, asked, done, missing_count, values_of, answer_to, next_of, fresh}

-- a line of an example over a ledger: a call and its answer, or what the ledger's top then is
pub data Line : Type 0 where
  call : Call → Paper → Line
  top_is : ℕ → Line

-- bytes read from their front, the answer, and how many bytes the frame has (0 where there is
-- none); or lines on a fresh ledger, channel 100
pub data Example : Type 0 where
  reading : List ℕ → Paper → ℕ → Example
  ledger : List Line → Example

abbrev four : ℕ → ℕ → List ℕ
four c d = 0 ∷ 0 ∷ c ∷ d ∷ []

pub table : List Example
table =
    reading [] (refusal 1) 0  -- 1. Empty input: 1.
    ∷ reading (replicate 23 0) (refusal 1) 0  -- 2. 23 bytes: 1.
    ∷ reading (frame_a (four 0 0) (four 0 0x8E)) (answer 0 (0x53303033 ∷ 0x0047FA7908DACB40 ∷ 1 ∷ 0 ∷ [])) 28  -- 3. A: 0, 28 bytes.
    ∷ reading (frame_a (four 0 0) (four 0 0x8F)) (refusal 5) 0  -- 4. A ending 8F: 5.
    ∷ reading (frame_a (four 0 0) (four 1 0x8E)) (refusal 5) 0  -- 5. A ending 0000018E: 5.
    ∷ reading (frame_a (four 0 1) (four 0 0x8E)) (refusal 4) 0  -- 6. A with BodyLength 1: 4.
    ∷ reading (header_m101 0x1F 0xE5) (refusal 3) 0  -- 7. M101 header with 8,165: 3;
    ∷ reading (header_m101 0x1F 0xE4) (refusal 1) 0  -- with 8,164 and no body: 1.
    ∷ ledger
    (call (Tick 100 2) (answer 0 (1 ∷ 0 ∷ []))  -- 8. Fresh, tick 2: 0, nothing passed,
    ∷ call (Ask Missing) (answer 0 (1 ∷ []))  -- missing 1,
    ∷ call (Request 100) (answer 0 (1 ∷ 1 ∷ []))  -- request 1 to 1;
    ∷ call (Tick 100 1) (answer 0 (1 ∷ 2 ∷ []))  -- tick 1: passes 1 and 2.
    ∷ [])
    ∷ ledger (call (Tick 100 256) (answer 0 (1 ∷ 0 ∷ [])) ∷ [])  -- 9. Fresh, tick 256: 0.
    ∷ ledger
    (call (Tick 100 257) (refusal 12)  -- 10. Fresh, tick 257: 12,
    ∷ top_is 257  -- top 257,
    ∷ call (Request 100) (answer 0 (1 ∷ 200 ∷ []))  -- request 1 to 200.
    ∷ [])
    ∷ ledger
    (call (Announce 100 0) (answer 0 [])  -- 11. Fresh, announce 0,
    ∷ call (Request 100) (refusal 15)  -- request: 15.
    ∷ [])
    ∷ ledger
    (call (Announce 100 300) (answer 0 [])  -- 12. Announce 300,
    ∷ call (Tick 100 100) (answer 0 (1 ∷ 0 ∷ []))  -- tick 100,
    ∷ call (Request 100) (answer 0 (1 ∷ 99 ∷ []))  -- request: 1 to 99.
    ∷ [])
    ∷ []

-- lines that the definitions bear out, from a book on: each call has its answer, and the book goes
-- on to the next line
pub data Plays : Book → List Line → Type 0 where
  p_end : {b : Book} → Plays b []
  p_call : {b : Book} {c : Call} {a : Paper} {lines : List Line} → answer_to b c ≡ a → Plays (next_of b c) lines → Plays b (call c a ∷ lines)
  p_top : {b : Book} {n : ℕ} {lines : List Line} → b.top ≡ n → Plays b lines → Plays b (top_is n ∷ lines)

-- how many bytes the frame at the front of s has
abbrev frame_length : Paper → List ℕ → ℕ
frame_length a s = pick (eqb a.number 0) (28 + body_length s) 0

pub data Holds : Example → Type 0 where
  h_reading : {s : List ℕ} {a : Paper} {n : ℕ} → read_of s ≡ a → frame_length (read_of s) s ≡ n → Holds (reading s a n)
  h_ledger : {lines : List Line} → Plays (fresh 100) lines → Holds (ledger lines)

pub data AllHold : List Example → Type 0 where
  h_end : AllHold []
  h_also : {e : Example} {es : List Example} → Holds e → AllHold es → AllHold (e ∷ es)

-- ---- one call at a time, on a book that is written out

record Step (b : Book) (c : Call) (a : Paper) (after : Book) : Type 0 where
  answered : answer_to b c ≡ a
  then : next_of b c ≡ after

-- a call and the lines behind it
goes_on : {b : Book} {c : Call} {a : Paper} {after : Book} {lines : List Line} → Step b c a after → Plays after lines → Plays b (call c a ∷ lines)
goes_on {b} {c} {a} {after} {lines} s p = let q : Plays (next_of b c) lines = rw s.then p in p_call s.answered q

abbrev book : ℕ → ℕ → ℕ → Asked → Book
book floor top bits pending = record { channel = 100; floor = floor; top = top; bits = bits; pending = pending }

tick_2 : Step (fresh 100) (Tick 100 2) (answer 0 (1 ∷ 0 ∷ [])) (book 0 2 2 nothing)
unfolding number_to own_number checked_of sound_of map_rules range_rules has passes taken raised waiting asked done missing_count values_of answer_to next_of fresh run count_trailing_zeros
tick_2 = record { answered = refl; then = refl }

request_1 : Step (book 0 2 2 nothing) (Request 100) (answer 0 (1 ∷ 1 ∷ [])) (book 0 2 2 (range 1 1))
unfolding number_to own_number checked_of sound_of map_rules range_rules has passes taken raised waiting asked done missing_count values_of answer_to next_of fresh run count_trailing_zeros
request_1 = record { answered = refl; then = refl }

tick_1 : Step (book 0 2 2 (range 1 1)) (Tick 100 1) (answer 0 (1 ∷ 2 ∷ [])) (book 2 2 0 (range 1 1))
unfolding number_to own_number checked_of sound_of map_rules range_rules has passes taken raised waiting asked done missing_count values_of answer_to next_of fresh run count_trailing_zeros
tick_1 = record { answered = refl; then = refl }

tick_256 : Step (fresh 100) (Tick 100 256) (answer 0 (1 ∷ 0 ∷ [])) (book 0 256 (2 ^ 255) nothing)
unfolding number_to own_number checked_of sound_of map_rules range_rules has passes taken raised waiting asked done missing_count values_of answer_to next_of fresh run count_trailing_zeros
tick_256 = record { answered = refl; then = refl }

tick_257 : Step (fresh 100) (Tick 100 257) (refusal 12) (book 0 257 0 nothing)
unfolding number_to own_number checked_of sound_of map_rules range_rules has passes taken raised waiting asked done missing_count values_of answer_to next_of fresh run count_trailing_zeros
tick_257 = record { answered = refl; then = refl }

request_200 : Step (book 0 257 0 nothing) (Request 100) (answer 0 (1 ∷ 200 ∷ [])) (book 0 257 0 (range 1 200))
unfolding number_to own_number checked_of sound_of map_rules range_rules has passes taken raised waiting asked done missing_count values_of answer_to next_of fresh run count_trailing_zeros
request_200 = record { answered = refl; then = refl }

announce_0 : Step (fresh 100) (Announce 100 0) (answer 0 []) (book 0 0 0 nothing)
unfolding number_to own_number checked_of sound_of map_rules range_rules has passes taken raised waiting asked done missing_count values_of answer_to next_of fresh run count_trailing_zeros
announce_0 = record { answered = refl; then = refl }

request_none : Step (book 0 0 0 nothing) (Request 100) (refusal 15) (book 0 0 0 nothing)
unfolding number_to own_number checked_of sound_of map_rules range_rules has passes taken raised waiting asked done missing_count values_of answer_to next_of fresh run count_trailing_zeros
request_none = record { answered = refl; then = refl }

announce_300 : Step (fresh 100) (Announce 100 300) (answer 0 []) (book 0 300 0 nothing)
unfolding number_to own_number checked_of sound_of map_rules range_rules has passes taken raised waiting asked done missing_count values_of answer_to next_of fresh run count_trailing_zeros
announce_300 = record { answered = refl; then = refl }

tick_100 : Step (book 0 300 0 nothing) (Tick 100 100) (answer 0 (1 ∷ 0 ∷ [])) (book 0 300 (2 ^ 99) nothing)
unfolding number_to own_number checked_of sound_of map_rules range_rules has passes taken raised waiting asked done missing_count values_of answer_to next_of fresh run count_trailing_zeros
tick_100 = record { answered = refl; then = refl }

request_99 : Step (book 0 300 (2 ^ 99) nothing) (Request 100) (answer 0 (1 ∷ 99 ∷ [])) (book 0 300 (2 ^ 99) (range 1 99))
unfolding number_to own_number checked_of sound_of map_rules range_rules has passes taken raised waiting asked done missing_count values_of answer_to next_of fresh run count_trailing_zeros
request_99 = record { answered = refl; then = refl }

missing_1 : Step (book 0 2 2 nothing) (Ask Missing) (answer 0 (1 ∷ [])) (book 0 2 2 nothing)
unfolding number_to own_number checked_of sound_of map_rules range_rules has passes taken raised waiting asked done missing_count values_of answer_to next_of fresh run count_trailing_zeros ones
missing_1 = record { answered = refl; then = refl }

pub marked : AllHold table
unfolding table start_of_a frame_a header_m101 checked read_of numeral digits_of sum8 sum_of kind_of suits measure_of fields_ok real_time real_parts days_in leap judge_of
marked =
    (h_also (h_reading refl refl)
    (h_also (h_reading refl refl)
    (h_also (h_reading refl refl)
    (h_also (h_reading refl refl)
    (h_also (h_reading refl refl)
    (h_also (h_reading refl refl)
    (h_also (h_reading refl refl)
    (h_also (h_reading refl refl)
    (h_also (h_ledger (goes_on tick_2 (goes_on missing_1 (goes_on request_1 (goes_on tick_1 p_end)))))
    (h_also (h_ledger (goes_on tick_256 p_end))
    (h_also (h_ledger (goes_on tick_257 (p_top refl (goes_on request_200 p_end))))
    (h_also (h_ledger (goes_on announce_0 (goes_on request_none p_end)))
    (h_also (h_ledger (goes_on announce_300 (goes_on tick_100 (goes_on request_99 p_end))))
    h_end)))))))))))))
