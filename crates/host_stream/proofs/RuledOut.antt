-- For each function that a host may call on a stream: wrong answers that its promise rules out, as
-- tables of what is given and what is then wrong. A stream is six words (place, seeking, closed,
-- how many bytes wait, frames, refused), the ledger's nine, and the bytes that wait.
-- Assumes nothing.
use mathlib.Core.Path.{◌≡◌, refl, ap₂}
use Rattle.terms.specs.Letters.{spelled}
use Rattle.terms.specs.Paper.{Paper}
use Rattle.terms.specs.Refusals.{refusal_of}
use Rattle.terms.specs.RuledOut.{Row, ◌never◌, ◌only◌, Kept, RulesOut, ruled, numbers, lists, beside}
use Rattle.record.specs.Examples.{record_a}
use Prim.Native.Nat.{ℕ}
use mathlib.Core.List.{List, [], ◌∷◌, ◌++◌}
use lib.ListN.{length, take, drop, replicate}
use Rattle.octets.specs.Octets.{numeral, digits_of, laid, sum8, sum_of}
use Rattle.calendar.specs.Calendar.{leap, days_in, real_parts, real_time}
use Rattle.rules.specs.Table.{kind_of, suits, measure_of}
use Rattle.rules.specs.Fields.{p001_ok, p002_ok, fields_ok, judge_of}
use Rattle.frame_spec.specs.Frame.{checked, read_of, body_read}
use Rattle.frame_spec.specs.Write.{plain_of, frame_of}
use Rattle.frame_spec.specs.Examples.{start_of_a, frame_a, frame_b, A, framed, heartbeat, resend}
use Rattle.octets.specs.Papers.{laid_if_room}
use Rattle.private.specs.Scrub.{painted, summed, scrubbed}
use Rattle.frame_view.specs.View.{view_of}
use Rattle.tick_map.specs.Bits as Bits
use Rattle.tick_map.specs.Ring.{rotated}
use Rattle.ledger_spec.specs.State.{range_rules, map_rules, sound_of}
use Rattle.ledger_spec.specs.Calls as Book
use Rattle.ledger.specs.State.{book_of, ledger_of}
use Rattle.walk_laws.specs.Walk.{after, next, found, noted}
use Rattle.walk_laws.specs.Waits as Waits
use Rattle.walk_laws.specs.Cuts as Cuts
use Rattle.walk_laws.specs.Account as Account
use Rattle.walk_laws.specs.Frames.{joined, each_of}
use Rattle.record.specs.Record.{first_half, second_half, record_of, blank_of}
use Rattle.reading.specs.Seen.{seen_of, says_of}
use Rattle.walk_spec.specs.Offers.{calls_by, offering, offer_of}
use Rattle.walk_spec.specs.Walk.{made_of, record_by, book_by, accepts, refuses}
use Rattle.stream_spec.specs.State as State
use Rattle.stream_spec.specs.Tally as Tally
use Rattle.stream_spec.specs.Calls as Calls
use Rattle.stream_spec.specs.State.{opened}
use Rattle.stream_spec.specs.Calls.{Call, Feed, Close, leaves}
use Rattle.host_words.specs.Words.{words_of, pending_in, ledger_in}
use Rattle.host_words.specs.Told.{told_by, Tells}
use Rattle.host_stream_spec.specs.Lent.{Lent, lent, state_of, lent_of, waiting_in, stream_in}
use Rattle.host_stream_spec.specs.Calls.{call_told, kept_beside, lent_after}
use Rattle.stream_clean_spec.specs.Wash as Wash
use Rattle.stream_clean_spec.specs.Calls as Clean
use Rattle.host_stream_spec.specs.Washes.{wash_told, wash_after}
use Rattle.host_stream.proofs.rk_stream_open.Reads as rk-open
use Rattle.host_stream.proofs.rk_stream_open.Kinds as rk-open-kinds
use Rattle.host_stream.proofs.rk_stream_feed.Reads as rk-feed
use Rattle.host_stream.proofs.rk_stream_feed.Kinds as rk-feed-kinds
use Rattle.host_stream.proofs.rk_stream_close.Reads as rk-close
use Rattle.host_stream.proofs.rk_stream_close.Kinds as rk-close-kinds
use Rattle.host_stream.proofs.rk_stream_clean.Reads as rk-clean
use Rattle.host_stream.proofs.rk_stream_clean.Kinds as rk-clean-kinds
use Rattle.host_stream.proofs.rk_stream_clean_close.Reads as rk-clean-close
use Rattle.host_stream.proofs.rk_stream_clean_close.Kinds as rk-clean-close-kinds

-- what is seen of a stream: its six words, the ledger's channel, floor and top, and the first 20 of
-- the bytes that wait
abbrev seen : Lent → List ℕ
seen k = k.state ++ (take 3 k.ledger ++ take 20 k.kept)

-- the number answered, what is told, the stream then, and the buffer then
abbrev Outcome : Type 0
Outcome = ℕ × (List ℕ × (List ℕ × List ℕ))

abbrev shown : ℕ → List ℕ → Lent → List ℕ → Outcome
shown n told k d = (n, (told, (seen k, d)))

said : {p : Paper} {was row d d' : List ℕ} {n : ℕ} {k k' : Lent} → Tells p was n row × ((k ≡ k') × (d ≡ d')) → shown n row k d ≡ shown p.number (told_by p was) k' d'
said e =
    ap₂ (λ (n : ℕ) (r : List ℕ × (List ℕ × List ℕ)). (n, r)) e.0.answered
    (ap₂ (λ (t : List ℕ) (r : List ℕ × List ℕ). (t, r)) e.0.told (ap₂ (λ (k : Lent) (d : List ℕ). (seen k, d)) e.1.0 e.1.1))

-- OPEN, whatever was there
abbrev pub rk_stream_open_wrong : List (Row (Unit {0}) (ℕ × List ℕ))
rk_stream_open_wrong =
    tt only (0, 0 ∷ 0 ∷ 0 ∷ 0 ∷ 0 ∷ 0 ∷ 100 ∷ 0 ∷ 0 ∷ replicate 20 0)
    ∷ tt never (0, 0 ∷ 1 ∷ 0 ∷ 0 ∷ 0 ∷ 0 ∷ 100 ∷ 0 ∷ 0 ∷ replicate 20 0)  -- seeking from the start
    ∷ []

pub rk_stream_open_rules_out : RulesOut (Kept _ rk-open-kinds.ps rk-open-kinds.r rk-open.Post) (λ c. tt) (λ c. (c.result, seen (lent c.exit.0.now c.exit.1.0.now c.exit.1.1.0.now))) rk_stream_open_wrong
unfolding frame_a start_of_a frame_b checked read_of body_read numeral digits_of laid sum8 sum_of kind_of suits measure_of p001_ok fields_ok real_time real_parts days_in leap judge_of view_of Bits.value_of Bits.map_of rotated range_rules map_rules sound_of Book.own_number Book.checked_of Book.number_to Book.raised Book.done Book.next_of Book.fresh book_of ledger_of after next found noted joined each_of Account.account_of first_half second_half record_of blank_of refusal_of seen_of says_of calls_by offering offer_of made_of record_by book_by accepts refuses opened State.head_of State.is_seeking State.meant_by State.value_of State.all_zero State.waits_right State.sound_of Tally.tally_with Tally.record_at Tally.tally_after Tally.ledger_right Tally.tally_right Calls.given_of Calls.behind_of Calls.number_for Calls.answer_for Calls.next_for Calls.leaves_for Cuts.feed_of Waits.waits Waits.ran_of words_of pending_in ledger_in told_by state_of waiting_in stream_in kept_beside lent_after
rk_stream_open_rules_out = ruled (beside numbers lists) (λ (i : Unit {0}). (0, seen (lent_of opened))) (λ c p. ap₂ (λ (n : ℕ) (k : Lent). (n, seen k)) p.0 p.1) _ refl

-- CALLS: a stream, a call, a lent buffer, and the told row before
abbrev Input : Type 0
Input = Lent × (Call × (List ℕ × List ℕ))

abbrev answered_by : Input → Outcome
answered_by i =
    shown (call_told i.0 i.1.0 (length i.1.1.0)).number (told_by (call_told i.0 i.1.0 (length i.1.1.0)) i.1.1.1)
    (lent_after i.0 i.1.0 (length i.1.1.0))
    (leaves (stream_in i.0) i.1.0 i.1.1.0)

abbrev pub rk_stream_feed_wrong : List (Row Input Outcome)
rk_stream_feed_wrong =
    (lent_of opened, (Feed (A ++ take 20 frame_b), (replicate 64 7, replicate 5 7))) only (0, (1 ∷ 1 ∷ 0 ∷ 28 ∷ 20 ∷ [], (28 ∷ 0 ∷ 0 ∷ 20 ∷ 1 ∷ 0 ∷ 100 ∷ 0 ∷ 0 ∷ take 20 frame_b, record_of record_a)))  -- what may still become a frame is kept
    ∷ (lent_of opened, (Feed A, (replicate 63 7, replicate 5 7))) only (8, (replicate 5 7, (0 ∷ 0 ∷ 0 ∷ 0 ∷ 0 ∷ 0 ∷ 100 ∷ 0 ∷ 0 ∷ replicate 20 0, replicate 63 7)))  -- nothing changes beside 8
    ∷ []

pub rk_stream_feed_rules_out : RulesOut (Kept _ rk-feed-kinds.ps rk-feed-kinds.r rk-feed.Post) (λ c. (lent c.args.0.now c.args.1.0.now c.args.1.1.0.now, (Feed c.args.1.1.1.0.now, (c.args.1.1.1.1.0.now, c.args.1.1.1.1.1.0.now)))) (λ c. shown c.result c.exit.1.1.1.1.1.0.now (lent c.exit.0.now c.exit.1.0.now c.exit.1.1.0.now) c.exit.1.1.1.1.0.now) rk_stream_feed_wrong
unfolding frame_a start_of_a frame_b checked read_of body_read numeral digits_of laid sum8 sum_of kind_of suits measure_of p001_ok fields_ok real_time real_parts days_in leap judge_of view_of Bits.value_of Bits.map_of rotated range_rules map_rules sound_of Book.own_number Book.checked_of Book.number_to Book.raised Book.done Book.next_of Book.fresh book_of ledger_of after next found noted joined each_of Account.account_of first_half second_half record_of blank_of refusal_of seen_of says_of calls_by offering offer_of made_of record_by book_by accepts refuses opened State.head_of State.is_seeking State.meant_by State.value_of State.all_zero State.waits_right State.sound_of Tally.tally_with Tally.record_at Tally.tally_after Tally.ledger_right Tally.tally_right Calls.given_of Calls.behind_of Calls.number_for Calls.answer_for Calls.next_for Calls.leaves_for Cuts.feed_of Waits.waits Waits.ran_of words_of pending_in ledger_in told_by state_of waiting_in stream_in kept_beside lent_after
rk_stream_feed_rules_out = ruled (beside numbers (beside lists (beside lists lists))) answered_by (λ c p. said p.0) _ refl

abbrev waiting : Lent
waiting = lent_after (lent_of opened) (Feed (A ++ take 20 frame_b)) 64

abbrev pub rk_stream_close_wrong : List (Row Input Outcome)
rk_stream_close_wrong =
    (waiting, (Close, (replicate 64 7, replicate 5 7))) never (0, (0 ∷ 1 ∷ 0 ∷ 48 ∷ 0 ∷ [], (48 ∷ 0 ∷ 1 ∷ 0 ∷ 1 ∷ 0 ∷ 100 ∷ 0 ∷ 0 ∷ replicate 20 0, replicate 64 7)))  -- what waits is dropped in silence
    ∷ (waiting, (Close, (replicate 64 7, replicate 5 7))) only (0, (1 ∷ 1 ∷ 1 ∷ 48 ∷ 0 ∷ [], (48 ∷ 1 ∷ 1 ∷ 0 ∷ 1 ∷ 1 ∷ 100 ∷ 0 ∷ 0 ∷ replicate 20 0, record_of (blank_of 28 1 0 0))))
    ∷ (lent_after waiting Close 64, (Close, (replicate 64 7, replicate 5 7))) never (0, (0 ∷ 1 ∷ 1 ∷ 48 ∷ 0 ∷ [], (48 ∷ 1 ∷ 1 ∷ 0 ∷ 1 ∷ 1 ∷ 100 ∷ 0 ∷ 0 ∷ replicate 20 0, replicate 64 7)))  -- closed a second time
    ∷ []

pub rk_stream_close_rules_out : RulesOut (Kept _ rk-close-kinds.ps rk-close-kinds.r rk-close.Post) (λ c. (lent c.args.0.now c.args.1.0.now c.args.1.1.0.now, (Close, (c.args.1.1.1.0.now, c.args.1.1.1.1.0.now)))) (λ c. shown c.result c.exit.1.1.1.1.0.now (lent c.exit.0.now c.exit.1.0.now c.exit.1.1.0.now) c.exit.1.1.1.0.now) rk_stream_close_wrong
unfolding frame_a start_of_a frame_b checked read_of body_read numeral digits_of laid sum8 sum_of kind_of suits measure_of p001_ok fields_ok real_time real_parts days_in leap judge_of view_of Bits.value_of Bits.map_of rotated range_rules map_rules sound_of Book.own_number Book.checked_of Book.number_to Book.raised Book.done Book.next_of Book.fresh book_of ledger_of after next found noted joined each_of Account.account_of first_half second_half record_of blank_of refusal_of seen_of says_of calls_by offering offer_of made_of record_by book_by accepts refuses opened State.head_of State.is_seeking State.meant_by State.value_of State.all_zero State.waits_right State.sound_of Tally.tally_with Tally.record_at Tally.tally_after Tally.ledger_right Tally.tally_right Calls.given_of Calls.behind_of Calls.number_for Calls.answer_for Calls.next_for Calls.leaves_for Cuts.feed_of Waits.waits Waits.ran_of words_of pending_in ledger_in told_by state_of waiting_in stream_in kept_beside lent_after
rk_stream_close_rules_out = ruled (beside numbers (beside lists (beside lists lists))) answered_by (λ c p. said p) _ refl

-- CLEAN: what is told has six numbers
abbrev cleaned_by : Input → Outcome
cleaned_by i =
    shown (wash_told i.0 i.1.0 (length i.1.1.0)).number (told_by (wash_told i.0 i.1.0 (length i.1.1.0)) i.1.1.1)
    (wash_after i.0 i.1.0 (length i.1.1.0))
    (Clean.leaves (stream_in i.0) i.1.0 i.1.1.0)

abbrev begun : Lent
begun = wash_after (lent_of opened) (Feed (take 50 (resend 1 0x41))) 0

-- 29 bytes that are no frame, and a frame whose body no rule judges
abbrev damaged : Lent
damaged = wash_after (lent_of opened) (Feed (replicate 29 0xFF)) 0

abbrev unjudged : List ℕ
unjudged = framed (spelled "M101") (1 ∷ 2 ∷ [])

abbrev pub rk_stream_clean_wrong : List (Row Input Outcome)
rk_stream_clean_wrong =
    (begun, (Feed (drop 50 (resend 1 0x41)), (replicate 81 7, replicate 6 7))) only (0, (80 ∷ 1 ∷ 0 ∷ 0 ∷ 80 ∷ 0 ∷ [], (80 ∷ 0 ∷ 0 ∷ 0 ∷ 0 ∷ 0 ∷ 100 ∷ 0 ∷ 0 ∷ replicate 20 0, resend 1 0x20 ++ (7 ∷ []))))  -- no private byte left, and none kept
    ∷ (damaged, (Feed unjudged, (replicate 30 7, replicate 6 7))) only (0, (30 ∷ 1 ∷ 1 ∷ 1 ∷ 59 ∷ 0 ∷ [], (59 ∷ 0 ∷ 0 ∷ 0 ∷ 0 ∷ 0 ∷ 100 ∷ 0 ∷ 0 ∷ replicate 20 0, unjudged)))  -- an M101 after damage is told as both: found there, and judged by no rule
    ∷ (lent_of opened, (Feed heartbeat, (replicate 27 7, replicate 6 7))) only (8, (replicate 6 7, (0 ∷ 0 ∷ 0 ∷ 0 ∷ 0 ∷ 0 ∷ 100 ∷ 0 ∷ 0 ∷ replicate 20 0, replicate 27 7)))  -- nothing changes beside 8
    ∷ (wash_after begun Close 0, (Feed heartbeat, (replicate 27 7, replicate 6 7))) never (8, (replicate 6 7, (50 ∷ 1 ∷ 1 ∷ 0 ∷ 0 ∷ 0 ∷ 100 ∷ 0 ∷ 0 ∷ replicate 20 0, replicate 27 7)))  -- 8 before 19
    ∷ []

pub rk_stream_clean_rules_out : RulesOut (Kept _ rk-clean-kinds.ps rk-clean-kinds.r rk-clean.Post) (λ c. (lent c.args.0.now c.args.1.0.now c.args.1.1.0.now, (Feed c.args.1.1.1.0.now, (c.args.1.1.1.1.0.now, c.args.1.1.1.1.1.0.now)))) (λ c. shown c.result c.exit.1.1.1.1.1.0.now (lent c.exit.0.now c.exit.1.0.now c.exit.1.1.0.now) c.exit.1.1.1.1.0.now) rk_stream_clean_wrong
unfolding plain_of frame_of checked read_of body_read numeral digits_of laid laid_if_room painted summed scrubbed sum8 sum_of kind_of suits measure_of p002_ok fields_ok real_time real_parts days_in leap judge_of view_of Bits.value_of Bits.map_of rotated range_rules map_rules sound_of Book.own_number Book.checked_of Book.number_to Book.raised Book.done Book.next_of Book.fresh book_of ledger_of after next found noted joined each_of Account.account_of first_half second_half record_of blank_of refusal_of seen_of says_of calls_by offering offer_of made_of record_by book_by accepts refuses opened State.head_of State.is_seeking State.meant_by State.value_of State.all_zero State.waits_right State.sound_of Tally.tally_with Tally.record_at Tally.tally_after Tally.ledger_right Tally.tally_right Calls.given_of Calls.behind_of Calls.number_for Calls.answer_for Calls.next_for Calls.leaves_for Cuts.feed_of Waits.waits Waits.ran_of words_of pending_in ledger_in told_by state_of waiting_in stream_in kept_beside lent_after Calls.may_take Wash.washed Wash.unjudged_by Wash.plus Wash.one_of Wash.sums_of Wash.lays Clean.reads_for Clean.wash_behind Clean.number_for Clean.answer_for Clean.next_for Clean.leaves_for wash_after
rk_stream_clean_rules_out = ruled (beside numbers (beside lists (beside lists lists))) cleaned_by (λ c p. said p.0) _ refl

abbrev pub rk_stream_clean_close_wrong : List (Row Input Outcome)
rk_stream_clean_close_wrong =
    (begun, (Close, (replicate 80 7, replicate 6 7))) only (0, (0 ∷ 0 ∷ 0 ∷ 0 ∷ 50 ∷ 0 ∷ [], (50 ∷ 1 ∷ 1 ∷ 0 ∷ 0 ∷ 0 ∷ 100 ∷ 0 ∷ 0 ∷ replicate 20 0, replicate 80 7)))  -- a private text that waits is neither passed on nor kept
    ∷ (wash_after begun Close 0, (Close, (replicate 80 7, replicate 6 7))) only (19, (replicate 6 7, (50 ∷ 1 ∷ 1 ∷ 0 ∷ 0 ∷ 0 ∷ 100 ∷ 0 ∷ 0 ∷ replicate 20 0, replicate 80 7)))  -- not closed a second time
    ∷ []

pub rk_stream_clean_close_rules_out : RulesOut (Kept _ rk-clean-close-kinds.ps rk-clean-close-kinds.r rk-clean-close.Post) (λ c. (lent c.args.0.now c.args.1.0.now c.args.1.1.0.now, (Close, (c.args.1.1.1.0.now, c.args.1.1.1.1.0.now)))) (λ c. shown c.result c.exit.1.1.1.1.0.now (lent c.exit.0.now c.exit.1.0.now c.exit.1.1.0.now) c.exit.1.1.1.0.now) rk_stream_clean_close_wrong
unfolding plain_of frame_of checked read_of body_read numeral digits_of laid laid_if_room painted summed scrubbed sum8 sum_of kind_of suits measure_of p002_ok fields_ok real_time real_parts days_in leap judge_of view_of Bits.value_of Bits.map_of rotated range_rules map_rules sound_of Book.own_number Book.checked_of Book.number_to Book.raised Book.done Book.next_of Book.fresh book_of ledger_of after next found noted joined each_of Account.account_of first_half second_half record_of blank_of refusal_of seen_of says_of calls_by offering offer_of made_of record_by book_by accepts refuses opened State.head_of State.is_seeking State.meant_by State.value_of State.all_zero State.waits_right State.sound_of Tally.tally_with Tally.record_at Tally.tally_after Tally.ledger_right Tally.tally_right Calls.given_of Calls.behind_of Calls.number_for Calls.answer_for Calls.next_for Calls.leaves_for Cuts.feed_of Waits.waits Waits.ran_of words_of pending_in ledger_in told_by state_of waiting_in stream_in kept_beside lent_after Calls.may_take Wash.washed Wash.unjudged_by Wash.plus Wash.one_of Wash.sums_of Wash.lays Clean.reads_for Clean.wash_behind Clean.number_for Clean.answer_for Clean.next_for Clean.leaves_for wash_after
rk_stream_clean_close_rules_out = ruled (beside numbers (beside lists (beside lists lists))) cleaned_by (λ c p. said p) _ refl
