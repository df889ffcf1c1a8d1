-- Wrong answers that the promise of `walk` rules out, as a table of what is given and what is then
-- wrong. Assumes nothing.
use Prim.Native.Nat.{ℕ}
use mathlib.Core.Path.{refl, ap₂}
use mathlib.Core.List.{List, [], ◌∷◌, ◌++◌}
use lib.Count.{count_trailing_zeros}
use lib.ListN.{length, replicate}
use Rattle.terms.specs.Letters.{spelled}
use Rattle.terms.specs.Paper.{Paper, answer}
use Rattle.terms.specs.Refusals.{refusal_of}
use Rattle.terms.specs.RuledOut.{Row, ◌never◌, ◌only◌, Kept, RulesOut, ruled, lists, papers, beside}
use Rattle.octets.specs.Octets.{numeral, digits_of, bytes_of, laid, sum8, sum_of}
use Rattle.calendar.specs.Calendar.{leap, days_in, real_parts, real_time}
use Rattle.rules.specs.Table.{kind_of, suits, measure_of}
use Rattle.rules.specs.Fields.{p001_ok, layout_of, suits_tail, tail_ok, m201_ok, fields_ok, judge_of}
use Rattle.frame_spec.specs.Frame.{checked, read_of, body_read}
use Rattle.frame_spec.specs.Write.{plain_of, frame_of}
use Rattle.frame_spec.specs.Examples.{start_of_a, frame_a, frame_b, four, capture, framed, tick}
use Rattle.frame_view.specs.View.{view_of}
use Rattle.tick_map.specs.Bits.{value_of, map_of, run}
use Rattle.tick_map.specs.Ring.{rotated}
use Rattle.ledger_spec.specs.State.{Book, range_rules, map_rules, sound_of, has}
use Rattle.ledger_spec.specs.Calls.{own_number, checked_of, number_to, raised, done, next_of, fresh, passes, taken}
use Rattle.ledger.specs.State.{book_of, ledger_of}
use Rattle.ledger.specs.declared.Ledger.{Ledger}
use Rattle.walk_laws.specs.Walk.{after, next, found, noted, sights_of}
use Rattle.walk_laws.specs.Account as Account
use Rattle.walk_laws.specs.Frames.{joined, each_of}
use Rattle.record.specs.Record.{first_half, second_half, record_of, blank_of}
use Rattle.terms.specs.Counters.{session_of, tick_of, channel_of}
use Rattle.record.specs.declared.Record.{Record}
use Rattle.record.specs.Examples.{record_a, record_fF, record_b}
use Rattle.reading.specs.Seen.{seen_of, says_of}
use Rattle.walk_spec.specs.Offers.{calls_by, offering, offer_of}
use Rattle.walk_spec.specs.Walk.{made_of, record_by, book_by, accepts, refuses, frames_of, refused_of, fits_in, walk_answer, walk_book, walk_leaves}
use Rattle.walk.specs.Papers.{walk_paper}
use Rattle.walk.proofs.walk.Reads as walk
use Rattle.walk.proofs.walk.Kinds as walk-kinds

-- the answer with its three counts; channel, floor, top and held numbers of the ledger; and the
-- lent buffer then
abbrev Outcome : Type 0
Outcome = Paper × (List ℕ × List ℕ)

abbrev seen : Book → List ℕ
seen b = b.channel ∷ b.floor ∷ b.top ∷ b.bits ∷ []

abbrev shown : Paper → Ledger → List ℕ → Outcome
shown p l d = (p, (seen (book_of l), d))

-- A with 41 for its BodyLength, FF, B: 69 bytes, as that length says
abbrev damaged : List ℕ
damaged = frame_a (four 0 41) (four 0 0x8E) ++ (0xFF ∷ frame_b)

-- the record of tick 3 on channel 100 at a place, with an answer
abbrev tick_at : ℕ → ℕ → Record
tick_at place why =
    record { place = place; msg_type = spelled "M201"; answer = why; seq = session_of 1; tick = tick_of 3; channel = channel_of 100; body_len = 45; floor = tick_of 0; top = tick_of 3 }

-- tick 1 of channel 100, and its record with a floor
abbrev first_tick : List ℕ
first_tick = framed (spelled "M201") (13 ∷ bytes_of 2 100 ++ (bytes_of 8 1 ++ (replicate 17 0x30 ++ (0x30 ∷ replicate 16 0))))

abbrev first_at : ℕ → Record
first_at floor =
    record { place = 0; msg_type = spelled "M201"; answer = 0; seq = session_of 1; tick = tick_of 1; channel = channel_of 100; body_len = 45; floor = tick_of floor; top = tick_of 1 }

-- a capture (document 01's 69 bytes A, FF, B, the damaged one, or ticks) and a lent buffer
abbrev pub walk_wrong : List (Row (List ℕ × List ℕ) Outcome)
walk_wrong =
    (capture, replicate 193 7) only (answer 0 (3 ∷ 2 ∷ 1 ∷ []), (100 ∷ 0 ∷ 3 ∷ 0 ∷ [], record_of record_a ++ (record_of record_fF ++ (record_of record_b ++ (7 ∷ [])))))
    ∷ (capture, replicate 128 7) never (answer 0 (2 ∷ 2 ∷ 0 ∷ []), (100 ∷ 0 ∷ 3 ∷ 0 ∷ [], record_of record_a ++ record_of record_b))  -- the damage passed over in silence
    ∷ (capture, replicate 128 7) never (answer 8 (0 ∷ 0 ∷ 0 ∷ []), (100 ∷ 0 ∷ 0 ∷ 0 ∷ [], record_of record_a ++ record_of record_fF))  -- two records laid, and then 8
    ∷ (capture, replicate 128 7) only (answer 8 (0 ∷ 0 ∷ 0 ∷ []), (100 ∷ 0 ∷ 0 ∷ 0 ∷ [], replicate 128 7))
    ∷ (damaged, replicate 128 7) never (answer 0 (1 ∷ 0 ∷ 1 ∷ []), (100 ∷ 0 ∷ 0 ∷ 0 ∷ [], record_of (blank_of 0 4 0 0) ++ replicate 64 7))  -- stepped by a damaged BodyLength, over B
    ∷ (damaged, replicate 128 7) only (answer 0 (2 ∷ 1 ∷ 1 ∷ []), (100 ∷ 0 ∷ 3 ∷ 0 ∷ [], record_of (blank_of 0 4 0 0) ++ record_of record_b))
    ∷ (tick [] ++ tick [], replicate 128 7) only (answer 0 (2 ∷ 2 ∷ 0 ∷ []), (100 ∷ 0 ∷ 3 ∷ 4 ∷ [], record_of (tick_at 0 0) ++ record_of (tick_at 73 11)))  -- the ledger not forgotten between frames; a tick that it refuses is a frame; top as it is after the call
    ∷ (first_tick, replicate 64 7) never (answer 0 (1 ∷ 1 ∷ 0 ∷ []), (100 ∷ 1 ∷ 1 ∷ 0 ∷ [], record_of (first_at 0)))  -- the record has the floor from before the call
    ∷ (first_tick, replicate 64 7) only (answer 0 (1 ∷ 1 ∷ 0 ∷ []), (100 ∷ 1 ∷ 1 ∷ 0 ∷ [], record_of (first_at 1)))
    ∷ []

pub walk_rules_out : RulesOut (Kept _ walk-kinds.ps walk-kinds.r walk.Post) (λ c. (c.args.0.now, c.args.1.0.now)) (λ c. shown (walk_paper c.result) c.result.ledger c.exit.1.0.now) walk_wrong
unfolding frame_a start_of_a frame_b plain_of frame_of checked read_of body_read numeral digits_of laid sum8 sum_of kind_of suits measure_of p001_ok layout_of suits_tail tail_ok m201_ok fields_ok real_time real_parts days_in leap judge_of view_of value_of map_of rotated run count_trailing_zeros range_rules map_rules sound_of has own_number checked_of number_to passes taken raised done next_of fresh book_of ledger_of after next found noted sights_of joined each_of Account.account_of Account.walk_of first_half second_half record_of blank_of refusal_of seen_of says_of calls_by offering offer_of made_of record_by book_by accepts refuses frames_of refused_of fits_in walk_answer walk_book walk_leaves
walk_rules_out =
    ruled (beside papers (beside lists lists)) (λ (i : List ℕ × List ℕ). shown (walk_answer i.0 (length i.1)) (ledger_of (walk_book i.0 (length i.1))) (walk_leaves i.0 i.1))
    (λ c p. ap₂ (λ (x : Paper) (y : List ℕ × List ℕ). (x, y)) p.0 (ap₂ (λ (l : Ledger) (d : List ℕ). (seen (book_of l), d)) p.1.0 p.1.1))
    _
    refl
