-- Wrong answers that the promises of this crate rule out, as tables of what is given and what is
-- then wrong. Assumes nothing.
use Prim.Native.Nat.{ℕ}
use Rattle.std.specs.Prelude.{Ok}
use mathlib.Core.Path.{refl, ap, ap₂}
use mathlib.Core.List.{List, [], ◌∷◌, ◌++◌}
use lib.Count.{count_trailing_zeros}
use Rattle.terms.specs.Letters.{spelled}
use Rattle.terms.specs.Counters.{session_of, tick_of, channel_of}
use Rattle.terms.specs.Verdicts.{verdict_number}
use Rattle.terms.specs.RuledOut.{Row, ◌never◌, ◌only◌, Kept, RulesOut, ruled, numbers, lists, beside}
use Rattle.rules.specs.Table.{kind_of, suits, measure_of}
use Rattle.rules.specs.Fields.{p001_ok, fields_ok, judge_of}
use Rattle.frame_spec.specs.Frame.{checked, read_of}
use Rattle.frame_spec.specs.Search.{first_of, search_of}
use Rattle.frame_spec.specs.Examples.{start_of_a, frame_a, frame_b, four, A}
use Rattle.tick_map.specs.Bits.{value_of, map_of, run}
use Rattle.tick_map.specs.Ring.{rotated}
use Rattle.ledger_spec.specs.State.{nothing, Book, has, range_rules, map_rules, sound_of}
use Rattle.ledger_spec.specs.Calls.{own_number, checked_of, number_to, passes, taken, raised, done, next_of}
use Rattle.ledger.specs.State.{book_of, ledger_of}
use Rattle.ledger.specs.declared.Ledger.{Ledger}
use Rattle.reading.specs.declared.Seen.{Seen}
use Rattle.walk_spec.specs.Offers.{calls_by, offering, offer_of}
use Rattle.walk_step.proofs.offer.Reads as offer
use Rattle.walk_step.proofs.offer.Kinds as offer-kinds
use lib.ListN.{replicate}
use Rattle.octets.specs.Octets.{numeral, digits_of, laid, sum8, sum_of}
use Rattle.calendar.specs.Calendar.{leap, days_in, real_parts, real_time}
use Rattle.record.specs.declared.Record.{Record}
use Rattle.record.specs.Record.{first_half, second_half, record_of}
use Rattle.record.specs.Examples.{record_a}
use Rattle.walk_spec.specs.Walk.{made_of}
use Rattle.walk_spec.specs.Tables.{noted_at}
use Rattle.walk_spec.specs.Onward.{onward_of}
use Rattle.walk_step.proofs.made.Reads as made
use Rattle.walk_step.proofs.made.Kinds as made-kinds
use Rattle.walk_step.proofs.note.Reads as note
use Rattle.walk_step.proofs.note.Kinds as note-kinds
use Rattle.walk_step.proofs.onward.Reads as onward
use Rattle.walk_step.proofs.onward.Kinds as onward-kinds

-- a ledger of channel 100 with nothing held; and what is seen of an accepted frame of this type and
-- channel, with the number 1
abbrev book : ℕ → ℕ → Book
book floor top = record { channel = 100; floor = floor; top = top; bits = 0; pending = nothing }

abbrev frame : ℕ → ℕ → Seen
frame type channel = record { answer = Ok tt; msg_type = type; seq = session_of 9; channel = channel_of channel; tick = tick_of 1; status = 0; body_len = 45; size = 73 }

-- the number answered; and of the ledger then: floor, top, held numbers
abbrev seen : Book → List ℕ
seen b = b.floor ∷ b.top ∷ b.bits ∷ []

abbrev shown : ℕ → Ledger → ℕ × List ℕ
shown n l = (n, seen (book_of l))

abbrev pub offer_wrong : List (Row (Book × Seen) (ℕ × List ℕ))
offer_wrong =
    (book 0 0, frame (spelled "M201") 100) only (0, 1 ∷ 1 ∷ 0 ∷ [])  -- an M201 is a tick
    ∷ (book 0 0, frame (spelled "P001") 100) never (0, 1 ∷ 1 ∷ 0 ∷ [])  -- a P001 taken for a tick
    ∷ (book 0 0, frame (spelled "P001") 100) only (0, 0 ∷ 1 ∷ 0 ∷ [])  -- it announces
    ∷ (book 0 0, frame (spelled "P002") 100) only (0, 0 ∷ 0 ∷ 0 ∷ [])  -- a P002 is not offered
    ∷ (book 0 0, frame (spelled "M201") 101) only (18, 0 ∷ 0 ∷ 0 ∷ [])  -- another channel's tick is not taken
    ∷ []

pub offer_rules_out : RulesOut (Kept _ offer-kinds.ps offer-kinds.r offer.Post) (λ c. (book_of c.args.0, c.args.1.0)) (λ c. shown (verdict_number c.result.answer) c.result.next) offer_wrong
unfolding kind_of value_of map_of rotated run count_trailing_zeros has range_rules map_rules sound_of own_number checked_of number_to passes taken raised done next_of book_of ledger_of calls_by offering offer_of
offer_rules_out = ruled (beside numbers lists) (λ (i : Book × Seen). shown (offer_of i.0 i.1).number (ledger_of (offer_of i.0 i.1).book)) (λ c p. ap₂ shown p.0 p.1) _ refl

-- MADE: a place, what is seen there, and of the ledger after it: the number answered, its floor and
-- its top. The record's nine numbers.
abbrev tick : Seen
tick = record { answer = Ok tt; msg_type = spelled "M201"; seq = session_of 2; channel = channel_of 100; tick = tick_of 3; status = 0; body_len = 45; size = 73 }

abbrev noted : Record → List ℕ
noted r = r.place ∷ r.msg_type ∷ r.answer ∷ r.seq.0 ∷ r.tick.0 ∷ r.channel.0 ∷ r.body_len ∷ r.floor.0 ∷ r.top.0 ∷ []

abbrev pub made_wrong : List (Row (ℕ × (Seen × (ℕ × (ℕ × ℕ)))) (List ℕ))
made_wrong =
    (7, (tick, (12, (4, 5)))) never (7 ∷ spelled "M201" ∷ 0 ∷ 2 ∷ 3 ∷ 100 ∷ 45 ∷ 4 ∷ 5 ∷ [])  -- the reading's answer for the ledger's
    ∷ (7, (tick, (12, (4, 5)))) never (7 ∷ spelled "M201" ∷ 12 ∷ 2 ∷ 3 ∷ 100 ∷ 45 ∷ 5 ∷ 5 ∷ [])  -- the top where the floor belongs
    ∷ (7, (tick, (12, (4, 5)))) only (7 ∷ spelled "M201" ∷ 12 ∷ 2 ∷ 3 ∷ 100 ∷ 45 ∷ 4 ∷ 5 ∷ [])
    ∷ (7, (tick, (4000000000, (4, 5)))) never (7 ∷ spelled "M201" ∷ 0 ∷ 2 ∷ 3 ∷ 100 ∷ 45 ∷ 4 ∷ 5 ∷ [])  -- a number that no refusal has told as 0
    ∷ (7, (tick, (4000000000, (4, 5)))) only (7 ∷ spelled "M201" ∷ 4000000000 ∷ 2 ∷ 3 ∷ 100 ∷ 45 ∷ 4 ∷ 5 ∷ [])
    ∷ []

pub made_rules_out : RulesOut (Kept _ made-kinds.ps made-kinds.r made.Post) (λ c. (c.args.0, (c.args.1.0, (c.args.1.1.0, (c.args.1.1.1.0.floor.0, c.args.1.1.1.0.top.0))))) (λ c. noted c.result) made_wrong
unfolding made_of
made_rules_out = ruled lists (λ (i : ℕ × (Seen × (ℕ × (ℕ × ℕ)))). noted (made_of i.0 i.1.0 i.1.1.0 (tick_of i.1.1.1.0) (tick_of i.1.1.1.1))) (λ c p. ap noted p) _ refl

-- NOTE: a buffer, a number and a record; the buffer then
abbrev pub note_wrong : List (Row (List ℕ × (ℕ × Record)) (List ℕ))
note_wrong =
    (replicate 129 7, (1, record_a)) never (record_of record_a ++ replicate 65 7)  -- every record laid over the first one
    ∷ (replicate 129 7, (1, record_a)) only (replicate 64 7 ++ (record_of record_a ++ (7 ∷ [])))
    ∷ (replicate 127 7, (1, record_a)) only replicate 127 7  -- nothing where it has no room
    ∷ []

pub note_rules_out : RulesOut (Kept _ note-kinds.ps note-kinds.r note.Post) (λ c. (c.args.0.now, (c.args.1.0, c.args.1.1.0))) (λ c. c.exit.0.now) note_wrong
unfolding digits_of laid first_half second_half record_of noted_at
note_rules_out = ruled lists (λ (i : List ℕ × (ℕ × Record)). noted_at i.1.0 i.1.1 i.0) (λ c p. p) _ refl

-- ONWARD: a capture, a place, and how many bytes the frame there has, none where it was refused;
-- the place of the next reading
abbrev damaged : List ℕ
damaged = frame_a (four 0 41) (four 0 0x8E) ++ (0xFF ∷ frame_b)

abbrev pub onward_wrong : List (Row (List ℕ × (ℕ × ℕ)) ℕ)
onward_wrong =
    (damaged, (0, 0)) never 69  -- stepped by a damaged BodyLength, over B
    ∷ (damaged, (0, 0)) only 29  -- B is found from the next byte on
    ∷ (A ++ frame_b, (0, 28)) never 1  -- a frame's own bytes searched
    ∷ (A ++ frame_b, (0, 28)) only 28
    ∷ (A ++ frame_b, (0, 0)) only 28  -- behind a refusal a frame at its own place is not looked for
    ∷ (0xFF ∷ 0xFF ∷ [], (0, 0)) only 2  -- nothing found: the end
    ∷ (A, (0, 29)) only 28  -- no place beyond the end
    ∷ (A, (29, 0)) only 28
    ∷ []

pub onward_rules_out : RulesOut (Kept _ onward-kinds.ps onward-kinds.r onward.Post) (λ c. (c.args.0.now, (c.args.1.0, c.args.1.1.0))) (λ c. c.result) onward_wrong
unfolding frame_a start_of_a frame_b checked read_of first_of search_of numeral sum8 sum_of kind_of suits measure_of p001_ok fields_ok real_time real_parts days_in leap judge_of onward_of
onward_rules_out = ruled numbers (λ (i : List ℕ × (ℕ × ℕ)). onward_of i.0 i.1.0 i.1.1) (λ c p. p) _ refl
