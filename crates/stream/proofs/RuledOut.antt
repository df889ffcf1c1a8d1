-- For each public function: wrong answers that its promise rules out, as tables of what is given
-- and what is then wrong. Assumes nothing.
use Prim.Native.Nat.{ℕ, ◌-◌}
use mathlib.Core.Path.{◌≡◌, refl, ap, ap₂}
use mathlib.Core.Bool.{Bool, true, false}
use mathlib.Core.List.{List, [], ◌∷◌, ◌++◌}
use lib.ListN.{length, take, drop, replicate}
use denote.RattleType.{RattleType}
use denote.Param.Laws.{Laws}
use mir.Syntax.{Dict}
use Rattle.std.specs.Prelude.{Result, Ok, Err}
use Rattle.terms.specs.declared.Refusal.{Refusal}
use Rattle.terms.specs.declared.Refusal.TheVariants.{More, Sum}
use Rattle.terms.specs.Paper.{Paper, answer}
use Rattle.terms.specs.Refusals.{refusal_of}
use Rattle.terms.specs.Counters.{session_of, tick_of, channel_of}
use Rattle.terms.specs.RuledOut.{Row, ◌never◌, ◌only◌, Kept, RulesOut, ruled, bools, lists, papers, beside}
use Rattle.octets.specs.Octets.{numeral, digits_of, laid, sum8, sum_of}
use Rattle.calendar.specs.Calendar.{leap, days_in, real_parts, real_time}
use Rattle.rules.specs.Table.{kind_of, suits, measure_of}
use Rattle.rules.specs.Fields.{p001_ok, fields_ok, judge_of}
use Rattle.frame_spec.specs.Frame.{checked, read_of, body_read}
use Rattle.frame_spec.specs.Write.{plain_of, frame_of}
use Rattle.frame_spec.specs.Examples.{start_of_a, frame_a, frame_b, A, framed}
use Rattle.frame_view.specs.View.{view_of}
use Rattle.tick_map.specs.Bits as Bits
use Rattle.tick_map.specs.Ring.{rotated}
use Rattle.ledger_spec.specs.State.{range_rules, map_rules, sound_of}
use Rattle.ledger_spec.specs.Calls as Book
use Rattle.ledger.specs.State.{book_of, ledger_of}
use Rattle.walk_laws.specs.Walk.{after, next, found, noted}
use Rattle.walk_laws.specs.Waits as Waits
use Rattle.walk_laws.specs.Cuts as Cuts
use Rattle.walk_laws.specs.Account as Account
use Rattle.walk_laws.specs.Frames.{joined, each_of}
use Rattle.record.specs.declared.Record.{Record}
use Rattle.record.specs.Record.{first_half, second_half, record_of, blank_of}
use Rattle.record.specs.Examples.{record_a, record_b}
use Rattle.reading.specs.Seen.{seen_of, says_of}
use Rattle.walk_spec.specs.Offers.{calls_by, offering, offer_of}
use Rattle.walk_spec.specs.Walk.{made_of, record_by, book_by, accepts, refuses}
use Rattle.stream_spec.specs.declared.Stream.{Stream}
use Rattle.stream_spec.specs.State as State
use Rattle.stream_spec.specs.State.{opened}
use Rattle.stream_spec.specs.Tally as Tally
use Rattle.stream_spec.specs.Run.{waits_at, passed_over}
use Rattle.stream_spec.specs.Calls as Calls
use Rattle.stream_spec.specs.Calls.{Feed, Close, fed_paper, answer_to, next_of, leaves}
use Rattle.terms.specs.Verdicts.{verdict_number}
use Rattle.stream.specs.Standing.{whole, fed_of, has_rest, rest_of}
use Rattle.stream.proofs.waits.Reads as waits
use Rattle.stream.proofs.waits.Kinds as waits-kinds
use Rattle.stream.proofs.passes.Reads as passes
use Rattle.stream.proofs.passes.Kinds as passes-kinds
use Rattle.stream.proofs.keep_rest.Reads as keep-rest
use Rattle.stream.proofs.keep_rest.Kinds as keep-rest-kinds
use Rattle.stream.proofs.may_take.Reads as may-take
use Rattle.stream.proofs.may_take.Kinds as may-take-kinds
use Rattle.stream.proofs.feed.Reads as feed
use Rattle.stream.proofs.feed.Kinds as feed-kinds
use Rattle.stream.proofs.close.Reads as close
use Rattle.stream.proofs.close.Kinds as close-kinds

-- whether this is the closing call, or the search is under way, and an answer, whatever it holds
module _ (T : RattleType) (laws : Laws T) (drops : Dict) (held : T.Denot) where
  abbrev pub waits_wrong : List (Row (Bool × Result T.Denot Refusal) Bool)
  waits_wrong =
      (false, Err More) only true
      ∷ (true, Err More) only false  -- at the closing call none waits
      ∷ (false, Err Sum) only false  -- any refusal waits
      ∷ (false, Ok held) only false
      ∷ []

  pub waits_rules_out : RulesOut (Kept _ (waits-kinds.ps T laws) (waits-kinds.r T laws) (waits.Post T laws drops)) (λ c. (c.args.0, c.args.1.0)) (λ c. c.result) waits_wrong
  unfolding waits_at
  waits_rules_out = ruled bools (λ (i : Bool × Result T.Denot Refusal). waits_at i.0 (verdict_number i.1)) (λ c p. p) _ refl

  abbrev pub passes_wrong : List (Row (Bool × Result T.Denot Refusal) Bool)
  passes_wrong =
      (true, Err Sum) only true
      ∷ (false, Err Sum) only false  -- the first refused place unrecorded
      ∷ (true, Ok held) only false  -- a frame that the search finds passed over
      ∷ []

  pub passes_rules_out : RulesOut (Kept _ (passes-kinds.ps T laws) (passes-kinds.r T laws) (passes.Post T laws drops)) (λ c. (c.args.0, c.args.1.0)) (λ c. c.result) passes_wrong
  unfolding passed_over
  passes_rules_out = ruled bools (λ (i : Bool × Result T.Denot Refusal). passed_over i.0 (verdict_number i.1)) (λ c p. p) _ refl

-- a store, how many bytes of it wait, a place, and the cut behind them; and the store then
abbrev pub keep_rest_wrong : List (Row (List ℕ × (ℕ × (ℕ × List ℕ))) (List ℕ))
keep_rest_wrong =
    (1 ∷ 2 ∷ 3 ∷ 0 ∷ 0 ∷ [], (3, (1, 9 ∷ []))) only (2 ∷ 3 ∷ 9 ∷ 0 ∷ 0 ∷ [])  -- the cut left out, or laid in front of what waited
    ∷ (1 ∷ 2 ∷ 3 ∷ 0 ∷ 0 ∷ [], (3, (2, []))) never (3 ∷ 2 ∷ 3 ∷ 0 ∷ 0 ∷ [])  -- bytes linger behind the kept ones
    ∷ (1 ∷ 2 ∷ 3 ∷ 0 ∷ 0 ∷ [], (3, (4, 7 ∷ 8 ∷ 9 ∷ []))) only (8 ∷ 9 ∷ 0 ∷ 0 ∷ 0 ∷ [])  -- a place in the cut counted from the cut's front, or bytes that linger
    ∷ (1 ∷ 2 ∷ 3 ∷ 4 ∷ 5 ∷ [], (3, (3, []))) only (0 ∷ 0 ∷ 0 ∷ 4 ∷ 5 ∷ [])  -- bytes behind those that waited are lost
    ∷ (1 ∷ 2 ∷ 3 ∷ [], (3, (0, 9 ∷ []))) only (1 ∷ 2 ∷ 3 ∷ [])  -- a part kept of what the store does not take
    ∷ (1 ∷ 2 ∷ 3 ∷ [], (3, (5, 9 ∷ []))) only (1 ∷ 2 ∷ 3 ∷ [])  -- a place behind the cut clears the store
    ∷ (1 ∷ 2 ∷ 3 ∷ [], (4, (4, 9 ∷ []))) only (1 ∷ 2 ∷ 3 ∷ [])  -- bytes that the store does not have are taken as waiting
    ∷ []

pub keep_rest_rules_out : RulesOut (Kept _ keep-rest-kinds.ps keep-rest-kinds.r keep-rest.Post) (λ c. (c.args.0.now, (c.args.1.0, (c.args.1.1.0, c.args.1.1.1.0.now)))) (λ c. c.exit.0.now) keep_rest_wrong
unfolding has_rest rest_of laid
keep_rest_rules_out = ruled lists (λ (i : List ℕ × (ℕ × (ℕ × List ℕ))). rest_of i.1.0 i.1.1.0 i.1.1.1 i.0) (λ c p. p) _ refl

-- what is seen of a stream: its place, how many bytes are kept, frames and refused, and the whole
-- store; and of a call: the answer, the stream then, and the buffer then
abbrev seen : Stream → List ℕ
seen x = x.place ∷ x.len ∷ x.tally.frames ∷ x.tally.refused ∷ x.kept

-- the store: these bytes, and zeros behind them
abbrev store : List ℕ → List ℕ
store s = s ++ replicate (8191 - length s) 0

abbrev Outcome : Type 0
Outcome = Paper × (List ℕ × List ℕ)

abbrev shown : Paper → Stream → List ℕ → Outcome
shown p x d = (p, (seen x, d))

-- each call promises its answer, its stream and its buffer
both : {p q : Paper} {x y : Stream} {d e : List ℕ} → (p ≡ q) × ((x ≡ y) × (d ≡ e)) → shown p x d ≡ shown q y e
both {p} {q} {x} {y} {d} {e} h = ap₂ (λ (a : Paper) (r : List ℕ × List ℕ). (a, r)) h.0 (ap₂ (λ (z : Stream) (l : List ℕ). (seen z, l)) h.1.0 h.1.1)

-- streams behind a cut: 20 bytes of A; 29 bytes that are no frame; A and 20 bytes of B; and
-- this one closed
abbrev begun : Stream
begun = next_of opened (Feed (take 20 A)) 0

abbrev damaged : Stream
damaged = next_of opened (Feed (replicate 29 0xFF)) 64

abbrev waiting : Stream
waiting = next_of opened (Feed (A ++ take 20 frame_b)) 64

abbrev closed : Stream
closed = next_of waiting Close 64

-- the stream just opened, but at this place, and with this many kept bytes
abbrev moved : ℕ → ℕ → Stream
moved place len = record { place = place; seeking = opened.seeking; closed = opened.closed; len = len; kept = opened.kept; tally = opened.tally }

-- a cut longer than the store: an M101 of 8,192 bytes, and A behind it; and the records of both
abbrev longest : List ℕ
longest = framed 0x4D313031 (replicate 8164 0)

abbrev long_record : Record
long_record =
    record { place = 0; msg_type = 0x4D313031; answer = 0; seq = session_of 1; tick = tick_of 0; channel = channel_of 0; body_len = 8164; floor = tick_of 0; top = tick_of 0 }

abbrev behind_longest : Record
behind_longest =
    record { place = 8192; msg_type = 0x53303033; answer = 0; seq = session_of 1; tick = tick_of 0; channel = channel_of 0; body_len = 0; floor = tick_of 0; top = tick_of 0 }

-- a stream, and how many bytes a call brings
abbrev pub may_take_wrong : List (Row (Stream × ℕ) Paper)
may_take_wrong =
    (opened, 18446744073709551615) only answer 0 []  -- a cut too long
    ∷ (moved 18446744073709551600 0, 16) only answer 29 []  -- a place past 64 bits
    ∷ (closed, 18446744073709551600) only answer 19 []  -- 29 before 19
    ∷ (moved 18446744073709551600 8192, 16) only answer 13 []  -- 29 before 13
    ∷ []

pub may_take_rules_out : RulesOut (Kept _ may-take-kinds.ps may-take-kinds.r may-take.Post) (λ c. (whole c.args.0 c.args.1.0.now, c.args.1.1.0)) (λ c. answer (verdict_number c.result) []) may_take_wrong
unfolding frame_a start_of_a frame_b checked read_of body_read numeral digits_of laid sum8 sum_of kind_of suits measure_of p001_ok fields_ok real_time real_parts days_in leap judge_of refusal_of view_of Bits.value_of Bits.map_of rotated range_rules map_rules sound_of Book.own_number Book.checked_of Book.number_to Book.raised Book.done Book.next_of Book.fresh book_of ledger_of after next found noted joined each_of Account.account_of first_half second_half record_of blank_of seen_of says_of calls_by offering offer_of made_of record_by book_by accepts refuses
    opened State.head_of State.is_seeking State.meant_by State.value_of State.all_zero State.waits_right State.sound_of Tally.tally_with Tally.record_at Tally.tally_after Tally.ledger_right Tally.tally_right Calls.may_take Calls.given_of Calls.behind_of Calls.number_for Calls.answer_for Calls.next_for Calls.leaves_for Cuts.feed_of Waits.waits Waits.ran_of
may_take_rules_out = ruled papers (λ (i : Stream × ℕ). answer (Calls.may_take i.0 i.1) []) (λ c p. ap (λ (n : ℕ). answer n []) p) _ refl

-- a stream, a cut, and a lent buffer
abbrev pub feed_wrong : List (Row (Stream × (List ℕ × List ℕ)) Outcome)
feed_wrong =
    (opened, (A ++ take 20 frame_b, replicate 65 7)) only (answer 0 (1 ∷ []), (28 ∷ 20 ∷ 1 ∷ 0 ∷ store (take 20 frame_b), record_of record_a ++ (7 ∷ [])))  -- what may still become a frame is not refused, and not lost
    ∷ (begun, (drop 20 A, replicate 64 7)) only (answer 0 (1 ∷ []), (28 ∷ 0 ∷ 1 ∷ 0 ∷ store [], record_of record_a))  -- no byte lost at a cut
    ∷ (begun, (drop 20 A, replicate 64 7)) never (answer 0 (1 ∷ []), (28 ∷ 0 ∷ 1 ∷ 0 ∷ store (take 20 A), record_of record_a))  -- bytes linger behind the kept ones
    ∷ (begun, ([], replicate 64 7)) only (answer 0 (0 ∷ []), (0 ∷ 20 ∷ 0 ∷ 0 ∷ store (take 20 A), replicate 64 7))  -- an empty cut is not the end
    ∷ (opened, (replicate 29 0xFF, replicate 64 7)) only (answer 0 (1 ∷ []), (6 ∷ 23 ∷ 0 ∷ 1 ∷ store (replicate 23 0xFF), record_of (blank_of 0 2 0 0)))  -- the search does not pass over a place that waits
    ∷ (damaged, (frame_b, replicate 64 7)) only (answer 0 (1 ∷ []), (69 ∷ 0 ∷ 1 ∷ 1 ∷ store [], record_of record_b))  -- damage recorded before a cut is not recorded again behind it
    ∷ (opened, (longest ++ A, replicate 128 7)) never (answer 0 (2 ∷ []), (8220 ∷ 0 ∷ 2 ∷ 0 ∷ store [], record_of behind_longest ++ replicate 64 7))  -- a later record of a cut laid over the first
    ∷ (opened, (longest ++ A, replicate 128 7)) only (answer 0 (2 ∷ []), (8220 ∷ 0 ∷ 2 ∷ 0 ∷ store [], record_of long_record ++ record_of behind_longest))
    ∷ (opened, (A, replicate 63 7)) only (answer 8 (0 ∷ []), (0 ∷ 0 ∷ 0 ∷ 0 ∷ store [], replicate 63 7))  -- nothing changes beside 8, and no part of the cut is taken
    ∷ (begun, (drop 20 A, replicate 63 7)) only (answer 8 (0 ∷ []), (0 ∷ 20 ∷ 0 ∷ 0 ∷ store (take 20 A), replicate 63 7))  -- nor laid in the store
    ∷ (closed, (A, replicate 64 7)) only (answer 19 (0 ∷ []), (48 ∷ 0 ∷ 1 ∷ 1 ∷ store [], replicate 64 7))  -- no cut taken behind the closing call
    ∷ (moved 18446744073709551600 0, (take 16 A, replicate 64 7)) only (answer 29 (0 ∷ []), (18446744073709551600 ∷ 0 ∷ 0 ∷ 0 ∷ store [], replicate 64 7))  -- a place past 64 bits
    ∷ (moved 0 8192, (A, replicate 64 7)) only (answer 13 (0 ∷ []), (0 ∷ 8192 ∷ 0 ∷ 0 ∷ store [], replicate 64 7))  -- 8,192 kept bytes pass as sound
    ∷ []

pub feed_rules_out : RulesOut (Kept _ feed-kinds.ps feed-kinds.r feed.Post) (λ c. (whole c.args.0 c.args.1.0.now, (c.args.1.1.0.now, c.args.1.1.1.0.now))) (λ c. shown (fed_paper (fed_of c.result c.exit.1.0.now)) (whole c.result.next c.exit.1.0.now) c.exit.1.1.1.0.now) feed_wrong
unfolding frame_a start_of_a frame_b plain_of frame_of checked read_of body_read numeral digits_of laid sum8 sum_of kind_of suits measure_of p001_ok fields_ok real_time real_parts days_in leap judge_of refusal_of view_of Bits.value_of Bits.map_of rotated range_rules map_rules sound_of Book.own_number Book.checked_of Book.number_to Book.raised Book.done Book.next_of Book.fresh book_of ledger_of after next found noted joined each_of Account.account_of first_half second_half record_of blank_of seen_of says_of calls_by offering offer_of made_of record_by book_by accepts refuses
    opened State.head_of State.is_seeking State.meant_by State.value_of State.all_zero State.waits_right State.sound_of Tally.tally_with Tally.record_at Tally.tally_after Tally.ledger_right Tally.tally_right Calls.given_of Calls.behind_of Calls.number_for Calls.answer_for Calls.next_for Calls.leaves_for Cuts.feed_of Waits.waits Waits.ran_of
feed_rules_out =
    ruled (beside papers (beside lists lists)) (λ (i : Stream × (List ℕ × List ℕ)). shown (answer_to i.0 (Feed i.1.0) (length i.1.1)) (next_of i.0 (Feed i.1.0) (length i.1.1)) (leaves i.0 (Feed i.1.0) i.1.1))
    (λ c p. both p.0)
    _
    refl

-- a stream and a lent buffer
abbrev pub close_wrong : List (Row (Stream × List ℕ) Outcome)
close_wrong =
    (waiting, replicate 64 7) never (answer 0 (0 ∷ []), (48 ∷ 0 ∷ 1 ∷ 0 ∷ store [], replicate 64 7))  -- what waits is dropped in silence
    ∷ (waiting, replicate 64 7) only (answer 0 (1 ∷ []), (48 ∷ 0 ∷ 1 ∷ 1 ∷ store [], record_of (blank_of 28 1 0 0)))
    ∷ (waiting, replicate 64 7) never (answer 0 (1 ∷ []), (48 ∷ 0 ∷ 1 ∷ 1 ∷ store (take 20 frame_b), record_of (blank_of 28 1 0 0)))  -- bytes linger in the store of a closed stream
    ∷ (closed, replicate 64 7) only (answer 19 (0 ∷ []), (48 ∷ 0 ∷ 1 ∷ 1 ∷ store [], replicate 64 7))  -- not closed a second time
    ∷ []

pub close_rules_out : RulesOut (Kept _ close-kinds.ps close-kinds.r close.Post) (λ c. (whole c.args.0 c.args.1.0.now, c.args.1.1.0.now)) (λ c. shown (fed_paper (fed_of c.result c.exit.1.0.now)) (whole c.result.next c.exit.1.0.now) c.exit.1.1.0.now) close_wrong
unfolding frame_a start_of_a frame_b checked read_of body_read numeral digits_of laid sum8 sum_of kind_of suits measure_of p001_ok fields_ok real_time real_parts days_in leap judge_of refusal_of view_of Bits.value_of Bits.map_of rotated range_rules map_rules sound_of Book.own_number Book.checked_of Book.number_to Book.raised Book.done Book.next_of Book.fresh book_of ledger_of after next found noted joined each_of Account.account_of first_half second_half record_of blank_of seen_of says_of calls_by offering offer_of made_of record_by book_by accepts refuses
    opened State.head_of State.is_seeking State.meant_by State.value_of State.all_zero State.waits_right State.sound_of Tally.tally_with Tally.record_at Tally.tally_after Tally.ledger_right Tally.tally_right Calls.given_of Calls.behind_of Calls.number_for Calls.answer_for Calls.next_for Calls.leaves_for Cuts.feed_of Waits.waits Waits.ran_of
close_rules_out =
    ruled (beside papers (beside lists lists)) (λ (i : Stream × List ℕ). shown (answer_to i.0 Close (length i.1)) (next_of i.0 Close (length i.1)) (leaves i.0 Close i.1))
    (λ c p. both p)
    _
    refl
