-- For each public function: wrong answers that its promise rules out, as tables of what is given
-- and what is then wrong. Assumes nothing.
use Prim.Native.Nat.{ℕ}
use mathlib.Core.Path.{◌≡◌, refl, ap₂}
use mathlib.Core.List.{List, [], ◌∷◌, ◌++◌}
use lib.ListN.{length, take, drop, replicate}
use Rattle.terms.specs.Letters.{spelled}
use Rattle.terms.specs.Paper.{Paper, answer}
use Rattle.terms.specs.Refusals.{refusal_of}
use Rattle.terms.specs.RuledOut.{Row, ◌never◌, ◌only◌, Kept, RulesOut, ruled, lists, papers, beside}
use Rattle.octets.specs.Octets.{numeral, digits_of, laid, sum8, sum_of}
use Rattle.octets.specs.Papers.{laid_if_room}
use Rattle.calendar.specs.Calendar.{leap, days_in, real_parts, real_time}
use Rattle.rules.specs.Table.{kind_of, suits, measure_of}
use Rattle.rules.specs.Fields.{p002_ok, fields_ok, judge_of}
use Rattle.frame_spec.specs.Frame.{checked, read_of, body_read}
use Rattle.frame_spec.specs.Write.{plain_of, frame_of}
use Rattle.frame_spec.specs.Examples.{framed, heartbeat, resend}
use Rattle.frame_view.specs.View.{view_of}
use Rattle.private.specs.Scrub.{painted, summed, scrubbed}
use Rattle.tick_map.specs.Bits as Bits
use Rattle.tick_map.specs.Ring.{rotated}
use Rattle.ledger_spec.specs.State.{range_rules, map_rules, sound_of}
use Rattle.ledger_spec.specs.Calls as Book
use Rattle.ledger.specs.State.{book_of, ledger_of}
use Rattle.walk_laws.specs.Walk.{after, next, found, noted}
use Rattle.walk_laws.specs.Waits as Waits
use Rattle.walk_laws.specs.Cuts as Cuts
use Rattle.walk_laws.specs.Account as Account
use Rattle.walk_laws.specs.Frames.{joined, each_of}
use Rattle.reading.specs.Seen.{seen_of, says_of}
use Rattle.walk_spec.specs.Offers.{calls_by, offering, offer_of}
use Rattle.walk_spec.specs.Walk.{made_of, record_by, book_by, accepts, refuses}
use Rattle.stream_spec.specs.declared.Stream.{Stream}
use Rattle.stream_spec.specs.State as State
use Rattle.stream_spec.specs.State.{opened}
use Rattle.stream_spec.specs.Tally as Tally
use Rattle.stream_spec.specs.Calls as Plain
use Rattle.stream_spec.specs.Calls.{Feed, Close}
use Rattle.stream.specs.Standing.{whole, fed_of, store_of}
use Rattle.stream_clean_spec.specs.Wash as Wash
use Rattle.stream_clean_spec.specs.Calls as Calls
use Rattle.stream_clean_spec.specs.Calls.{washed_paper, answer_to, next_of, leaves}
use Rattle.stream_clean.proofs.clean_cut.Reads as clean-cut
use Rattle.stream_clean.proofs.clean_cut.Kinds as clean-cut-kinds
use Rattle.stream_clean.proofs.clean_end.Reads as clean_End
use Rattle.stream_clean.proofs.clean_end.Kinds as clean-end-kinds

-- what is seen of a stream: its place, how many bytes are kept, and the whole store; and of a
-- call: the answer with bytes, frames, found and unjudged ones, the stream then, and the
-- buffer then
abbrev seen : Stream → List ℕ
seen x = x.place ∷ x.len ∷ x.kept

-- the store: these bytes, and zeros behind them
abbrev store : List ℕ → List ℕ
store s = store_of 8191 s

abbrev Outcome : Type 0
Outcome = Paper × (List ℕ × List ℕ)

abbrev shown : Paper → Stream → List ℕ → Outcome
shown p x d = (p, (seen x, d))

both : {p q : Paper} {x y : Stream} {d e : List ℕ} → (p ≡ q) × ((x ≡ y) × (d ≡ e)) → shown p x d ≡ shown q y e
both {p} {q} {x} {y} {d} {e} h = ap₂ (λ (a : Paper) (r : List ℕ × List ℕ). (a, r)) h.0 (ap₂ (λ (z : Stream) (l : List ℕ). (seen z, l)) h.1.0 h.1.1)

-- streams behind a cut: 50 bytes of a resend with a private text; 29 bytes that are no frame; a
-- heartbeat and 20 bytes of another; and this one closed
abbrev begun : Stream
begun = next_of opened (Feed (take 50 (resend 1 0x41))) 0

abbrev damaged : Stream
damaged = next_of opened (Feed (replicate 29 0xFF)) 0

abbrev waiting : Stream
waiting = next_of opened (Feed (heartbeat ++ take 20 heartbeat)) 28

abbrev closed : Stream
closed = next_of waiting Close 0

-- a frame whose body no rule judges
abbrev unjudged : List ℕ
unjudged = framed (spelled "M101") (1 ∷ 2 ∷ [])

-- the stream just opened, but at this place, and with this many kept bytes
abbrev moved : ℕ → ℕ → Stream
moved place len = record { place = place; seeking = opened.seeking; closed = opened.closed; len = len; kept = opened.kept; tally = opened.tally }

-- a stream, a cut, and a lent buffer
abbrev pub clean_cut_wrong : List (Row (Stream × (List ℕ × List ℕ)) Outcome)
clean_cut_wrong =
    (begun, (drop 50 (resend 1 0x41), replicate 81 7)) only (answer 0 (80 ∷ 1 ∷ 0 ∷ 0 ∷ []), (80 ∷ 0 ∷ store [], resend 1 0x20 ++ (7 ∷ [])))  -- no private byte left of a frame that is cut in its text
    ∷ (begun, (drop 50 (resend 1 0x41), replicate 81 7)) never (answer 0 (80 ∷ 1 ∷ 0 ∷ 0 ∷ []), (80 ∷ 0 ∷ store (take 50 (resend 1 0x41)), resend 1 0x20 ++ (7 ∷ [])))  -- private bytes linger in the store behind their frame
    ∷ (opened, (take 50 (resend 1 0x41), replicate 80 7)) only (answer 0 (0 ∷ 0 ∷ 0 ∷ 0 ∷ []), (0 ∷ 50 ∷ store (take 50 (resend 1 0x41)), replicate 80 7))  -- no part of a frame is written before its end came
    ∷ (damaged, (heartbeat, replicate 28 7)) only (answer 0 (28 ∷ 1 ∷ 1 ∷ 0 ∷ []), (57 ∷ 0 ∷ store [], heartbeat))  -- a frame after damage counts as such behind a cut too
    ∷ (damaged, (unjudged, replicate 30 7)) only (answer 0 (30 ∷ 1 ∷ 1 ∷ 1 ∷ []), (59 ∷ 0 ∷ store [], unjudged))  -- an M101 is passed on and counted as one that no rule judges
    ∷ (opened, (heartbeat ++ take 20 heartbeat, replicate 27 7)) only (answer 8 (0 ∷ 0 ∷ 0 ∷ 0 ∷ []), (0 ∷ 0 ∷ store [], replicate 27 7))  -- nothing written, and nothing taken, beside 8
    ∷ (begun, (drop 50 (resend 1 0x41), replicate 79 7)) only (answer 8 (0 ∷ 0 ∷ 0 ∷ 0 ∷ []), (0 ∷ 50 ∷ store (take 50 (resend 1 0x41)), replicate 79 7))  -- nor laid in the store
    ∷ (begun, ([], [])) only (answer 0 (0 ∷ 0 ∷ 0 ∷ 0 ∷ []), (0 ∷ 50 ∷ store (take 50 (resend 1 0x41)), []))  -- an empty cut is not the end
    ∷ (closed, (heartbeat, [])) only (answer 19 (0 ∷ 0 ∷ 0 ∷ 0 ∷ []), (48 ∷ 0 ∷ store [], []))  -- 8 before 19
    ∷ (moved 18446744073709551600 0, (heartbeat, [])) only (answer 29 (0 ∷ 0 ∷ 0 ∷ 0 ∷ []), (18446744073709551600 ∷ 0 ∷ store [], []))  -- 8 before 29
    ∷ (moved 18446744073709551600 8192, (heartbeat, replicate 28 7)) only (answer 13 (0 ∷ 0 ∷ 0 ∷ 0 ∷ []), (18446744073709551600 ∷ 8192 ∷ store [], replicate 28 7))  -- 8,192 kept bytes pass as sound
    ∷ []

pub clean_cut_rules_out : RulesOut (Kept _ clean-cut-kinds.ps clean-cut-kinds.r clean-cut.Post) (λ c. (whole c.args.0 c.args.1.0.now, (c.args.1.1.0.now, c.args.1.1.1.0.now))) (λ c. shown (washed_paper (fed_of c.result c.exit.1.0.now)) (whole c.result.next c.exit.1.0.now) c.exit.1.1.1.0.now) clean_cut_wrong
unfolding plain_of frame_of checked read_of body_read numeral digits_of laid laid_if_room sum8 sum_of kind_of suits measure_of p002_ok fields_ok real_time real_parts days_in leap judge_of view_of painted summed scrubbed Bits.value_of Bits.map_of rotated range_rules map_rules sound_of Book.own_number Book.checked_of Book.number_to Book.raised Book.done Book.next_of Book.fresh book_of ledger_of after next found noted joined each_of Account.account_of refusal_of seen_of says_of calls_by offering offer_of made_of record_by book_by accepts refuses
    opened State.head_of State.is_seeking State.meant_by State.value_of State.all_zero State.waits_right State.sound_of Tally.tally_with Tally.record_at Tally.tally_after Tally.ledger_right Tally.tally_right Plain.behind_of Plain.may_take Cuts.feed_of Waits.waits Waits.ran_of Wash.washed Wash.unjudged_by Wash.plus Wash.one_of Wash.sums_of Wash.lays Calls.reads_for Calls.wash_behind Calls.number_for Calls.answer_for Calls.next_for Calls.leaves_for
clean_cut_rules_out =
    ruled (beside papers (beside lists lists)) (λ (i : Stream × (List ℕ × List ℕ)). shown (answer_to i.0 (Feed i.1.0) (length i.1.1)) (next_of i.0 (Feed i.1.0) (length i.1.1)) (leaves i.0 (Feed i.1.0) i.1.1))
    (λ c p. both p)
    _
    refl

-- a stream and a lent buffer
abbrev pub clean_end_wrong : List (Row (Stream × List ℕ) Outcome)
clean_end_wrong =
    (waiting, replicate 28 7) never (answer 0 (20 ∷ 0 ∷ 0 ∷ 0 ∷ []), (48 ∷ 0 ∷ store [], take 20 heartbeat ++ replicate 8 7))  -- what waits is passed on as it is
    ∷ (waiting, replicate 28 7) only (answer 0 (0 ∷ 0 ∷ 0 ∷ 0 ∷ []), (48 ∷ 0 ∷ store [], replicate 28 7))
    ∷ (begun, []) only (answer 0 (0 ∷ 0 ∷ 0 ∷ 0 ∷ []), (50 ∷ 0 ∷ store [], []))  -- a private text that waits is not kept behind the end
    ∷ (closed, replicate 28 7) only (answer 19 (0 ∷ 0 ∷ 0 ∷ 0 ∷ []), (48 ∷ 0 ∷ store [], replicate 28 7))  -- not closed a second time
    ∷ []

pub clean_end_rules_out : RulesOut (Kept _ clean-end-kinds.ps clean-end-kinds.r clean_End.Post) (λ c. (whole c.args.0 c.args.1.0.now, c.args.1.1.0.now)) (λ c. shown (washed_paper (fed_of c.result c.exit.1.0.now)) (whole c.result.next c.exit.1.0.now) c.exit.1.1.0.now) clean_end_wrong
unfolding plain_of frame_of checked read_of body_read numeral digits_of laid laid_if_room sum8 sum_of kind_of suits measure_of p002_ok fields_ok real_time real_parts days_in leap judge_of view_of painted summed scrubbed Bits.value_of Bits.map_of rotated range_rules map_rules sound_of Book.own_number Book.checked_of Book.number_to Book.raised Book.done Book.next_of Book.fresh book_of ledger_of after next found noted joined each_of Account.account_of refusal_of seen_of says_of calls_by offering offer_of made_of record_by book_by accepts refuses
    opened State.head_of State.is_seeking State.meant_by State.value_of State.all_zero State.waits_right State.sound_of Tally.tally_with Tally.record_at Tally.tally_after Tally.ledger_right Tally.tally_right Plain.behind_of Plain.may_take Cuts.feed_of Waits.waits Waits.ran_of Wash.washed Wash.unjudged_by Wash.plus Wash.one_of Wash.sums_of Wash.lays Calls.reads_for Calls.wash_behind Calls.number_for Calls.answer_for Calls.next_for Calls.leaves_for
clean_end_rules_out =
    ruled (beside papers (beside lists lists)) (λ (i : Stream × List ℕ). shown (answer_to i.0 Close (length i.1)) (next_of i.0 Close (length i.1)) (leaves i.0 Close i.1))
    (λ c p. both p)
    _
    refl
