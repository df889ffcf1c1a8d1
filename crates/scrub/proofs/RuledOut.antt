-- For each public function: wrong answers that its promise rules out, as tables of what is given
-- and what is then wrong. Assumes nothing.
use Prim.Native.Nat.{ℕ}
use mathlib.Core.Path.{refl}
use mathlib.Core.List.{List, [], ◌∷◌, ◌++◌}
use lib.ListN.{length, take, drop, replicate}
use Rattle.terms.specs.Letters.{spelled}
use Rattle.terms.specs.Paper.{answer, refusal}
use Rattle.terms.specs.RuledOut.{Row, ◌never◌, ◌only◌, Kept, RulesOut, ruled, Left, left, lefts, left_is}
use Rattle.octets.specs.Octets.{numeral, digits_of, laid, sum8, sum_of}
use Rattle.octets.specs.Papers.{written_paper, room_for, laid_if_room}
use Rattle.calendar.specs.Calendar.{leap, days_in, real_parts, real_time}
use Rattle.rules.specs.Table.{kind_of, suits, measure_of}
use Rattle.rules.specs.Fields.{s001_ok, p002_ok, layout_of, suits_tail, tail_ok, m201_ok, fields_ok, judge_of}
use Rattle.frame_spec.specs.Frame.{checked, read_of}
use Rattle.frame_spec.specs.Write.{plain_of, frame_of}
use Rattle.frame_spec.specs.Examples.{start_of_a, frame_a, ending, logon, resend, tick, tick_of, order}
use Rattle.private.specs.Private.{tail_of}
use Rattle.private.specs.Scrub.{painted, summed, scrub_answer, scrubbed}
use Rattle.private.specs.Into.{into_answer, into_leaves}
use Rattle.scrub.proofs.scrub_into.Reads as scrub-into
use Rattle.scrub.proofs.scrub_into.Kinds as scrub-into-kinds
use Rattle.scrub.proofs.scrub.Reads as scrub
use Rattle.scrub.proofs.scrub.Kinds as scrub-kinds

-- a frame of n bytes, scrubbed
abbrev frame : ℕ → List ℕ → Left
frame n d = left (answer 0 (n ∷ [])) d

-- SCRUB: the lent bytes; the answer, and the lent bytes then. Letters are private, spaces (0x20)
-- are painted.
abbrev pub scrub_wrong : List (Row (List ℕ) Left)
scrub_wrong =
    logon 0x41 0x42 30 never frame 102 (logon 0x41 0x42 30)  -- a scrubber that paints nothing
    ∷ logon 0x41 0x42 30 never frame 102 (logon 0x20 0x42 30)  -- one of the two CompIDs left
    ∷ logon 0x41 0x42 30 never frame 102 (logon 0 0 30)  -- zeros for spaces
    ∷ logon 0x41 0x42 30 never frame 102 (take 98 (logon 0x20 0x20 30) ++ drop 98 (logon 0x41 0x42 30))  -- the old checksum kept, or worked out after the part was filled, so that fills are taken off
    ∷ logon 0x41 0x42 30 never frame 102 (take 98 (logon 0x20 0x20 30) ++ drop 98 (logon 0x20 0x42 30))  -- the sum moved for the first span alone
    ∷ logon 0x41 0x42 30 never frame 102 (take 94 (logon 0x20 0x20 30) ++ (drop 98 (logon 0x20 0x20 30) ++ drop 98 (logon 0x41 0x42 30)))  -- stored four bytes early
    ∷ logon 0x41 0x42 30 never frame 102 (logon 0x20 0x20 0x20)  -- a public byte painted: HeartBtInt
    ∷ logon 0x41 0x42 30 only frame 102 (logon 0x20 0x20 30)
    ∷ resend 1 0x41 never frame 80 (resend 0x20 0x20)  -- a public byte painted: ResendStatus
    ∷ resend 1 0x41 only frame 80 (resend 1 0x20)
    ∷ tick (0x41 ∷ 0x42 ∷ 0x43 ∷ []) never frame 76 (tick (0x20 ∷ 0x20 ∷ 0x43 ∷ []))  -- the last byte of a tail missed
    ∷ tick (0x41 ∷ 0x42 ∷ 0x43 ∷ []) only frame 76 (tick (0x20 ∷ 0x20 ∷ 0x20 ∷ []))
    ∷ order 0x31 0x51 0x41 0x42 0x43 never frame 212 (order 0x31 0x51 0x20 0x42 0x20)  -- TraderCode left
    ∷ order 0x31 0x51 0x41 0x42 0x43 never frame 212 (order 0x31 0x20 0x20 0x20 0x20)  -- QuoteID painted
    ∷ order 0x31 0x51 0x41 0x42 0x43 never frame 212 (order 0x20 0x51 0x20 0x20 0x20)  -- Side painted
    ∷ order 0x31 0x51 0x41 0x42 0x43 never frame 212 (tick_of (spelled "MD211") 0x30 (replicate 139 0x20))  -- the whole tail of an order painted
    ∷ order 0x31 0x51 0x41 0x42 0x43 never frame 212 (order 0x31 0x51 0x41 0x42 0x43)  -- nothing of an order painted
    ∷ order 0x31 0x51 0x41 0x42 0x43 never frame 212 (order 0x31 0x51 0 0 0)  -- private text filled with 0
    ∷ order 0x31 0x51 0x41 0x42 0x43 only frame 212 (order 0x31 0x51 0x20 0x20 0x20)
    ∷ tick_of (spelled "MD217") 0x46 (replicate 53 0x41) only frame 126 (tick_of (spelled "MD217") 0x46 (replicate 53 0x41))  -- a trade painted
    ∷ tick_of (spelled "MD217") 0x30 (0x41 ∷ 0x42 ∷ []) only frame 75 (tick_of (spelled "MD217") 0x30 (0x20 ∷ 0x20 ∷ []))  -- an unnamed tail left as sent
    ∷ ending 1 0x8E only left (refusal 5) (ending 1 0x8E)  -- scrubbed by its header's word, without reading: the sum's first three bytes not compared
    ∷ (0xFF ∷ tick (0x41 ∷ [])) only left (refusal 2) (0xFF ∷ tick (0x41 ∷ []))  -- a frame that is refused at the front is not scrubbed a byte later
    ∷ []

pub scrub_rules_out : RulesOut (Kept _ scrub-kinds.ps scrub-kinds.r scrub.Post) (λ c. c.args.0.now) (λ c. left (written_paper c.result) c.exit.0.now) scrub_wrong
unfolding frame_a start_of_a plain_of frame_of scrub_answer scrubbed painted summed checked read_of numeral digits_of laid sum8 sum_of kind_of suits measure_of s001_ok p002_ok layout_of suits_tail tail_ok tail_of m201_ok fields_ok real_time real_parts days_in leap judge_of
scrub_rules_out = ruled lefts (λ (s : List ℕ). left (scrub_answer s) (scrubbed s)) (λ c p. left_is p) _ refl

-- SCRUB_INTO: bytes, a place, a lent buffer and a place in it
abbrev pub scrub_into_wrong : List (Row (List ℕ × (ℕ × (List ℕ × ℕ))) Left)
scrub_into_wrong =
    (resend 1 0x41, (0, (replicate 82 7, 1))) only frame 80 (7 ∷ resend 1 0x20 ++ (7 ∷ []))  -- not a byte early, none beyond the frame
    ∷ (resend 1 0x41, (0, (replicate 80 7, 0))) never frame 80 (resend 1 0x41)  -- laid, and not scrubbed
    ∷ (0xFF ∷ resend 1 0x41, (1, (replicate 80 7, 0))) only frame 80 (resend 1 0x20)  -- not at the front, whatever the place
    ∷ (resend 1 0x41, (0, (replicate 80 7, 1))) only left (refusal 8) (replicate 80 7)  -- nothing written before 8
    ∷ (ending 1 0x8E, (0, (replicate 28 7, 0))) only left (refusal 5) (replicate 28 7)  -- taken by its header's word, without reading
    ∷ (ending 1 0x8E, (0, ([], 0))) only left (refusal 5) []  -- 8 told before reading's refusal
    ∷ []

pub scrub_into_rules_out : RulesOut (Kept _ scrub-into-kinds.ps scrub-into-kinds.r scrub-into.Post) (λ c. (c.args.0.now, (c.args.1.0, (c.args.1.1.0.now, c.args.1.1.1.0)))) (λ c. left (written_paper c.result) c.exit.1.1.0.now) scrub_into_wrong
unfolding frame_a start_of_a plain_of frame_of into_answer into_leaves room_for laid_if_room scrubbed painted summed checked read_of numeral digits_of laid sum8 sum_of kind_of suits measure_of p002_ok fields_ok real_time real_parts days_in leap judge_of
scrub_into_rules_out =
    ruled lefts (λ (i : List ℕ × (ℕ × (List ℕ × ℕ))). left (into_answer (drop i.1.0 i.0) i.1.1.1 (length i.1.1.0)) (into_leaves (drop i.1.0 i.0) i.1.1.1 i.1.1.0))
    (λ c p. left_is p)
    _
    refl
