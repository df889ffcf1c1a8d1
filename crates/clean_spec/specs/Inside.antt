-- A frame inside private bytes, computed from the definitions: an M201 whose tail holds the bytes
-- of document 01's frame A.
use Rattle.std.specs.Prelude.{ℕ, ◌≡◌, refl, List, [], ◌∷◌, ◌++◌, replicate}
use Rattle.octets.specs.Octets.{numeral, digits_of, sum8, sum_of, laid}
use Rattle.terms.specs.Refusals.{refusal_of}
use Rattle.calendar.specs.Calendar.{leap, days_in, real_parts, real_time}
use Rattle.rules.specs.Table.{kind_of, suits, measure_of}
use Rattle.rules.specs.Fields.{layout_of, suits_tail, tail_ok, m201_ok, fields_ok, judge_of}
use Rattle.frame_spec.specs.Frame.{checked, read_of, body_read}
use Rattle.frame_spec.specs.Examples.{start_of_a, frame_a}
use Rattle.frame_view.specs.View.{view_of}
use Rattle.private.specs.Private.{tail_of}
use Rattle.private.specs.Scrub.{painted, summed, scrubbed}
use Rattle.walk_laws.specs.Walk.{after, next, found, noted, sights_of}
use Rattle.walk_laws.specs.Frames.{joined, each_of}
use Rattle.reading.specs.Seen.{seen_of, says_of}
use Rattle.walk_spec.specs.Walk.{accepts}
use Rattle.clean_spec.specs.Clean.{frames_in, clean_of, found_by, found_in, found_of}

-- A: a heartbeat of 28 bytes
abbrev pub heartbeat : List ℕ
heartbeat = frame_a (0 ∷ 0 ∷ 0 ∷ 0 ∷ []) (0 ∷ 0 ∷ 0 ∷ 0x8E ∷ [])

-- an M201 behind the first byte of its MsgType, up to its tail: SendingTime as A's, MsgSeqNum 2,
-- BodyLength 184; SecurityType 13, channel 100, tick 5, MD211, 01234567, 09:30:00.000, ExecType 0,
-- price 1,000,000, quantity 2,000,000
unfoldable pub fixed_part : List ℕ
fixed_part =
    0x32 ∷ 0x30 ∷ 0x31 ∷ 0x00 ∷ 0x47 ∷ 0xFA ∷ 0x79 ∷ 0x08 ∷ 0xDA ∷ 0xCB ∷ 0x40 ∷ 0x00 ∷ 0x00 ∷ 0x00 ∷ 0x00 ∷ 0x00 ∷ 0x00 ∷ 0x00 ∷ 0x02 ∷ 0x00 ∷ 0x00 ∷ 0x00 ∷ 0xB8 ∷ 0x0D ∷ 0x00 ∷ 0x64 ∷ 0x00 ∷ 0x00 ∷ 0x00 ∷ 0x00 ∷ 0x00 ∷ 0x00 ∷ 0x00 ∷ 0x05 ∷ 0x4D ∷ 0x44 ∷ 0x32 ∷ 0x31 ∷ 0x31 ∷ 0x30 ∷ 0x31 ∷ 0x32 ∷ 0x33 ∷ 0x34 ∷ 0x35 ∷ 0x36 ∷ 0x37 ∷ 0x05 ∷ 0x8B ∷ 0x11 ∷ 0x40 ∷ 0x30 ∷ 0x00 ∷ 0x00 ∷ 0x00 ∷ 0x00 ∷ 0x00 ∷ 0x0F ∷ 0x42 ∷ 0x40 ∷ 0x00 ∷ 0x00 ∷ 0x00 ∷ 0x00 ∷ 0x00 ∷ 0x1E ∷ 0x84 ∷ 0x80 ∷ []

-- an order's 139 bytes with this InvestorName; MemberID and TraderCode are blank
unfoldable pub order_tail : List ℕ → List ℕ
order_tail name = replicate 19 0x31 ++ (replicate 24 0x20 ++ (replicate 32 0 ++ (name ++ replicate 32 0)))

-- this M201 with that InvestorName and checksum; its first byte is M (0x4D), or damaged
abbrev pub frame_of : ℕ → List ℕ → ℕ → List ℕ
frame_of first name sum = first ∷ fixed_part ++ (order_tail name ++ (0 ∷ 0 ∷ 0 ∷ sum ∷ []))

-- the name: A, and four spaces behind it
abbrev pub named : List ℕ
named = heartbeat ++ replicate 4 0x20

-- whole, it is kept with that name painted, and nothing was found behind damage
pub inside_whole : clean_of (frame_of 0x4D named 0x7B) ≡ frame_of 0x4D (replicate 32 0x20) 0xDF
unfolding fixed_part order_tail frame_a start_of_a clean_of frames_in found_in found_by accepts sights_of noted found next after refusal_of seen_of says_of read_of checked body_read view_of numeral digits_of sum8 sum_of laid painted summed scrubbed joined each_of kind_of suits measure_of layout_of suits_tail tail_ok tail_of m201_ok fields_ok real_time real_parts days_in leap judge_of
inside_whole = refl

-- with its first byte damaged it is refused, and the search finds the heartbeat in what was its
-- private name: that is kept
pub inside_damaged : clean_of (frame_of 0x4E named 0x7B) ≡ heartbeat
unfolding fixed_part order_tail frame_a start_of_a clean_of frames_in found_in found_by accepts sights_of noted found next after refusal_of seen_of says_of read_of checked body_read view_of numeral digits_of sum8 sum_of laid painted summed scrubbed joined each_of kind_of suits measure_of layout_of suits_tail tail_ok tail_of m201_ok fields_ok real_time real_parts days_in leap judge_of
inside_damaged = refl

-- and the count says so
pub inside_counted : found_of (frame_of 0x4E named 0x7B) ≡ 1
unfolding fixed_part order_tail frame_a start_of_a clean_of frames_in found_in found_by accepts sights_of noted found next after refusal_of seen_of says_of read_of checked body_read view_of numeral digits_of sum8 sum_of laid painted summed scrubbed joined each_of kind_of suits measure_of layout_of suits_tail tail_ok tail_of m201_ok fields_ok real_time real_parts days_in leap judge_of
inside_counted = refl
