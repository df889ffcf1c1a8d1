-- Document 01's marked examples 1 to 7, as one table, computed from the definitions; its bytes are
-- written out as the document prints them, so that they hold the byte order too. The frame B of its
-- listing stands there as well.
use Rattle.std.specs.Prelude.{ℕ, ◌+◌, ◌≡◌, refl, Bool, true, false, ◌&&◌, List, [], ◌∷◌, ◌++◌, replicate, length, eqb}
use Rattle.terms.specs.Paper.{Paper, answer, refusal}
use Rattle.octets.specs.Octets.{numeral, digits_of, sum8, sum_of}
use Rattle.calendar.specs.Calendar.{leap, days_in, real_parts, real_time}
use Rattle.rules.specs.Table.{kind_of, suits, measure_of}
use Rattle.rules.specs.Fields.{p001_ok, fields_ok, judge_of}
use Rattle.rules.specs.Bodies.{logon_body, resend_body, tick_on, tick_body, order_tail}
use Rattle.frame_spec.specs.Frame.{body_length, checked, read_of}
use Rattle.frame_spec.specs.Write.{message, frame_of}

-- 53303033 0047FA7908DACB40 0000000000000001: A up to its BodyLength
unfoldable pub start_of_a : List ℕ
start_of_a = 0x53 ∷ 0x30 ∷ 0x30 ∷ 0x33 ∷ 0x00 ∷ 0x47 ∷ 0xFA ∷ 0x79 ∷ 0x08 ∷ 0xDA ∷ 0xCB ∷ 0x40 ∷ 0 ∷ 0 ∷ 0 ∷ 0 ∷ 0 ∷ 0 ∷ 0 ∷ 1 ∷ []

-- A, and A with other last bytes or another BodyLength
unfoldable pub frame_a : List ℕ → List ℕ → List ℕ
frame_a len sum = start_of_a ++ (len ++ sum)

-- 50303031 0047FA7908DACB40 0000000000000002 0000000C 0D 0064 0000000000000003 4E 00000058
unfoldable pub frame_b : List ℕ
frame_b =
    0x50 ∷ 0x30 ∷ 0x30 ∷ 0x31 ∷ 0x00 ∷ 0x47 ∷ 0xFA ∷ 0x79 ∷ 0x08 ∷ 0xDA ∷ 0xCB ∷ 0x40 ∷ 0 ∷ 0 ∷ 0 ∷ 0 ∷ 0 ∷ 0 ∷ 0 ∷ 2 ∷ 0 ∷ 0 ∷ 0 ∷ 0x0C
    ∷ 0x0D ∷ 0x00 ∷ 0x64 ∷ 0 ∷ 0 ∷ 0 ∷ 0 ∷ 0 ∷ 0 ∷ 0 ∷ 3 ∷ 0x4E ∷ 0x00 ∷ 0x00 ∷ 0x00 ∷ 0x58 ∷ []

-- an M101 header with this BodyLength, in two bytes
unfoldable pub header_m101 : ℕ → ℕ → List ℕ
header_m101 high low = 0x4D ∷ 0x31 ∷ 0x30 ∷ 0x31 ∷ replicate 15 0 ++ (1 ∷ 0 ∷ 0 ∷ high ∷ low ∷ [])

-- the last four bytes
abbrev pub four : ℕ → ℕ → List ℕ
four c d = 0 ∷ 0 ∷ c ∷ d ∷ []

pub same_list : List ℕ → List ℕ → Bool
same_list [] [] = true
same_list [] (y ∷ ys) = false
same_list (x ∷ xs) [] = false
same_list (x ∷ xs) (y ∷ ys) = eqb x y && same_list xs ys

pub right : List (List ℕ × Paper) → Bool
right [] = true
right ((s, a) ∷ rows) = (eqb (read_of s).number a.number && same_list (read_of s).values a.values) && right rows

pub table : List (List ℕ × Paper)
table =
    ([], refusal 1)  -- 1. Empty input: 1
    ∷ (replicate 23 0, refusal 1)  -- 2. 23 bytes: 1
    ∷ (frame_a (four 0 0) (four 0 0x8E), answer 0 (0x53303033 ∷ 0x0047FA7908DACB40 ∷ 1 ∷ 0 ∷ []))  -- 3. A: 0
    ∷ (frame_a (four 0 0) (four 0 0x8F), refusal 5)  -- 4. A ending 8F: 5
    ∷ (frame_a (four 0 0) (four 1 0x8E), refusal 5)  -- 5. A ending 0000018E: 5
    ∷ (frame_a (four 0 1) (four 0 0x8E), refusal 4)  -- 6. A with BodyLength 1: 4
    ∷ (header_m101 0x1F 0xE5, refusal 3)  -- 7. M101 header with 8,165: 3;
    ∷ (header_m101 0x1F 0xE4, refusal 1)  -- with 8,164 and no body: 1
    ∷ (frame_b, answer 0 (0x50303031 ∷ 0x0047FA7908DACB40 ∷ 2 ∷ 12 ∷ []))  -- B: 0
    ∷ []

pub examples : right table ≡ true
unfolding right table same_list frame_a start_of_a frame_b header_m101 checked read_of numeral digits_of sum8 sum_of kind_of suits measure_of p001_ok fields_ok real_time real_parts days_in leap judge_of
examples = refl

-- 3. [..] 28 bytes: all of A, and what reading says of its length
pub example_length : (28 + body_length (frame_a (four 0 0) (four 0 0x8E)) ≡ 28) × (length (frame_a (four 0 0) (four 0 0x8E)) ≡ 28)
unfolding frame_a start_of_a numeral
example_length = (refl, refl)

-- FRAMES FOR THE TABLES of wrong answers

-- A, with these two as its last bytes
abbrev pub ending : ℕ → ℕ → List ℕ
ending c d = frame_a (four 0 0) (four c d)

abbrev pub A : List ℕ
A = ending 0 0x8E

-- document 01's 69 bytes A, FF, B
abbrev pub capture : List ℕ
capture = A ++ (0xFF ∷ frame_b)

-- a frame with the right checksum, of this time and MsgSeqNum 1; of 2026-01-21 09:30:00.000
abbrev pub timed : ℕ → ℕ → List ℕ → List ℕ
timed time type content = frame_of (message type time 1 content)

abbrev pub framed : ℕ → List ℕ → List ℕ
framed = timed 20260121093000000

-- S003; S001 with its CompIDs and HeartBtInt; P002 of numbers 3 to 5 with ResendStatus and
-- RejectText; M201 with its extension
abbrev pub heartbeat : List ℕ
heartbeat = framed 0x53303033 []

abbrev pub logon : ℕ → ℕ → ℕ → List ℕ
logon sender target heart = framed 0x53303031 (logon_body sender target heart)

abbrev pub resend : ℕ → ℕ → List ℕ
resend status text = framed 0x50303032 (resend_body 3 5 status text)

abbrev pub tick : List ℕ → List ℕ
tick tail = framed 0x4D323031 (tick_body tail)

-- M201 of a stream and ExecType; of MD211 and 0 with the fields of an order
abbrev pub tick_of : ℕ → ℕ → List ℕ → List ℕ
tick_of stream exec tail = framed 0x4D323031 (tick_on stream exec tail)

abbrev pub order : ℕ → ℕ → ℕ → ℕ → ℕ → List ℕ
order side quote member trader investor = tick_of 0x4D44323131 0x30 (order_tail side quote member trader investor)
