-- For each function that a host may call on frames: wrong answers that its promise rules out, as
-- tables of what is given and what is then wrong. What is told is lent by the host: a row gives
-- what stood there before, and what stands there then. Assumes nothing.
use Prim.Native.Nat.{ℕ}
use mathlib.Core.Path.{◌≡◌, refl, ap₂}
use mathlib.Core.List.{List, [], ◌∷◌}
use lib.ListN.{length, drop, replicate}
use Rattle.terms.specs.Letters.{spelled}
use Rattle.terms.specs.Paper.{Paper}
use Rattle.terms.specs.RuledOut.{Row, ◌never◌, ◌only◌, Kept, RulesOut, ruled, numbers, lists, beside}
use Rattle.octets.specs.Octets.{numeral, digits_of, laid, sum8, sum_of}
use Rattle.calendar.specs.Calendar.{leap, days_in, real_parts, real_time}
use Rattle.rules.specs.Table.{kind_of, suits, measure_of}
use Rattle.rules.specs.Fields.{layout_of, suits_tail, tail_ok, p001_ok, p002_ok, m102_values_ok, entry_size, entry_ok, entries_ok, m102_ok, fields_ok, judge_of}
use Rattle.rules.specs.Bodies.{channel_body, resend_body, snapshot_body, tick_on}
use Rattle.broken.specs.Broken.{entries_fields, lowest_from, broken_of}
use Rattle.frame_spec.specs.Frame.{checked, read_of, body_read}
use Rattle.frame_spec.specs.Write.{Message, message, plain_of, frame_of, write_of, left_of}
use Rattle.frame_spec.specs.Search.{first_of, search_of}
use Rattle.frame_spec.specs.Examples.{start_of_a, frame_a, frame_b, A, resend}
use Rattle.frame_view.specs.View.{view_of}
use Rattle.entries.specs.Reader.{open_of, placed, stands, entry_at, step_of, place_after}
use Rattle.private.specs.Parts.{span_answer}
use Rattle.private.specs.Private.{tail_of}
use Rattle.private.specs.Scrub.{painted, summed, scrub_answer, scrubbed}
use Rattle.host_words.specs.Told.{told_by, Tells}
use Rattle.host_frames.specs.Frames.{read_told, search_told, tail_number, tail_told, broken_told, entries_told, entry_numbers, entry_told}
use Rattle.host_frames.proofs.rk_read.Reads as rk-read
use Rattle.host_frames.proofs.rk_read.Kinds as rk-read-kinds
use Rattle.host_frames.proofs.rk_write.Reads as rk-write
use Rattle.host_frames.proofs.rk_write.Kinds as rk-write-kinds
use Rattle.host_frames.proofs.rk_search.Reads as rk-search
use Rattle.host_frames.proofs.rk_search.Kinds as rk-search-kinds
use Rattle.host_frames.proofs.rk_scrub.Reads as rk-scrub
use Rattle.host_frames.proofs.rk_scrub.Kinds as rk-scrub-kinds
use Rattle.host_frames.proofs.rk_private.Reads as rk-private
use Rattle.host_frames.proofs.rk_private.Kinds as rk-private-kinds
use Rattle.host_frames.proofs.rk_tail_field.Reads as rk-tail-field
use Rattle.host_frames.proofs.rk_tail_field.Kinds as rk-tail-field-kinds
use Rattle.host_frames.proofs.rk_broken_field.Reads as rk-broken-field
use Rattle.host_frames.proofs.rk_broken_field.Kinds as rk-broken-field-kinds
use Rattle.host_frames.proofs.rk_entries.Reads as rk-entries
use Rattle.host_frames.proofs.rk_entries.Kinds as rk-entries-kinds
use Rattle.host_frames.proofs.rk_entry.Reads as rk-entry
use Rattle.host_frames.proofs.rk_entry.Kinds as rk-entry-kinds

-- the number answered, and what is told
abbrev Answer : Type 0
Answer = ℕ × List ℕ

abbrev told : ℕ → List ℕ → Answer
told n row = (n, row)

abbrev tells : Paper → List ℕ → Answer
tells p was = told p.number (told_by p was)

said : {p : Paper} {was row : List ℕ} {n : ℕ} → Tells p was n row → told n row ≡ tells p was
said e = ap₂ told e.answered e.told

-- RK_READ: bytes, a place, and the told row before
abbrev pub rk_read_wrong : List (Row (List ℕ × (ℕ × List ℕ)) Answer)
rk_read_wrong =
    (A, (0, replicate 9 7)) never told 5 (replicate 9 7)  -- everything refused
    ∷ (frame_b, (0, replicate 9 7)) never told 0 (spelled "P001" ∷ 0x0047FA7908DACB40 ∷ 2 ∷ 12 ∷ 3 ∷ 100 ∷ 0 ∷ 0 ∷ 0 ∷ [])  -- channel and tick number swapped
    ∷ (frame_b, (0, replicate 9 7)) only told 0 (spelled "P001" ∷ 0x0047FA7908DACB40 ∷ 2 ∷ 12 ∷ 100 ∷ 3 ∷ 0 ∷ 0 ∷ 0 ∷ [])
    ∷ (resend 1 0x41, (0, replicate 9 7)) only told 0 (spelled "P002" ∷ 20260121093000000 ∷ 1 ∷ 52 ∷ 100 ∷ 3 ∷ 3 ∷ 5 ∷ 1 ∷ [])  -- nothing of its RejectText
    ∷ (0xFF ∷ resend 1 0x41, (0, replicate 9 7)) only told 2 (replicate 9 7)  -- nothing told of what is refused
    ∷ []

pub rk_read_rules_out : RulesOut (Kept _ rk-read-kinds.ps rk-read-kinds.r rk-read.Post) (λ c. (c.args.0.now, (c.args.1.0, c.args.1.1.0.now))) (λ c. told c.result c.exit.1.1.0.now) rk_read_wrong
unfolding frame_a start_of_a frame_b plain_of frame_of checked read_of body_read numeral digits_of sum8 sum_of kind_of suits measure_of p001_ok p002_ok fields_ok real_time real_parts days_in leap judge_of view_of told_by read_told
rk_read_rules_out = ruled (beside numbers lists) (λ (i : List ℕ × (ℕ × List ℕ)). tells (read_told (drop i.1.0 i.0)) i.1.1) (λ c p. said p) _ refl

-- RK_SEARCH: bytes, the place to start from, and the told row before
abbrev pub rk_search_wrong : List (Row (List ℕ × (ℕ × List ℕ)) Answer)
rk_search_wrong =
    (0xFF ∷ A, (0, 7 ∷ 7 ∷ [])) never told 0 (0 ∷ 0 ∷ [])  -- no frame ever found
    ∷ (0xFF ∷ A, (0, 7 ∷ 7 ∷ [])) only told 0 (1 ∷ 1 ∷ [])
    ∷ (A, (29, 7 ∷ 7 ∷ [])) only told 9 (7 ∷ 7 ∷ [])  -- beyond the end is not 8, and nothing is told
    ∷ []

pub rk_search_rules_out : RulesOut (Kept _ rk-search-kinds.ps rk-search-kinds.r rk-search.Post) (λ c. (c.args.0.now, (c.args.1.0, c.args.1.1.0.now))) (λ c. told c.result c.exit.1.1.0.now) rk_search_wrong
unfolding frame_a start_of_a checked read_of first_of search_of numeral sum8 sum_of kind_of suits measure_of fields_ok real_time real_parts days_in leap judge_of told_by search_told
rk_search_rules_out = ruled (beside numbers lists) (λ (i : List ℕ × (ℕ × List ℕ)). tells (search_told i.0 i.1.0) i.1.1) (λ c p. said p) _ refl

-- RK_PRIVATE: a MsgType, a body, the number of a span, and the told row before
abbrev pub rk_private_wrong : List (Row (ℕ × (List ℕ × (ℕ × List ℕ))) Answer)
rk_private_wrong =
    (spelled "S001", (replicate 74 0, (1, 7 ∷ 7 ∷ 7 ∷ []))) never told 0 (0 ∷ 32 ∷ 0x20 ∷ [])  -- each span told as the first
    ∷ (spelled "P002", (resend_body 3 5 1 0x41, (0, 7 ∷ 7 ∷ 7 ∷ []))) never told 0 (32 ∷ 20 ∷ 0x20 ∷ [])  -- place and length swapped
    ∷ (spelled "M201", (replicate 50 0, (0, 7 ∷ 7 ∷ 7 ∷ []))) never told 0 (45 ∷ 4 ∷ 0x20 ∷ [])  -- the last byte of a tail missed
    ∷ (spelled "M201", (replicate 50 0, (0, 7 ∷ 7 ∷ 7 ∷ []))) only told 0 (45 ∷ 5 ∷ 0x20 ∷ [])
    ∷ (spelled "M201", (tick_on (spelled "MD211") 0x30 (replicate 139 0x41), (1, 7 ∷ 7 ∷ 7 ∷ []))) only told 0 (76 ∷ 12 ∷ 0x20 ∷ [])  -- TraderCode of an order
    ∷ (spelled "S001", (replicate 10 0, (1, 7 ∷ 7 ∷ 7 ∷ []))) only told 4 (7 ∷ 7 ∷ 7 ∷ [])  -- a span that lies outside the body
    ∷ (spelled "X999", ([], (0, 7 ∷ 7 ∷ 7 ∷ []))) only told 2 (7 ∷ 7 ∷ 7 ∷ [])  -- a type of no table said to have nothing private
    ∷ []

pub rk_private_rules_out : RulesOut (Kept _ rk-private-kinds.ps rk-private-kinds.r rk-private.Post) (λ c. (c.args.0, (c.args.1.0.now, (c.args.1.1.0, c.args.1.1.1.0.now)))) (λ c. told c.result c.exit.1.1.1.0.now) rk_private_wrong
unfolding numeral digits_of kind_of suits measure_of layout_of suits_tail tail_ok tail_of told_by span_answer
rk_private_rules_out = ruled (beside numbers lists) (λ (i : ℕ × (List ℕ × (ℕ × List ℕ))). tells (span_answer i.0 i.1.0 i.1.1.0) i.1.1.1) (λ c p. said p) _ refl

-- RK_TAIL_FIELD: a body, the number of a field, and the told row before
abbrev pub rk_tail_field_wrong : List (Row (List ℕ × (ℕ × List ℕ)) Answer)
rk_tail_field_wrong =
    (tick_on (spelled "MD211") 0x30 (replicate 139 0x41), (1, replicate 4 7)) only told 0 (46 ∷ 18 ∷ 1 ∷ 0 ∷ [])  -- QuoteID
    ∷ (tick_on (spelled "MD211") 0x30 (replicate 139 0x41), (2, replicate 4 7)) never told 0 (64 ∷ 12 ∷ 1 ∷ 0 ∷ [])  -- MemberID told as public
    ∷ (tick_on (spelled "MD211") 0x30 (replicate 138 0x41), (1, replicate 4 7)) only told 6 (replicate 4 7)  -- a field outside its order
    ∷ (replicate 44 0, (0, replicate 4 7)) only told 4 (replicate 4 7)
    ∷ []

pub rk_tail_field_rules_out : RulesOut (Kept _ rk-tail-field-kinds.ps rk-tail-field-kinds.r rk-tail-field.Post) (λ c. (c.args.0.now, (c.args.1.0, c.args.1.1.0.now))) (λ c. told c.result c.exit.1.1.0.now) rk_tail_field_wrong
unfolding numeral digits_of suits measure_of layout_of suits_tail tail_ok told_by tail_number tail_told
rk_tail_field_rules_out = ruled (beside numbers lists) (λ (i : List ℕ × (ℕ × List ℕ)). tells (tail_told i.0 i.1.0) i.1.1) (λ c p. said p) _ refl

-- RK_BROKEN_FIELD: a MsgType, a body, and the told row before
abbrev pub rk_broken_field_wrong : List (Row (ℕ × (List ℕ × List ℕ)) Answer)
rk_broken_field_wrong =
    (spelled "P001", (channel_body 12 0x58, replicate 5 7)) only told 0 (1 ∷ 0 ∷ 1 ∷ 0 ∷ 0 ∷ [])  -- not EndOfChannel, which is broken too and stands behind
    ∷ (spelled "P001", (channel_body 13 0x59, replicate 5 7)) only told 0 (replicate 5 0)  -- a field told where all hold, or nothing told at all
    ∷ (spelled "M201", (tick_on (spelled "MD211") 0x30 (replicate 138 0x41), replicate 5 7)) never told 6 (replicate 5 7)  -- 6 passed on in place of the field
    ∷ (spelled "M201", (tick_on (spelled "MD211") 0x30 (replicate 138 0x41), replicate 5 7)) only told 0 (1 ∷ 45 ∷ 138 ∷ 9 ∷ 0 ∷ [])  -- its extension, and none of its bytes
    ∷ (spelled "P001", ([], replicate 5 7)) only told 4 (replicate 5 7)  -- a field outside the body
    ∷ (spelled "X999", ([], replicate 5 7)) only told 2 (replicate 5 7)  -- a type of no table said to keep its rules
    ∷ []

pub rk_broken_field_rules_out : RulesOut (Kept _ rk-broken-field-kinds.ps rk-broken-field-kinds.r rk-broken-field.Post) (λ c. (c.args.0, (c.args.1.0.now, c.args.1.1.0.now))) (λ c. told c.result c.exit.1.1.0.now) rk_broken_field_wrong
unfolding numeral digits_of kind_of suits measure_of layout_of suits_tail tail_ok entries_fields lowest_from broken_of told_by broken_told
rk_broken_field_rules_out = ruled (beside numbers lists) (λ (i : ℕ × (List ℕ × List ℕ)). tells (broken_told i.0 i.1.0) i.1.1) (λ c p. said p) _ refl

-- ENTRIES: a snapshot of stream MD001 with this SecurityType, and two entries of 10 bytes, of types
-- 5 and 6 and prices 7 and 8
abbrev body : ℕ → List ℕ
body type = snapshot_body type (spelled "MD001") 7 8

abbrev pub rk_entries_wrong : List (Row (List ℕ × ℕ) Answer)
rk_entries_wrong =
    (body 1, 7) never told 0 (0 ∷ [])  -- the first entry said to stand at the front
    ∷ (body 1, 7) only told 0 (73 ∷ [])
    ∷ (body 2, 7) only told 6 (7 ∷ [])  -- no place is told beside a refusal
    ∷ []

pub rk_entries_rules_out : RulesOut (Kept _ rk-entries-kinds.ps rk-entries-kinds.r rk-entries.Post) (λ c. (c.args.0.now, c.args.1.0.now)) (λ c. told c.result (c.exit.1.0.now ∷ [])) rk_entries_wrong
unfolding numeral digits_of m102_values_ok entry_size entry_ok entries_ok m102_ok fields_ok open_of told_by entries_told
rk_entries_rules_out = ruled (beside numbers lists) (λ (i : List ℕ × ℕ). tells (entries_told i.0) (i.1 ∷ [])) (λ c p. said p) _ refl

abbrev pub rk_entry_wrong : List (Row (List ℕ × (ℕ × List ℕ)) Answer)
rk_entry_wrong =
    (body 1, (83, replicate 6 7)) never told 0 (1 ∷ 6 ∷ 8 ∷ 0 ∷ 0 ∷ 83 ∷ [])  -- the place of the entry itself told, so that a caller never gets on
    ∷ (body 1, (83, replicate 6 7)) never told 0 (0 ∷ 6 ∷ 8 ∷ 0 ∷ 0 ∷ 93 ∷ [])  -- a short entry marked as a long one
    ∷ (body 1, (83, replicate 6 7)) only told 0 (1 ∷ 6 ∷ 8 ∷ 0 ∷ 0 ∷ 93 ∷ [])
    ∷ (body 1, (93, replicate 6 7)) only told 20 (replicate 6 7)
    ∷ []

pub rk_entry_rules_out : RulesOut (Kept _ rk-entry-kinds.ps rk-entry-kinds.r rk-entry.Post) (λ c. (c.args.0.now, (c.args.1.0, c.args.1.1.0.now))) (λ c. told c.result c.exit.1.1.0.now) rk_entry_wrong
unfolding numeral digits_of entry_size placed stands entry_at step_of place_after told_by entry_numbers entry_told
rk_entry_rules_out = ruled (beside numbers lists) (λ (i : List ℕ × (ℕ × List ℕ)). tells (entry_told i.0 i.1.0) i.1.1) (λ c p. said p) _ refl

-- THE TWO THAT CHANGE A BUFFER: what is told, and the buffer
abbrev Answers : Type 0
Answers = Answer × List ℕ

abbrev left : Answer → List ℕ → Answers
left a d = (a, d)

-- RK_SCRUB: the told number before, and the bytes lent
abbrev pub rk_scrub_wrong : List (Row (ℕ × List ℕ) Answers)
rk_scrub_wrong =
    (7, resend 1 0x41) never left (told 0 (80 ∷ [])) (resend 1 0x41)  -- nothing scrubbed
    ∷ (7, resend 1 0x41) only left (told 0 (80 ∷ [])) (resend 1 0x20)
    ∷ (7, 0xFF ∷ resend 1 0x41) never left (told 0 (80 ∷ [])) (0xFF ∷ resend 1 0x41)  -- what does not read answered 0
    ∷ (7, 0xFF ∷ resend 1 0x41) only left (told 2 (7 ∷ [])) (0xFF ∷ resend 1 0x41)  -- a refusal tells nothing and changes nothing
    ∷ []

pub rk_scrub_rules_out : RulesOut (Kept _ rk-scrub-kinds.ps rk-scrub-kinds.r rk-scrub.Post) (λ c. (c.args.1.0.now, c.args.0.now)) (λ c. left (told c.result (c.exit.1.0.now ∷ [])) c.exit.0.now) rk_scrub_wrong
unfolding plain_of frame_of checked read_of numeral digits_of laid sum8 sum_of kind_of suits measure_of p002_ok fields_ok real_time real_parts days_in leap judge_of painted summed scrub_answer scrubbed told_by
rk_scrub_rules_out = ruled (beside (beside numbers lists) lists) (λ (i : ℕ × List ℕ). left (tells (scrub_answer i.1) (i.0 ∷ [])) (scrubbed i.1)) (λ c p. ap₂ left (said p.0) p.1) _ refl

-- RK_WRITE: a message, the told number before, and the buffer lent
abbrev timely : Message
timely = message (spelled "S003") 20260121093000000 1 []

abbrev pub rk_write_wrong : List (Row (Message × (ℕ × List ℕ)) Answers)
rk_write_wrong =
    (timely, (7, replicate 28 7)) never left (told 0 (28 ∷ [])) (frame_of (message (spelled "S003") 1 20260121093000000 []))  -- SendingTime written as MsgSeqNum and MsgSeqNum as SendingTime
    ∷ (timely, (7, replicate 28 7)) only left (told 0 (28 ∷ [])) (frame_of timely)
    ∷ (timely, (7, replicate 27 7)) only left (told 8 (7 ∷ [])) (replicate 27 7)  -- 8 tells nothing and changes nothing
    ∷ (message (spelled "S003") 20261301093000000 1 [], (7, replicate 28 7)) only left (told 7 (7 ∷ [])) (replicate 28 7)  -- month 13 written
    ∷ []

pub rk_write_rules_out : RulesOut (Kept _ rk-write-kinds.ps rk-write-kinds.r rk-write.Post) (λ c. (message c.args.0 c.args.1.0 c.args.1.1.0 c.args.1.1.1.0.now, (c.args.1.1.1.1.1.0.now, c.args.1.1.1.1.0.now))) (λ c. left (told c.result (c.exit.1.1.1.1.1.0.now ∷ [])) c.exit.1.1.1.1.0.now) rk_write_wrong
unfolding plain_of frame_of checked write_of left_of numeral digits_of laid sum8 sum_of kind_of suits measure_of fields_ok real_time real_parts days_in leap judge_of told_by
rk_write_rules_out = ruled (beside (beside numbers lists) lists) (λ (i : Message × (ℕ × List ℕ)). left (tells (write_of i.0 (length i.1.1)) (i.1.0 ∷ [])) (left_of i.0 i.1.1)) (λ c p. ap₂ left (said p.0) p.1) _ refl
