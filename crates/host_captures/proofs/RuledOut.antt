-- For each function that a host may call on whole captures: wrong answers that its promise rules
-- out, as tables of what is given and what is then wrong. What is told is lent by the host: a row
-- gives what stood there before, and what stands there then. Assumes nothing.
use Prim.Native.Nat.{ℕ}
use mathlib.Core.Path.{◌≡◌, refl, ap₂}
use mathlib.Core.List.{List, [], ◌∷◌, ◌++◌}
use lib.Count.{ones}
use lib.ListN.{length, replicate}
use Rattle.terms.specs.Letters.{spelled}
use Rattle.terms.specs.Paper.{Paper}
use Rattle.terms.specs.Refusals.{refusal_of}
use Rattle.terms.specs.Counters.{tick_of}
use Rattle.terms.specs.RuledOut.{Row, ◌never◌, ◌only◌, Kept, RulesOut, ruled, numbers, lists, beside}
use Rattle.octets.specs.Octets.{numeral, digits_of, laid, sum8, sum_of}
use Rattle.octets.specs.Papers.{room_for, laid_if_room}
use Rattle.digits.specs.Digits.{decimal_of, width_in}
use Rattle.calendar.specs.Calendar.{leap, days_in, real_parts, real_time}
use Rattle.rules.specs.Table.{kind_of, suits, measure_of}
use Rattle.rules.specs.Fields.{p001_ok, p002_ok, fields_ok, judge_of}
use Rattle.frame_spec.specs.Frame.{checked, read_of, body_read}
use Rattle.frame_spec.specs.Write.{plain_of, frame_of}
use Rattle.frame_spec.specs.Examples.{start_of_a, frame_a, frame_b, capture, heartbeat, resend}
use Rattle.frame_view.specs.View.{view_of}
use Rattle.private.specs.Scrub.{painted, summed, scrubbed}
use Rattle.tick_map.specs.Bits.{value_of, map_of}
use Rattle.tick_map.specs.Ring.{rotated}
use Rattle.ledger_spec.specs.State.{range_rules, map_rules, sound_of}
use Rattle.ledger_spec.specs.Calls.{own_number, checked_of, number_to, raised, done, missing_count, values_of, answer_to, next_of, fresh}
use Rattle.ledger.specs.State.{book_of, ledger_of}
use Rattle.walk_laws.specs.Walk.{after, next, found, noted, sights_of}
use Rattle.walk_laws.specs.Account as Account
use Rattle.walk_laws.specs.Frames.{joined, each_of}
use Rattle.record.specs.Record.{first_half, second_half, record_of, record_at, blank_of}
use Rattle.record.specs.Examples.{record_a, record_fF, record_b}
use Rattle.listing_text.specs.declared.Summary.{Summary}
use Rattle.listing_text.specs.Text.{column, type_column, first_columns, last_columns, line_of, named, summary_of}
use Rattle.reading.specs.Seen.{seen_of, says_of}
use Rattle.walk_spec.specs.Offers.{calls_by, offering, offer_of}
use Rattle.walk_spec.specs.Walk as Walk
use Rattle.walk_spec.specs.Walk.{made_of, record_by, book_by, accepts, refuses, frames_of, refused_of, walk_answer, walk_book, walk_leaves}
use Rattle.clean_spec.specs.Clean as Clean
use Rattle.clean_spec.specs.Clean.{frames_in, clean_of, found_by, found_in, clean_answer, clean_leaves, differ_of, check_of}
use Rattle.listing_text.specs.Whole.{records_from, records_in, lines_of, lines_in, listing_of}
use Rattle.host_words.specs.Words.{words_of, pending_in, ledger_in}
use Rattle.host_words.specs.Calls.{kept_by}
use Rattle.host_words.specs.Told.{told_by, Tells}
use Rattle.host_captures.specs.Captures.{walk_words, record_told, listing_told, listing_leaves, clean_told}
use Rattle.host_captures.proofs.rk_walk.Reads as rk-walk
use Rattle.host_captures.proofs.rk_walk.Kinds as rk-walk-kinds
use Rattle.host_captures.proofs.rk_record.Reads as rk-record
use Rattle.host_captures.proofs.rk_record.Kinds as rk-record-kinds
use Rattle.host_captures.proofs.rk_lines.Reads as rk-lines
use Rattle.host_captures.proofs.rk_lines.Kinds as rk-lines-kinds
use Rattle.host_captures.proofs.rk_listing.Reads as rk-listing
use Rattle.host_captures.proofs.rk_listing.Kinds as rk-listing-kinds
use Rattle.host_captures.proofs.rk_clean.Reads as rk-clean
use Rattle.host_captures.proofs.rk_clean.Kinds as rk-clean-kinds
use Rattle.host_captures.proofs.rk_is_clean.Reads as rk-is-clean
use Rattle.host_captures.proofs.rk_is_clean.Kinds as rk-is-clean-kinds

-- the number answered, what is told, and the buffer then
abbrev Outcome : Type 0
Outcome = ℕ × (List ℕ × List ℕ)

abbrev shown : ℕ → List ℕ → List ℕ → Outcome
shown n told d = (n, (told, d))

abbrev tells : Paper → List ℕ → List ℕ → Outcome
tells p was d = shown p.number (told_by p was) d

said : {p : Paper} {was row d d' : List ℕ} {n : ℕ} → Tells p was n row × (d ≡ d') → shown n row d ≡ tells p was d'
said e = ap₂ (λ (n : ℕ) (r : List ℕ × List ℕ). (n, r)) e.0.answered (ap₂ (λ (t w : List ℕ). (t, w)) e.0.told e.1)

-- RK_WALK: a capture (document 01's 69 bytes A, FF, B), a buffer for records, the ledger's words
-- and the told row before. The buffer then has the words in front.
abbrev words : ℕ → List ℕ
words top = 100 ∷ 0 ∷ top ∷ 0 ∷ 0 ∷ 0 ∷ 0 ∷ 0 ∷ 0 ∷ []

abbrev Input : Type 0
Input = List ℕ × (List ℕ × (List ℕ × List ℕ))

abbrev pub rk_walk_wrong : List (Row Input Outcome)
rk_walk_wrong =
    (capture, (replicate 192 7, (words 9, 7 ∷ 7 ∷ 7 ∷ []))) never shown 0 (3 ∷ 1 ∷ 2 ∷ []) (words 3 ++ (record_of record_a ++ (record_of record_fF ++ record_of record_b)))  -- frames and refused swapped
    ∷ (capture, (replicate 192 7, (words 9, 7 ∷ 7 ∷ 7 ∷ []))) only shown 0 (3 ∷ 2 ∷ 1 ∷ []) (words 3 ++ (record_of record_a ++ (record_of record_fF ++ record_of record_b)))
    ∷ (capture, (replicate 191 7, (words 9, 7 ∷ 7 ∷ 7 ∷ []))) only shown 8 (7 ∷ 7 ∷ 7 ∷ []) (words 9 ++ replicate 191 7)  -- 8 tells nothing, and changes neither words nor records
    ∷ []

pub rk_walk_rules_out : RulesOut (Kept _ rk-walk-kinds.ps rk-walk-kinds.r rk-walk.Post) (λ c. (c.args.0.now, (c.args.1.0.now, (c.args.1.1.0.now, c.args.1.1.1.0.now)))) (λ c. shown c.result c.exit.1.1.1.0.now (c.exit.1.1.0.now ++ c.exit.1.0.now)) rk_walk_wrong
unfolding frame_a start_of_a frame_b checked read_of body_read numeral digits_of laid sum8 sum_of kind_of suits measure_of p001_ok fields_ok real_time real_parts days_in leap judge_of view_of value_of map_of rotated range_rules map_rules sound_of own_number checked_of number_to raised done next_of fresh book_of ledger_of after next found noted sights_of joined each_of Account.account_of Account.walk_of first_half second_half record_of blank_of refusal_of seen_of says_of calls_by offering offer_of made_of record_by book_by accepts refuses frames_of refused_of Walk.fits_in walk_answer walk_book walk_leaves words_of kept_by walk_words told_by
rk_walk_rules_out =
    ruled (beside numbers (beside lists lists)) (λ (i : Input). tells (walk_answer i.0 (length i.1.0)) i.1.1.1 (walk_words i.0 (length i.1.0) i.1.1.0 ++ walk_leaves i.0 i.1.0))
    (λ c p. said (p.0, ap₂ (λ (w d : List ℕ). w ++ d) p.1.0 p.1.1))
    _
    refl

-- RK_RECORD: bytes, and the told row before
abbrev pub rk_record_wrong : List (Row (List ℕ × List ℕ) (ℕ × List ℕ))
rk_record_wrong =
    (record_of record_b, replicate 9 7) only (0, 29 ∷ spelled "P001" ∷ 0 ∷ 2 ∷ 3 ∷ 100 ∷ 12 ∷ 0 ∷ 3 ∷ [])
    ∷ (record_of record_b, replicate 9 7) never (0, 29 ∷ spelled "P001" ∷ 0 ∷ 2 ∷ 100 ∷ 3 ∷ 12 ∷ 0 ∷ 3 ∷ [])  -- tick number and channel swapped
    ∷ (record_of record_fF ++ (9 ∷ []), replicate 9 7) only (0, 28 ∷ spelled "    " ∷ 2 ∷ 0 ∷ 0 ∷ 0 ∷ 0 ∷ 0 ∷ 0 ∷ [])  -- what stands behind it told of
    ∷ (replicate 63 0, replicate 9 7) only (1, replicate 9 7)  -- a record cut short told as if it were whole
    ∷ []

pub rk_record_rules_out : RulesOut (Kept _ rk-record-kinds.ps rk-record-kinds.r rk-record.Post) (λ c. (c.args.0.now, c.args.1.0.now)) (λ c. (c.result, c.exit.1.0.now)) rk_record_wrong
unfolding numeral digits_of first_half second_half record_of record_at blank_of record_told told_by
rk_record_rules_out =
    ruled (beside numbers lists) (λ (i : List ℕ × List ℕ). ((record_told i.0).number, told_by (record_told i.0) i.1)) (λ c p. ap₂ (λ (n : ℕ) (r : List ℕ). (n, r)) p.answered p.told) _ refl

-- RK_LINES: the bytes of records, a buffer for the text, and the told number before
abbrev pub rk_lines_wrong : List (Row (List ℕ × (List ℕ × ℕ)) Outcome)
rk_lines_wrong =
    (record_of record_fF, (replicate 21 7, 7)) only shown 0 (20 ∷ []) (line_of record_fF ++ (7 ∷ []))  -- a last line laid too
    ∷ (record_of record_fF, (replicate 19 7, 7)) only shown 8 (7 ∷ []) (replicate 19 7)  -- nothing laid beside 8
    ∷ ([], ([], 7)) only shown 0 (0 ∷ []) []  -- no records are refused
    ∷ []

pub rk_lines_rules_out : RulesOut (Kept _ rk-lines-kinds.ps rk-lines-kinds.r rk-lines.Post) (λ c. (c.args.0.now, (c.args.1.0.now, c.args.1.1.0.now))) (λ c. shown c.result (c.exit.1.1.0.now ∷ []) c.exit.1.0.now) rk_lines_wrong
unfolding numeral digits_of laid room_for laid_if_room decimal_of width_in first_half second_half record_of record_at blank_of column type_column first_columns last_columns line_of records_from records_in lines_of told_by
rk_lines_rules_out =
    ruled (beside numbers (beside lists lists)) (λ (i : List ℕ × (List ℕ × ℕ)). tells (room_for 0 (length (lines_in i.0)) (length i.1.0)) (i.1.1 ∷ []) (laid_if_room 0 (lines_in i.0) i.1.0)) (λ c p. said p) _ refl

-- RK_LISTING: the bytes of records, frames and refused, the ledger's words; a buffer for the text,
-- and the told number before
abbrev Listing : Type 0
Listing = List ℕ × (ℕ × (ℕ × (List ℕ × (List ℕ × ℕ))))

abbrev sums : Summary
sums = record { frames = 2; refused = 1; floor = tick_of 0; top = tick_of 3; missing = 3 }

abbrev pub rk_listing_wrong : List (Row Listing Outcome)
rk_listing_wrong =
    (record_of record_fF, (2, (1, (words 3, (replicate 64 7, 7))))) never shown 0 (43 ∷ []) (summary_of sums ++ replicate 21 7)  -- the last line alone
    ∷ (record_of record_fF, (2, (1, (words 3, (replicate 64 7, 7))))) only shown 0 (63 ∷ []) (line_of record_fF ++ (summary_of sums ++ (7 ∷ [])))
    ∷ (record_of record_fF, (2, (1, (words 3, (replicate 62 7, 7))))) only shown 8 (7 ∷ []) (replicate 62 7)  -- nothing laid beside 8
    ∷ []

pub rk_listing_rules_out : RulesOut (Kept _ rk-listing-kinds.ps rk-listing-kinds.r rk-listing.Post) (λ c. (c.args.0.now, (c.args.1.0, (c.args.1.1.0, (c.args.1.1.1.0.now, (c.args.1.1.1.1.0.now, c.args.1.1.1.1.1.0.now)))))) (λ c. shown c.result (c.exit.1.1.1.1.1.0.now ∷ []) c.exit.1.1.1.1.0.now) rk_listing_wrong
unfolding numeral digits_of laid room_for laid_if_room checked decimal_of width_in first_half second_half record_of record_at blank_of column type_column first_columns last_columns line_of named summary_of records_from records_in lines_of listing_of value_of rotated book_of number_to own_number checked_of sound_of map_rules range_rules missing_count ones values_of answer_to pending_in ledger_in listing_told listing_leaves told_by
rk_listing_rules_out =
    ruled (beside numbers (beside lists lists)) (λ (i : Listing). tells (listing_told i.0 i.1.0 i.1.1.0 i.1.1.1.0 (length i.1.1.1.1.0)) (i.1.1.1.1.1 ∷ []) (listing_leaves i.0 i.1.0 i.1.1.0 i.1.1.1.0 i.1.1.1.1.0))
    (λ c p. said p)
    _
    refl

-- RK_CLEAN and RK_IS_CLEAN: a capture, a buffer and the told row before
abbrev pub rk_clean_wrong : List (Row (List ℕ × (List ℕ × List ℕ)) Outcome)
rk_clean_wrong =
    (resend 1 0x41 ++ (0xFF ∷ heartbeat), (replicate 109 7, 7 ∷ [])) never shown 0 (108 ∷ 2 ∷ 1 ∷ []) (resend 1 0x41 ++ (heartbeat ++ (7 ∷ [])))  -- a private text kept
    ∷ (resend 1 0x41 ++ (0xFF ∷ heartbeat), (replicate 109 7, 7 ∷ [])) only shown 0 (108 ∷ 2 ∷ 1 ∷ []) (resend 1 0x20 ++ (heartbeat ++ (7 ∷ [])))
    ∷ (resend 1 0x41 ++ (0xFF ∷ heartbeat), (replicate 107 7, 7 ∷ [])) only shown 8 (7 ∷ []) (replicate 107 7)
    ∷ []

pub rk_clean_rules_out : RulesOut (Kept _ rk-clean-kinds.ps rk-clean-kinds.r rk-clean.Post) (λ c. (c.args.0.now, (c.args.1.0.now, c.args.1.1.0.now))) (λ c. shown c.result c.exit.1.1.0.now c.exit.1.0.now) rk_clean_wrong
unfolding plain_of frame_of checked read_of numeral digits_of laid sum8 sum_of kind_of suits measure_of p002_ok fields_ok real_time real_parts days_in leap judge_of painted summed scrubbed after next found noted sights_of joined each_of refusal_of seen_of says_of accepts frames_of frames_in clean_of found_by found_in Clean.fits_in clean_answer clean_leaves differ_of check_of told_by
rk_clean_rules_out =
    ruled (beside numbers (beside lists lists)) (λ (i : List ℕ × (List ℕ × List ℕ)). tells (clean_answer i.0 (length i.1.0)) i.1.1 (clean_leaves i.0 i.1.0)) (λ c p. said p) _ refl

abbrev pub rk_is_clean_wrong : List (Row (List ℕ × List ℕ) (ℕ × List ℕ))
rk_is_clean_wrong =
    (resend 1 0x41, 7 ∷ 7 ∷ []) never (0, 0 ∷ 0 ∷ [])  -- said to be clean
    ∷ (resend 1 0x41, 7 ∷ 7 ∷ []) only (0, 1 ∷ 44 ∷ [])  -- the place of RejectText
    ∷ (resend 1 0x20, 7 ∷ 7 ∷ []) only (0, 0 ∷ 0 ∷ [])
    ∷ []

pub rk_is_clean_rules_out : RulesOut (Kept _ rk-is-clean-kinds.ps rk-is-clean-kinds.r rk-is-clean.Post) (λ c. (c.args.0.now, c.args.1.0.now)) (λ c. (c.result, c.exit.1.0.now)) rk_is_clean_wrong
unfolding plain_of frame_of checked read_of numeral digits_of laid sum8 sum_of kind_of suits measure_of p002_ok fields_ok real_time real_parts days_in leap judge_of painted summed scrubbed after next found noted sights_of joined each_of refusal_of seen_of says_of accepts frames_of frames_in clean_of found_by found_in Clean.fits_in clean_answer clean_leaves differ_of check_of clean_told told_by
rk_is_clean_rules_out =
    ruled (beside numbers lists) (λ (i : List ℕ × List ℕ). ((clean_told i.0).number, told_by (clean_told i.0) i.1)) (λ c p. ap₂ (λ (n : ℕ) (r : List ℕ). (n, r)) p.answered p.told) _ refl
