-- For each public function: wrong answers that its promise rules out, as tables of what is given
-- and what is then wrong. Assumes nothing.
use Prim.Native.Nat.{ℕ}
use mathlib.Core.Path.{refl}
use mathlib.Core.List.{List, [], ◌∷◌, ◌++◌}
use lib.ListN.{length, drop, replicate}
use Rattle.terms.specs.Paper.{Paper, answer, refusal}
use Rattle.terms.specs.RuledOut.{Row, ◌never◌, ◌only◌, Kept, RulesOut, ruled, numbers, papers, Left, left, lefts, left_is}
use Rattle.terms.specs.Checks.{or_else}
use Rattle.octets.specs.Octets.{sum_of, sum8, laid, numeral, digits_of}
use Rattle.digits.specs.Digits.{decimal_of, width_in, all_digits, said_by, said_if_digits, digits_at, decimal_at}
use Rattle.calendar.specs.Calendar.{leap, days_in, real_parts, real_time}
use Rattle.step_tags.specs.Table.{rows, row_at, row_in, row_of, among, has, needs}
use Rattle.step_tags.specs.Forms.{some, is_number, is_flag, is_time, time_of, is_unreal, suits}
use Rattle.step_spec.specs.Pieces.{until_of, on_first, pieces, closed_by, closed}
use Rattle.step_spec.specs.Fields.{is_field, tag_of, value_of, fits, all_below, complete, passes, sound_from, sound_of, unreal_in, judge_of, field_front, field_at}
use Rattle.step_spec.specs.Frame.{trailer_of, front, digit_run, length_check, body_start, body_length, long_check, kind_check, type_check, head_of, sum_check, verdict_of, step_read_of}
use Rattle.step_spec.specs.Written.{plain_of, frame_of, message_of, step_write_of, step_left_of}
use Rattle.step_spec.specs.Examples.{beat, needless_zero, two_digits, far_trailer, type_and_zero, type_h, type_and_sum, wrong_sum, time_and_field, month13, wrong_front, right_front, twice49, empty49, no34, beat108, reset_under5, reset_under4, long_frame, logon, order, heartbeat_fields, sorted_fields, sorted_beat}
use Rattle.step_frame.specs.declared.StepRefusal.{StepRefusal}
use Rattle.step_frame.specs.declared.StepRefusal.TheVariants.{More, Sum, Time, Room, Begin, Fields}
use Rattle.step_frame.specs.Papers.{step_number, read_paper, field_paper, step_written_paper}
use Rattle.step_frame.proofs.U32FromStepRefusal.from.Reads as number
use Rattle.step_frame.proofs.U32FromStepRefusal.from.Kinds as number-kinds
use Rattle.step_frame.proofs.field_at.Reads as field_at
use Rattle.step_frame.proofs.field_at.Kinds as field-at-kinds
use Rattle.step_frame.proofs.read_at.Reads as read_at
use Rattle.step_frame.proofs.read_at.Kinds as read-at-kinds
use Rattle.step_frame.proofs.write.Reads as write
use Rattle.step_frame.proofs.write.Kinds as write-kinds

-- FROM: a refusal
abbrev pub U32FromStepRefusal_from_wrong : List (Row StepRefusal ℕ)
U32FromStepRefusal_from_wrong =
    More only 1
    ∷ Sum only 5  -- not counted from 0
    ∷ Time never 26  -- told from a field
    ∷ Room only 8
    ∷ Begin only 23
    ∷ Fields never 7  -- told from a time
    ∷ Fields only 26
    ∷ []

pub U32FromStepRefusal_from_rules_out : RulesOut (Kept _ number-kinds.ps number-kinds.r number.Post) (λ c. c.args.0) (λ c. c.result) U32FromStepRefusal_from_wrong
U32FromStepRefusal_from_rules_out = ruled numbers step_number (λ c p. p) _ refl

-- FIELD_AT: fields and a place
abbrev pub field_at_wrong : List (Row (List ℕ × ℕ) Paper)
field_at_wrong =
    (heartbeat_fields, 0) only answer 0 (49 ∷ 3 ∷ 2 ∷ 6 ∷ [])  -- not always 26
    ∷ (heartbeat_fields, 6) only answer 0 (56 ∷ 9 ∷ 2 ∷ 12 ∷ [])  -- the place counted from the fields' start, not from the field's
    ∷ (heartbeat_fields, 1) only answer 0 (9 ∷ 3 ∷ 2 ∷ 6 ∷ [])  -- what stands at the place, whatever stands before it
    ∷ (heartbeat_fields, 42) only refusal 26  -- none at the end
    ∷ ((48 ∷ 53 ∷ 56 ∷ 61 ∷ 65 ∷ 1 ∷ []), 0) only refusal 26  -- `058=A|`: a needless zero in the tag taken
    ∷ ((53 ∷ 56 ∷ 61 ∷ 65 ∷ 61 ∷ 66 ∷ 1 ∷ []), 0) only answer 0 (58 ∷ 3 ∷ 3 ∷ 7 ∷ [])  -- `58=A=B|`: the tag ends at the first `=`, not at the last
    ∷ ((53 ∷ 56 ∷ 61 ∷ 65 ∷ []), 0) only refusal 26  -- `58=A`: a field without its SOH taken
    ∷ []

pub field_at_rules_out : RulesOut (Kept _ field-at-kinds.ps field-at-kinds.r field_at.Post) (λ c. (c.args.0.now, c.args.1.0)) (λ c. field_paper c.result) field_at_wrong
unfolding numeral all_digits said_by said_if_digits digits_at decimal_at some until_of is_field tag_of value_of field_front
field_at_rules_out = ruled papers (λ (i : List ℕ × ℕ). field_at i.1 i.0) (λ c p. p) _ refl

-- READ_AT: bytes and a place

-- a logout whose Text has n bytes, of which all but them is given
abbrev text : ℕ → List ℕ → List ℕ → List ℕ
text n a b = a ++ (replicate n 65 ++ b)

abbrev pub read_at_wrong : List (Row (List ℕ × ℕ) Paper)
read_at_wrong =
    (beat, 0) only answer 0 (48 ∷ 21 ∷ 42 ∷ 70 ∷ [])  -- everything refused
    ∷ (0 ∷ beat, 1) only answer 0 (48 ∷ 21 ∷ 42 ∷ 70 ∷ [])  -- the place of the fields counted from the bytes' start
    ∷ (order, 0) only answer 0 (48 ∷ 21 ∷ 42 ∷ 70 ∷ [])  -- one order of the fields alone taken
    ∷ (logon, 0) never answer 0 (48 ∷ 21 ∷ 42 ∷ 70 ∷ [])  -- one fixed frame for all
    ∷ (needless_zero, 0) only refusal 24  -- a needless zero in 9 taken
    ∷ (two_digits, 0) only refusal 5  -- a sum of two digits taken
    ∷ (wrong_sum, 0) only refusal 5  -- the sum not compared
    ∷ (far_trailer, 0) only refusal 5  -- `10=` looked for anywhere
    ∷ (type_and_zero, 0) only refusal 24  -- 25 before 24
    ∷ (type_and_sum, 0) only refusal 25  -- 5 before 25
    ∷ (time_and_field, 0) only refusal 7  -- 26 before 7
    ∷ (month13, 0) only refusal 7  -- a thirteenth month taken
    ∷ (wrong_front, 0) only refusal 23  -- waits where a byte is wrong already
    ∷ (right_front, 0) only refusal 1  -- refuses a right front
    ∷ (long_frame, 0) only refusal 3  -- waits for a frame that is too long
    ∷ (twice49, 0) only refusal 26  -- a repeated 49 taken
    ∷ (empty49, 0) only refusal 26  -- an empty value taken
    ∷ (no34, 0) only refusal 26  -- a missing 34 taken
    ∷ (beat108, 0) only refusal 26  -- 108 in a heartbeat taken
    ∷ (text 1025 (56 ∷ 61 ∷ 70 ∷ 73 ∷ 88 ∷ 84 ∷ 46 ∷ 49 ∷ 46 ∷ 49 ∷ 1 ∷ 57 ∷ 61 ∷ 49 ∷ 48 ∷ 55 ∷ 54 ∷ 1 ∷ 51 ∷ 53 ∷ 61 ∷ 53 ∷ 1 ∷ 52 ∷ 57 ∷ 61 ∷ 65 ∷ 66 ∷ 1 ∷ 53 ∷ 54 ∷ 61 ∷ 67 ∷ 68 ∷ 1 ∷ 51 ∷ 52 ∷ 61 ∷ 55 ∷ 1 ∷ 53 ∷ 50 ∷ 61 ∷ 50 ∷ 48 ∷ 50 ∷ 54 ∷ 48 ∷ 49 ∷ 50 ∷ 49 ∷ 45 ∷ 48 ∷ 57 ∷ 58 ∷ 51 ∷ 48 ∷ 58 ∷ 48 ∷ 48 ∷ 46 ∷ 49 ∷ 50 ∷ 51 ∷ 1 ∷ 53 ∷ 56 ∷ 61 ∷ []) (1 ∷ 49 ∷ 48 ∷ 61 ∷ 49 ∷ 50 ∷ 49 ∷ 1 ∷ []), 0) only refusal 26  -- 58 of 1,025 bytes taken
    ∷ (text 1024 (56 ∷ 61 ∷ 70 ∷ 73 ∷ 88 ∷ 84 ∷ 46 ∷ 49 ∷ 46 ∷ 49 ∷ 1 ∷ 57 ∷ 61 ∷ 49 ∷ 48 ∷ 55 ∷ 53 ∷ 1 ∷ 51 ∷ 53 ∷ 61 ∷ 53 ∷ 1 ∷ 52 ∷ 57 ∷ 61 ∷ 65 ∷ 66 ∷ 1 ∷ 53 ∷ 54 ∷ 61 ∷ 67 ∷ 68 ∷ 1 ∷ 51 ∷ 52 ∷ 61 ∷ 55 ∷ 1 ∷ 53 ∷ 50 ∷ 61 ∷ 50 ∷ 48 ∷ 50 ∷ 54 ∷ 48 ∷ 49 ∷ 50 ∷ 49 ∷ 45 ∷ 48 ∷ 57 ∷ 58 ∷ 51 ∷ 48 ∷ 58 ∷ 48 ∷ 48 ∷ 46 ∷ 49 ∷ 50 ∷ 51 ∷ 1 ∷ 53 ∷ 56 ∷ 61 ∷ []) (1 ∷ 49 ∷ 48 ∷ 61 ∷ 48 ∷ 53 ∷ 53 ∷ 1 ∷ []), 0) only answer 0 (53 ∷ 23 ∷ 1070 ∷ 1100 ∷ [])  -- 58 of 1,024 bytes refused
    ∷ (type_h, 0) only refusal 25  -- a type h taken
    ∷ (reset_under5, 0) only refusal 26  -- a sequence reset under 5 taken
    ∷ (reset_under4, 0) only answer 0 (52 ∷ 21 ∷ 47 ∷ 75 ∷ [])  -- and under 4 refused
    ∷ (beat, 71) only refusal 1  -- beyond the end anything but 1
    ∷ []

pub read_at_rules_out : RulesOut (Kept _ read-at-kinds.ps read-at-kinds.r read_at.Post) (λ c. (c.args.0.now, c.args.1.0)) (λ c. read_paper c.result) read_at_wrong
unfolding or_else sum_of sum8 numeral digits_of decimal_of width_in all_digits said_by said_if_digits digits_at decimal_at leap days_in real_parts real_time rows row_at row_in row_of among has needs some is_number is_flag is_time time_of is_unreal suits until_of on_first pieces closed_by closed is_field tag_of value_of fits all_below complete passes sound_from sound_of unreal_in judge_of trailer_of front digit_run length_check body_start body_length long_check kind_check type_check head_of sum_check verdict_of step_read_of
read_at_rules_out = ruled papers (λ (i : List ℕ × ℕ). step_read_of (drop i.1 i.0)) (λ c p. p) _ refl

-- WRITE: a type, fields, and the buffer lent
abbrev pub write_wrong : List (Row (ℕ × (List ℕ × List ℕ)) Left)
write_wrong =
    (48, (heartbeat_fields, replicate 70 7)) only left (answer 0 (70 ∷ [])) beat  -- everything refused, nothing written
    ∷ (48, (heartbeat_fields, replicate 70 7)) never left (answer 0 (70 ∷ [])) sorted_beat  -- the fields sorted
    ∷ (48, (sorted_fields, replicate 72 7)) only left (answer 0 (70 ∷ [])) (sorted_beat ++ (7 ∷ 7 ∷ []))  -- a byte behind the frame changed
    ∷ (48, (heartbeat_fields, replicate 69 7)) only left (refusal 8) (replicate 69 7)  -- stored before it refuses for room
    ∷ (104, (heartbeat_fields, replicate 70 7)) only left (refusal 25) (replicate 70 7)  -- a type h written
    ∷ (48, ([], replicate 70 7)) only left (refusal 26) (replicate 70 7)  -- fields that lack written
    ∷ (48, (heartbeat_fields ++ (49 ∷ []), replicate 80 7)) only left (refusal 26) (replicate 80 7)  -- fields that do not end in SOH written
    ∷ (48, ((53 ∷ 50 ∷ 61 ∷ 50 ∷ 48 ∷ 50 ∷ 54 ∷ 49 ∷ 51 ∷ 48 ∷ 49 ∷ 45 ∷ 48 ∷ 57 ∷ 58 ∷ 51 ∷ 48 ∷ 58 ∷ 48 ∷ 48 ∷ 46 ∷ 49 ∷ 50 ∷ 51 ∷ 1 ∷ []), [])) only left (refusal 7) []  -- `52=20261301-09:30:00.123|`: 26 or 8 before 7
    ∷ (48, (replicate 8163 65, [])) only left (refusal 3) []  -- a frame of 8,193 bytes
    ∷ []

pub write_rules_out : RulesOut (Kept _ write-kinds.ps write-kinds.r write.Post) (λ c. (c.args.0, (c.args.1.0.now, c.args.1.1.0.now))) (λ c. left (step_written_paper c.result) c.exit.1.1.0.now) write_wrong
unfolding or_else sum_of sum8 numeral digits_of decimal_of width_in all_digits said_by said_if_digits digits_at decimal_at leap days_in real_parts real_time rows row_at row_in row_of among has needs some is_number is_flag is_time time_of is_unreal suits until_of on_first pieces closed_by closed is_field tag_of value_of fits all_below complete passes sound_from sound_of unreal_in judge_of trailer_of front digit_run length_check body_start body_length long_check kind_check type_check head_of sum_check verdict_of step_read_of laid plain_of frame_of message_of step_write_of step_left_of
write_rules_out = ruled lefts (λ (i : ℕ × (List ℕ × List ℕ)). left (step_write_of i.0 i.1.0 (length i.1.1)) (step_left_of i.0 i.1.0 i.1.1)) (λ c p. left_is p) _ refl
