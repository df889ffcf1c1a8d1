-- For each function: wrong answers that its promise rules out, as tables of what is given and what
-- is then wrong. Assumes nothing.
use Prim.Native.Nat.{ℕ}
use mathlib.Core.Path.{◌≡◌, refl, ap₂}
use mathlib.Core.List.{List, [], ◌∷◌}
use lib.ListN.{length, drop, replicate}
use Rattle.terms.specs.Paper.{Paper}
use Rattle.terms.specs.RuledOut.{Row, ◌never◌, ◌only◌, Kept, RulesOut, ruled, numbers, lists, beside}
use Rattle.terms.specs.Checks.{or_else}
use Rattle.octets.specs.Octets.{sum_of, sum8, laid, numeral, digits_of}
use Rattle.digits.specs.Digits.{decimal_of, width_in, all_digits, said_by, said_if_digits, digits_at, decimal_at}
use Rattle.calendar.specs.Calendar.{leap, days_in, real_parts, real_time}
use Rattle.step_tags.specs.Table.{rows, row_at, row_in, row_of, among, has, needs}
use Rattle.step_tags.specs.Forms.{some, is_number, is_flag, is_time, time_of, is_unreal, suits}
use Rattle.step_spec.specs.Pieces.{until_of, on_first, pieces, closed_by, closed}
use Rattle.step_spec.specs.Fields.{is_field, tag_of, value_of, fits, all_below, complete, passes, sound_from, sound_of, unreal_in, judge_of, field_front, field_at}
use Rattle.step_spec.specs.Frame.{trailer_of, front, digit_run, length_check, body_start, body_length, long_check, kind_check, type_check, head_of, sum_check, verdict_of, step_read_of}
use Rattle.step_spec.specs.Written.{plain_of, frame_of, message_of, step_write_of, step_left_of}
use Rattle.step_spec.specs.Examples.{beat, wrong_sum, wrong_front, logon, scrubbed_logon, logon554, logon_old_sum, heartbeat_fields, sorted_beat}
use Rattle.step_scrub.specs.Scrubbed.{paint_piece, paint_all, joined, painted, scrubbed_of, step_scrub_of, step_scrub_left}
use Rattle.host_words.specs.Told.{Tells, told_by}
use Rattle.host_step.proofs.rk_step_read.Reads as read
use Rattle.host_step.proofs.rk_step_read.Kinds as read-kinds
use Rattle.host_step.proofs.rk_step_field.Reads as field
use Rattle.host_step.proofs.rk_step_field.Kinds as field-kinds
use Rattle.host_step.proofs.rk_step_write.Reads as write
use Rattle.host_step.proofs.rk_step_write.Kinds as write-kinds
use Rattle.host_step.proofs.rk_step_scrub.Reads as scrub
use Rattle.host_step.proofs.rk_step_scrub.Kinds as scrub-kinds

-- a number and the told row; and a buffer beside them
abbrev Answer : Type 0
Answer = ℕ × List ℕ

abbrev told : ℕ → List ℕ → Answer
told n row = (n, row)

abbrev tells : Paper → List ℕ → Answer
tells p was = told p.number (told_by p was)

said : {p : Paper} {was row : List ℕ} {n : ℕ} → Tells p was n row → told n row ≡ tells p was
said t = ap₂ told t.answered t.told

abbrev Answers : Type 0
Answers = Answer × List ℕ

abbrev left : Answer → List ℕ → Answers
left a d = (a, d)

-- RK_STEP_READ: bytes, a place, and the told row before
abbrev pub rk_step_read_wrong : List (Row (List ℕ × (ℕ × List ℕ)) Answer)
rk_step_read_wrong =
    (beat, (0, replicate 4 7)) only told 0 (48 ∷ 21 ∷ 42 ∷ 70 ∷ [])  -- everything refused
    ∷ (beat, (0, replicate 4 7)) never told 0 (48 ∷ 42 ∷ 21 ∷ 70 ∷ [])  -- place and length swapped
    ∷ (wrong_sum, (0, replicate 4 7)) only told 5 (replicate 4 7)  -- something told of what is refused
    ∷ (wrong_front, (0, replicate 4 7)) only told 23 (replicate 4 7)  -- one number for all refusals
    ∷ []

pub rk_step_read_rules_out : RulesOut (Kept _ read-kinds.ps read-kinds.r read.Post) (λ c. (c.args.0.now, (c.args.1.0, c.args.1.1.0.now))) (λ c. told c.result c.exit.1.1.0.now) rk_step_read_wrong
unfolding or_else sum_of sum8 numeral digits_of decimal_of width_in all_digits said_by said_if_digits digits_at decimal_at leap days_in real_parts real_time rows row_at row_in row_of among has needs some is_number is_flag is_time time_of is_unreal suits until_of on_first pieces closed_by closed is_field tag_of value_of fits all_below complete passes sound_from sound_of unreal_in judge_of trailer_of front digit_run length_check body_start body_length long_check kind_check type_check head_of sum_check verdict_of step_read_of told_by
rk_step_read_rules_out = ruled (beside numbers lists) (λ (i : List ℕ × (ℕ × List ℕ)). tells (step_read_of (drop i.1.0 i.0)) i.1.1) (λ c p. said p) _ refl

-- RK_STEP_FIELD: fields, a place, and the told row before
abbrev pub rk_step_field_wrong : List (Row (List ℕ × (ℕ × List ℕ)) Answer)
rk_step_field_wrong =
    (heartbeat_fields, (6, replicate 4 7)) only told 0 (56 ∷ 9 ∷ 2 ∷ 12 ∷ [])  -- always 26
    ∷ (heartbeat_fields, (6, replicate 4 7)) never told 0 (56 ∷ 12 ∷ 2 ∷ 9 ∷ [])  -- value and next place swapped
    ∷ (heartbeat_fields, (42, replicate 4 7)) only told 26 (replicate 4 7)  -- a field told at the end
    ∷ []

pub rk_step_field_rules_out : RulesOut (Kept _ field-kinds.ps field-kinds.r field.Post) (λ c. (c.args.0.now, (c.args.1.0, c.args.1.1.0.now))) (λ c. told c.result c.exit.1.1.0.now) rk_step_field_wrong
unfolding numeral all_digits said_by said_if_digits digits_at decimal_at some until_of is_field tag_of value_of field_front told_by
rk_step_field_rules_out = ruled (beside numbers lists) (λ (i : List ℕ × (ℕ × List ℕ)). tells (field_at i.1.0 i.0) i.1.1) (λ c p. said p) _ refl

-- RK_STEP_WRITE: a type, fields, the told number before, and the buffer lent
abbrev pub rk_step_write_wrong : List (Row (ℕ × (List ℕ × (ℕ × List ℕ))) Answers)
rk_step_write_wrong =
    (48, (heartbeat_fields, (7, replicate 70 7))) only left (told 0 (70 ∷ [])) beat  -- everything refused
    ∷ (48, (heartbeat_fields, (7, replicate 70 7))) never left (told 0 (70 ∷ [])) sorted_beat  -- the fields sorted
    ∷ (48, (heartbeat_fields, (7, replicate 69 7))) only left (told 8 (7 ∷ [])) (replicate 69 7)  -- 8 tells nothing and changes nothing
    ∷ (104, (heartbeat_fields, (7, replicate 70 7))) only left (told 25 (7 ∷ [])) (replicate 70 7)  -- a type h written
    ∷ []

pub rk_step_write_rules_out : RulesOut (Kept _ write-kinds.ps write-kinds.r write.Post) (λ c. (c.args.0, (c.args.1.0.now, (c.args.1.1.1.0.now, c.args.1.1.0.now)))) (λ c. left (told c.result (c.exit.1.1.1.0.now ∷ [])) c.exit.1.1.0.now) rk_step_write_wrong
unfolding or_else sum_of sum8 numeral digits_of decimal_of width_in all_digits said_by said_if_digits digits_at decimal_at leap days_in real_parts real_time rows row_at row_in row_of among has needs some is_number is_flag is_time time_of is_unreal suits until_of on_first pieces closed_by closed is_field tag_of value_of fits all_below complete passes sound_from sound_of unreal_in judge_of trailer_of front digit_run length_check body_start body_length long_check kind_check type_check head_of sum_check verdict_of step_read_of laid plain_of frame_of message_of step_write_of step_left_of told_by
rk_step_write_rules_out =
    ruled (beside (beside numbers lists) lists)
    (λ (i : ℕ × (List ℕ × (ℕ × List ℕ))). left (tells (step_write_of i.0 i.1.0 (length i.1.1.1)) (i.1.1.0 ∷ [])) (step_left_of i.0 i.1.0 i.1.1.1))
    (λ c p. ap₂ left (said p.0) p.1)
    _
    refl

-- RK_STEP_SCRUB: the told number before, and the bytes lent
abbrev pub rk_step_scrub_wrong : List (Row (ℕ × List ℕ) Answers)
rk_step_scrub_wrong =
    (7, logon) never left (told 0 (106 ∷ [])) logon  -- nothing done
    ∷ (7, logon) never left (told 0 (106 ∷ [])) logon554  -- the password left
    ∷ (7, logon) never left (told 0 (106 ∷ [])) logon_old_sum  -- the old sum kept
    ∷ (7, logon) only left (told 0 (106 ∷ [])) scrubbed_logon
    ∷ (7, wrong_sum) only left (told 5 (7 ∷ [])) wrong_sum  -- a refusal tells nothing and changes nothing
    ∷ []

pub rk_step_scrub_rules_out : RulesOut (Kept _ scrub-kinds.ps scrub-kinds.r scrub.Post) (λ c. (c.args.1.0.now, c.args.0.now)) (λ c. left (told c.result (c.exit.1.0.now ∷ [])) c.exit.0.now) rk_step_scrub_wrong
unfolding or_else sum_of sum8 numeral digits_of decimal_of width_in all_digits said_by said_if_digits digits_at decimal_at leap days_in real_parts real_time rows row_at row_in row_of among has needs some is_number is_flag is_time time_of is_unreal suits until_of on_first pieces closed_by closed is_field tag_of value_of fits all_below complete passes sound_from sound_of unreal_in judge_of trailer_of front digit_run length_check body_start body_length long_check kind_check type_check head_of sum_check verdict_of step_read_of plain_of frame_of paint_piece paint_all joined painted scrubbed_of step_scrub_of step_scrub_left told_by
rk_step_scrub_rules_out = ruled (beside (beside numbers lists) lists) (λ (i : ℕ × List ℕ). left (tells (step_scrub_of i.1) (i.0 ∷ [])) (step_scrub_left i.1)) (λ c p. ap₂ left (said p.0) p.1) _ refl
