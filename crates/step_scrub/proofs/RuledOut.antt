-- Wrong answers that the promise of `scrub` rules out, as a table of what is given and what is then
-- wrong. Assumes nothing.
use Prim.Native.Nat.{ℕ}
use mathlib.Core.Path.{refl}
use mathlib.Core.List.{List, [], ◌∷◌, ◌++◌}
use Rattle.terms.specs.Paper.{answer, refusal}
use Rattle.terms.specs.RuledOut.{Row, ◌never◌, ◌only◌, Kept, RulesOut, ruled, Left, left, lefts, left_is}
use Rattle.terms.specs.Checks.{or_else}
use Rattle.octets.specs.Octets.{sum_of, sum8, numeral, digits_of}
use Rattle.digits.specs.Digits.{decimal_of, width_in, all_digits, said_by, said_if_digits, digits_at, decimal_at}
use Rattle.calendar.specs.Calendar.{leap, days_in, real_parts, real_time}
use Rattle.step_tags.specs.Table.{rows, row_at, row_in, row_of, among, has, needs}
use Rattle.step_tags.specs.Forms.{some, is_number, is_flag, is_time, time_of, is_unreal, suits}
use Rattle.step_spec.specs.Pieces.{until_of, on_first, pieces, closed_by, closed}
use Rattle.step_spec.specs.Fields.{is_field, tag_of, value_of, fits, all_below, complete, passes, sound_from, sound_of, unreal_in, judge_of}
use Rattle.step_spec.specs.Frame.{trailer_of, front, digit_run, length_check, body_start, body_length, long_check, kind_check, type_check, head_of, sum_check, verdict_of, step_read_of}
use Rattle.step_spec.specs.Written.{plain_of, frame_of}
use Rattle.step_spec.specs.Examples.{wrong_sum, logon, scrubbed_logon, logon554, logon_old_sum, logon_short, test, scrubbed_test, test112}
use Rattle.step_frame.specs.Papers.{step_written_paper}
use Rattle.step_scrub.specs.Scrubbed.{paint_piece, paint_all, joined, painted, scrubbed_of, step_scrub_of, step_scrub_left}
use Rattle.step_scrub.proofs.scrub.Reads as scrub
use Rattle.step_scrub.proofs.scrub.Kinds as scrub-kinds

-- a logout, `|` for SOH: 8=FIXT.1.1|9=54|35=5|49=AB|56=CD|34=7|52=20260121-09:30:00.123|58=bye|
-- and its sum, with these in the three places
abbrev logout_with : List ℕ → List ℕ → List ℕ → List ℕ → List ℕ
logout_with sender target text sum =
    (56 ∷ 61 ∷ 70 ∷ 73 ∷ 88 ∷ 84 ∷ 46 ∷ 49 ∷ 46 ∷ 49 ∷ 1 ∷ 57 ∷ 61 ∷ 53 ∷ 52 ∷ 1 ∷ 51 ∷ 53 ∷ 61 ∷ 53 ∷ 1 ∷ 52 ∷ 57 ∷ 61 ∷ [])
    ++ (sender ++ ((1 ∷ 53 ∷ 54 ∷ 61 ∷ []) ++ (target
    ++ ((1 ∷ 51 ∷ 52 ∷ 61 ∷ 55 ∷ 1 ∷ 53 ∷ 50 ∷ 61 ∷ 50 ∷ 48 ∷ 50 ∷ 54 ∷ 48 ∷ 49 ∷ 50 ∷ 49 ∷ 45 ∷ 48 ∷ 57 ∷ 58 ∷ 51 ∷ 48 ∷ 58 ∷ 48 ∷ 48 ∷ 46 ∷ 49 ∷ 50 ∷ 51 ∷ 1 ∷ 53 ∷ 56 ∷ 61 ∷ [])
    ++ (text ++ ((1 ∷ 49 ∷ 48 ∷ 61 ∷ []) ++ (sum ++ (1 ∷ []))))))))

abbrev logout : List ℕ
logout = logout_with (65 ∷ 66 ∷ []) (67 ∷ 68 ∷ []) (98 ∷ 121 ∷ 101 ∷ []) (48 ∷ 49 ∷ 57 ∷ [])

-- SCRUB: the buffer lent
abbrev pub scrub_wrong : List (Row (List ℕ) Left)
scrub_wrong =
    logon never left (answer 0 (106 ∷ [])) logon  -- nothing done
    ∷ logon never left (answer 0 (106 ∷ [])) logon554  -- the password left
    ∷ logon never left (answer 0 (98 ∷ [])) logon_short  -- painted with another length
    ∷ logon never left (answer 0 (106 ∷ [])) logon_old_sum  -- the old sum kept
    ∷ logon only left (answer 0 (106 ∷ [])) scrubbed_logon  -- everything refused
    ∷ scrubbed_logon only left (answer 0 (106 ∷ [])) scrubbed_logon  -- a scrubbed frame changed
    ∷ test never left (answer 0 (79 ∷ [])) test112  -- 112 painted
    ∷ test only left (answer 0 (79 ∷ [])) scrubbed_test
    ∷ logout never left (answer 0 (77 ∷ [])) (logout_with (32 ∷ 32 ∷ []) (32 ∷ 32 ∷ []) (98 ∷ 121 ∷ 101 ∷ []) (49 ∷ 51 ∷ 55 ∷ []))  -- Text left
    ∷ logout never left (answer 0 (77 ∷ [])) (logout_with (65 ∷ 66 ∷ []) (67 ∷ 68 ∷ []) (32 ∷ 32 ∷ 32 ∷ []) (48 ∷ 53 ∷ 49 ∷ []))  -- both CompIDs left
    ∷ logout only left (answer 0 (77 ∷ [])) (logout_with (32 ∷ 32 ∷ []) (32 ∷ 32 ∷ []) (32 ∷ 32 ∷ 32 ∷ []) (49 ∷ 54 ∷ 57 ∷ []))
    ∷ wrong_sum only left (refusal 5) wrong_sum  -- painted, and then refused
    ∷ []

pub scrub_rules_out : RulesOut (Kept _ scrub-kinds.ps scrub-kinds.r scrub.Post) (λ c. c.args.0.now) (λ c. left (step_written_paper c.result) c.exit.0.now) scrub_wrong
unfolding or_else sum_of sum8 numeral digits_of decimal_of width_in all_digits said_by said_if_digits digits_at decimal_at leap days_in real_parts real_time rows row_at row_in row_of among has needs some is_number is_flag is_time time_of is_unreal suits until_of on_first pieces closed_by closed is_field tag_of value_of fits all_below complete passes sound_from sound_of unreal_in judge_of trailer_of front digit_run length_check body_start body_length long_check kind_check type_check head_of sum_check verdict_of step_read_of plain_of frame_of paint_piece paint_all joined painted scrubbed_of step_scrub_of step_scrub_left
scrub_rules_out = ruled lefts (λ (i : List ℕ). left (step_scrub_of i) (step_scrub_left i)) (λ c p. left_is p) _ refl
