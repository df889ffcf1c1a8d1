-- For each public function: wrong answers that its promise rules out, as tables of what is given
-- and what is then wrong. Assumes nothing.
use Prim.Native.Nat.{ℕ}
use mathlib.Core.Path.{refl}
use mathlib.Core.List.{List, [], ◌∷◌, ◌++◌}
use lib.ListN.{length, replicate}
use Rattle.terms.specs.Paper.{Paper, answer}
use Rattle.terms.specs.Refusals.{refusal_of}
use Rattle.terms.specs.RuledOut.{Row, ◌never◌, ◌only◌, Kept, RulesOut, ruled, papers, Left, left, lefts, left_is}
use Rattle.octets.specs.Octets.{numeral, digits_of, laid, sum8, sum_of}
use Rattle.calendar.specs.Calendar.{leap, days_in, real_parts, real_time}
use Rattle.rules.specs.Table.{kind_of, suits, measure_of}
use Rattle.rules.specs.Fields.{p002_ok, fields_ok, judge_of}
use Rattle.frame_spec.specs.Frame.{checked, read_of}
use Rattle.frame_spec.specs.Write.{plain_of, frame_of}
use Rattle.frame_spec.specs.Examples.{heartbeat, resend}
use Rattle.private.specs.Scrub.{painted, summed, scrubbed}
use Rattle.walk_laws.specs.Walk.{after, next, found, noted, sights_of}
use Rattle.walk_laws.specs.Frames.{joined, each_of}
use Rattle.reading.specs.Seen.{seen_of, says_of}
use Rattle.walk_spec.specs.Walk.{accepts, frames_of}
use Rattle.clean_spec.specs.Clean.{frames_in, clean_of, found_by, found_in, fits_in, clean_answer, clean_leaves, differ_of, check_of}
use Rattle.clean.specs.Papers.{clean_paper, check_paper}
use Rattle.clean.proofs.clean.Reads as clean
use Rattle.clean.proofs.clean.Kinds as clean-kinds
use Rattle.clean.proofs.is_clean.Reads as is-clean
use Rattle.clean.proofs.is_clean.Kinds as is-clean-kinds

-- a resend with a private text, a stray byte, and a heartbeat: 80 + 1 + 28 bytes
abbrev capture : List ℕ
capture = resend 1 0x41 ++ (0xFF ∷ heartbeat)

-- CLEAN: a capture and a lent buffer; the answer with bytes, frames and frames behind damage, and
-- the buffer then
abbrev pub clean_wrong : List (Row (List ℕ × List ℕ) Left)
clean_wrong =
    (capture, replicate 109 7) never left (answer 0 (108 ∷ 2 ∷ 1 ∷ [])) (resend 1 0x41 ++ (heartbeat ++ (7 ∷ [])))  -- a private text kept
    ∷ (capture, replicate 109 7) never left (answer 0 (109 ∷ 2 ∷ 1 ∷ [])) (resend 1 0x20 ++ (0xFF ∷ heartbeat))  -- a stray byte kept
    ∷ (capture, replicate 109 7) never left (answer 0 (80 ∷ 1 ∷ 0 ∷ [])) (resend 1 0x20 ++ replicate 29 7)  -- an end at the first damage
    ∷ (capture, replicate 109 7) only left (answer 0 (108 ∷ 2 ∷ 1 ∷ [])) (resend 1 0x20 ++ (heartbeat ++ (7 ∷ [])))
    ∷ (capture, replicate 107 7) only left (answer 8 (0 ∷ 0 ∷ 0 ∷ [])) (replicate 107 7)  -- nothing laid beside 8
    ∷ []

pub clean_rules_out : RulesOut (Kept _ clean-kinds.ps clean-kinds.r clean.Post) (λ c. (c.args.0.now, c.args.1.0.now)) (λ c. left (clean_paper c.result) c.exit.1.0.now) clean_wrong
unfolding plain_of frame_of checked read_of numeral digits_of laid sum8 sum_of kind_of suits measure_of p002_ok fields_ok real_time real_parts days_in leap judge_of painted summed scrubbed after next found noted sights_of joined each_of refusal_of seen_of says_of accepts frames_of frames_in clean_of found_by found_in fits_in clean_answer clean_leaves
clean_rules_out =
    ruled lefts (λ (i : List ℕ × List ℕ). left (clean_answer i.0 (length i.1)) (clean_leaves i.0 i.1)) (λ c p. left_is p) _ refl

-- IS_CLEAN: a capture; none, or the first place where it is not clean
abbrev pub is_clean_wrong : List (Row (List ℕ) Paper)
is_clean_wrong =
    resend 1 0x41 never answer 0 []  -- said to be clean
    ∷ resend 1 0x41 only answer 0 (44 ∷ [])  -- the place of RejectText: 24 + 20
    ∷ resend 1 0x20 only answer 0 []  -- not suspected
    ∷ (0xFF ∷ heartbeat) only answer 0 (0 ∷ [])  -- a stray byte is not clean
    ∷ []

pub is_clean_rules_out : RulesOut (Kept _ is-clean-kinds.ps is-clean-kinds.r is-clean.Post) (λ c. c.args.0.now) (λ c. check_paper c.result) is_clean_wrong
unfolding plain_of frame_of checked read_of numeral digits_of laid sum8 sum_of kind_of suits measure_of p002_ok fields_ok real_time real_parts days_in leap judge_of painted summed scrubbed after next found noted sights_of joined each_of refusal_of seen_of says_of frames_in clean_of differ_of check_of
is_clean_rules_out = ruled papers check_of (λ c p. p) _ refl
