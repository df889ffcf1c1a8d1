-- Wrong answers that the promise of `see` rules out, as a table of what is given and what is then
-- wrong. Assumes nothing.
use Rattle.std.proofs.Common.{ℕ, List, [], ◌∷◌, ◌++◌, take, drop, replicate, refl, ap}
use Rattle.terms.specs.RuledOut.{Row, ◌never◌, ◌only◌, Kept, RulesOut, ruled, lists}
use Rattle.terms.specs.Refusals.{refusal_of}
use Rattle.octets.specs.Octets.{numeral, digits_of, bytes_of, sum8, sum_of}
use Rattle.calendar.specs.Calendar.{leap, days_in, real_parts, real_time}
use Rattle.rules.specs.Table.{kind_of, suits, measure_of}
use Rattle.rules.specs.Fields.{p001_ok, m102_values_ok, entry_size, entry_ok, entries_ok, m102_ok, fields_ok, judge_of}
use Rattle.frame_spec.specs.Frame.{checked, read_of, body_read}
use Rattle.frame_spec.specs.Write.{plain_of, frame_of}
use Rattle.frame_spec.specs.Examples.{A, start_of_a, frame_a, frame_b, framed}
use Rattle.frame_view.specs.View.{view_of}
use Rattle.reading.specs.Seen.{seen_of}
use Rattle.reading.proofs.RuledOut.{shown}
use Rattle.reading_parts.proofs.see.Reads as see
use Rattle.reading_parts.proofs.see.Kinds as see-kinds

-- a refused reading
abbrev refused : ℕ → List ℕ
refused n = n ∷ 0x20202020 ∷ 0 ∷ 0 ∷ 0 ∷ 0 ∷ 0 ∷ 0 ∷ []

-- an M102 of 1,101 bytes: MD001, and 100 entries of 10 bytes, all of them 0 but for one byte of the
-- price of the fifty-first, which lies from 597 to 607
abbrev snapshot : ℕ → List ℕ
snapshot price =
    framed 0x4D313032
    (1 ∷ 1 ∷ bytes_of 4 20220314 ++ (bytes_of 4 93000000 ++ (bytes_of 5 0x4D44303031 ++ (replicate 56 0 ++ (bytes_of 2 100 ++ (replicate 502 0 ++ (price ∷ replicate 497 0)))))))

-- two parts; B is cut behind 30 of its 40 bytes
abbrev pub see_wrong : List (Row (List ℕ × List ℕ) (List ℕ))
see_wrong =
    (take 30 frame_b, drop 30 frame_b) only (0 ∷ 0x50303031 ∷ 2 ∷ 100 ∷ 3 ∷ 0 ∷ 12 ∷ 40 ∷ [])
    ∷ (take 30 frame_b, drop 30 frame_b) never refused 1  -- the first part alone read
    ∷ (take 30 frame_b, drop 30 frame_b) never refused 2  -- the parts in the wrong order
    ∷ (take 30 frame_b, drop 30 frame_b ++ A) never refused 5  -- a byte lost where they meet
    ∷ ([], frame_b) never refused 1  -- a first part of no bytes taken for the end
    ∷ (take 30 frame_b, drop 31 frame_b) only refused 1
    ∷ (take 600 (snapshot 0), drop 600 (snapshot 0)) only (0 ∷ 0x4D313032 ∷ 1 ∷ 0 ∷ 0 ∷ 0 ∷ 1073 ∷ 1101 ∷ [])
    ∷ (take 600 (snapshot 1), drop 600 (snapshot 1)) only refused 6  -- the entry across both parts not judged
    ∷ []

pub see_rules_out : RulesOut (Kept _ see-kinds.ps see-kinds.r see.Post) (λ c. (c.args.0.now, c.args.1.0.now)) (λ c. shown c.result) see_wrong
unfolding frame_a start_of_a frame_b plain_of frame_of checked read_of body_read numeral digits_of sum8 sum_of kind_of suits measure_of p001_ok m102_values_ok entry_size entry_ok entries_ok m102_ok fields_ok real_time real_parts days_in leap judge_of view_of refusal_of seen_of
see_rules_out = ruled lists (λ (i : List ℕ × List ℕ). shown (seen_of (i.0 ++ i.1))) (λ c p. ap shown p) _ refl
