-- For each public function: wrong answers that its promise rules out, as tables of what is given
-- and what is then wrong. Assumes nothing.
use Prim.Native.Nat.{ℕ}
use mathlib.Core.Path.{refl, ap₂}
use mathlib.Core.List.{List, [], ◌∷◌, ◌++◌}
use lib.Count.{count_trailing_zeros}
use lib.ListN.{take, replicate}
use Rattle.terms.specs.Paper.{Paper}
use Rattle.terms.specs.Refusals.{refusal_of}
use Rattle.terms.specs.Verdicts.{verdict_number}
use Rattle.terms.specs.RuledOut.{Row, ◌never◌, ◌only◌, Kept, RulesOut, ruled, lists}
use Rattle.octets.specs.Octets.{numeral, digits_of, laid, sum8, sum_of}
use Rattle.calendar.specs.Calendar.{leap, days_in, real_parts, real_time}
use Rattle.rules.specs.Table.{kind_of, suits, measure_of}
use Rattle.rules.specs.Fields.{p001_ok, p002_ok, layout_of, suits_tail, tail_ok, m201_ok, fields_ok, judge_of}
use Rattle.frame_spec.specs.Frame.{checked, read_of, body_read}
use Rattle.frame_spec.specs.Write.{plain_of, frame_of}
use Rattle.frame_view.specs.View.{view_of}
use Rattle.tick_map.specs.Bits.{run, tally}
use Rattle.ledger_spec.specs.State.{range_rules, map_rules, sound_of, has}
use Rattle.ledger_spec.specs.Calls as ledger
use Rattle.ledger_spec.specs.Trace.{trace}
use Rattle.ledger_spec.specs.Words as words
use Rattle.channels_spec.specs.Table.{least, place_of, free_place}
use Rattle.channels_spec.specs.Calls.{opening_number}
use Rattle.walk_laws.specs.Walk.{after, next, found, noted, sights_of}
use Rattle.walk_laws.specs.Frames.{frames_in, reads_of}
use Rattle.reading.specs.Seen.{seen_of, says_of}
use Rattle.walk_spec.specs.Offers.{calls_by}
use Rattle.walk_spec.specs.Walk.{calls_from, calls_of}
use Rattle.month_spec.specs.Figures.{ticks_answered, resent, figures_of, figure_of}
use Rattle.month_spec.specs.Page as page-spec
use Rattle.month_spec.specs.Page.{Page, tabled, all_below, channels_right, sums_right, page_of}
use Rattle.month_spec.specs.Calls.{start_from, start_number, start_page, figure_at, number_to, figures_told, nothing_told, answer_to, counted, next_of}
use Rattle.month.specs.declared.Month.{Month}
use Rattle.month.specs.State.{page_in, month_of, added_paper}
use Rattle.month.specs.Examples.{ticked, announced, asked, page}
use Rattle.month.proofs.Month.started.Reads as month-started
use Rattle.month.proofs.Month.started.Kinds as month-started-kinds
use Rattle.month.proofs.Month.added.Reads as month-added
use Rattle.month.proofs.Month.added.Kinds as month-added-kinds

-- MONTH::STARTED: channels; the answer, how many are named, and the first three places
abbrev begun : ℕ → Month → List ℕ
begun n m = n ∷ m.named ∷ take 3 m.channels

abbrev thirty_two : List ℕ
thirty_two = page-spec.tabled (λ i. i) 32

abbrev pub Month-started-wrong : List (Row (List ℕ) (List ℕ))
Month-started-wrong =
    (100 ∷ 101 ∷ []) only (0 ∷ 2 ∷ 100 ∷ 101 ∷ 0 ∷ [])
    ∷ (100 ∷ 101 ∷ []) never (0 ∷ 2 ∷ 101 ∷ 100 ∷ 0 ∷ [])  -- in another order
    ∷ (100 ∷ 100 ∷ []) never (0 ∷ 2 ∷ 100 ∷ 100 ∷ 0 ∷ [])  -- a channel named twice
    ∷ (100 ∷ 100 ∷ []) only (22 ∷ 0 ∷ 0 ∷ 0 ∷ 0 ∷ [])
    ∷ (100 ∷ 10000 ∷ 100 ∷ []) only (10 ∷ 0 ∷ 0 ∷ 0 ∷ 0 ∷ [])  -- the first one refused answers
    ∷ [] only (0 ∷ 0 ∷ 0 ∷ 0 ∷ 0 ∷ [])  -- no channel is a page too
    ∷ thirty_two only (0 ∷ 32 ∷ 0 ∷ 1 ∷ 2 ∷ [])
    ∷ (thirty_two ++ (32 ∷ [])) only (21 ∷ 0 ∷ 0 ∷ 0 ∷ 0 ∷ [])
    ∷ (thirty_two ++ (7 ∷ [])) only (22 ∷ 0 ∷ 0 ∷ 0 ∷ 0 ∷ [])  -- 22 before 21
    ∷ []

pub Month-started-rules-out : RulesOut (Kept _ month-started-kinds.ps month-started-kinds.r month-started.Post) (λ c. c.args.0.now) (λ c. begun (verdict_number c.result.answer) c.result.page) Month-started-wrong
unfolding least place_of free_place opening_number ledger.fresh tabled page_of start_from start_number start_page
Month-started-rules-out = ruled lists (λ (cs : List ℕ). begun (start_number cs) (month_of (start_page cs))) (λ c p. ap₂ begun p.0 p.1) _ refl

-- MONTH::ADDED: a page of channels 101 and 100, and a capture. The answer, how many captures were
-- taken, both channels' figures, and their sums; of an untouched channel all are 0.
abbrev told : Paper → Month → List ℕ
told p m = p.number ∷ m.taken ∷ (take 12 p.values ++ take 12 m.sums)

abbrev none : List ℕ
none = replicate 6 0

-- channel 100's figures and sums, beside nothing of channel 101
abbrev of100 : ℕ → ℕ → List ℕ → List ℕ → List ℕ
of100 number taken figures sums = number ∷ taken ∷ (none ++ (figures ++ (none ++ sums)))

abbrev refused : ℕ → ℕ → ℕ → List ℕ
refused number taken sum = of100 number taken none (sum ∷ 0 ∷ 0 ∷ 0 ∷ 0 ∷ 0 ∷ [])

abbrev pub Month-added-wrong : List (Row (Page × List ℕ) (List ℕ))
Month-added-wrong =
    (page 1 7, ticked 100 3) only of100 0 2 (1 ∷ 0 ∷ 0 ∷ 2 ∷ 0 ∷ 0 ∷ []) (8 ∷ 0 ∷ 0 ∷ 2 ∷ 0 ∷ 0 ∷ [])
    ∷ (page 1 7, ticked 100 3) never of100 0 2 (0 ∷ 1 ∷ 0 ∷ 2 ∷ 0 ∷ 0 ∷ []) (7 ∷ 1 ∷ 0 ∷ 2 ∷ 0 ∷ 0 ∷ [])  -- a ledger kept from the capture before
    ∷ (page 1 7, ticked 100 3) never of100 0 2 (8 ∷ 0 ∷ 0 ∷ 2 ∷ 0 ∷ 0 ∷ []) (8 ∷ 0 ∷ 0 ∷ 2 ∷ 0 ∷ 0 ∷ [])  -- sums told as the capture's figures
    ∷ (page 1 7, ticked 100 3) never of100 0 2 (1 ∷ 0 ∷ 0 ∷ 2 ∷ 0 ∷ 0 ∷ []) (1 ∷ 0 ∷ 0 ∷ 2 ∷ 0 ∷ 0 ∷ [])  -- the last capture's figures for the sums
    ∷ (page 499 0, ticked 100 3 ++ ticked 100 3) only of100 0 500 (1 ∷ 1 ∷ 0 ∷ 2 ∷ 0 ∷ 0 ∷ []) (1 ∷ 1 ∷ 0 ∷ 2 ∷ 0 ∷ 0 ∷ [])  -- repeated not counted as received; a 500th capture
    ∷ (page 500 0, ticked 100 3) only refused 27 500 0
    ∷ (page 500 18446744073709551615, ticked 100 3) only refused 27 500 18446744073709551615  -- 27 before 28
    ∷ (page 1 18446744073709551615, ticked 100 3) never of100 0 2 (1 ∷ 0 ∷ 0 ∷ 2 ∷ 0 ∷ 0 ∷ []) (0 ∷ 0 ∷ 0 ∷ 2 ∷ 0 ∷ 0 ∷ [])  -- a sum that rolls over
    ∷ (page 1 18446744073709551615, ticked 100 3) never of100 28 1 (1 ∷ 0 ∷ 0 ∷ 2 ∷ 0 ∷ 0 ∷ []) (18446744073709551615 ∷ 0 ∷ 0 ∷ 0 ∷ 0 ∷ 0 ∷ [])  -- figures of a refused capture
    ∷ (page 1 18446744073709551615, ticked 100 3) only refused 28 1 18446744073709551615
    ∷ (page 1 18446744073709551614, ticked 100 3) only of100 0 2 (1 ∷ 0 ∷ 0 ∷ 2 ∷ 0 ∷ 0 ∷ []) (18446744073709551615 ∷ 0 ∷ 0 ∷ 2 ∷ 0 ∷ 0 ∷ [])
    ∷ (page 0 0, ticked 100 257) only of100 0 1 (0 ∷ 0 ∷ 1 ∷ 257 ∷ 0 ∷ 0 ∷ []) (0 ∷ 0 ∷ 1 ∷ 257 ∷ 0 ∷ 0 ∷ [])  -- far is no reception, and its number is missing
    ∷ (page 0 0, announced 100 5 ++ announced 100 3) only of100 0 1 (0 ∷ 0 ∷ 0 ∷ 5 ∷ 0 ∷ 0 ∷ []) (0 ∷ 0 ∷ 0 ∷ 5 ∷ 0 ∷ 0 ∷ [])  -- not by the last announcement
    ∷ (page 0 0, asked 100 0 ++ (asked 100 0 ++ (asked 100 4 ++ (asked 100 3 ++ asked 102 0)))) only of100 0 1 (0 ∷ 0 ∷ 0 ∷ 0 ∷ 2 ∷ 1 ∷ []) (0 ∷ 0 ∷ 0 ∷ 0 ∷ 2 ∷ 1 ∷ [])  -- a P002 by its channel and status, 0 told from 4
    ∷ (page 0 0, ticked 100 1 ++ (ticked 100 2 ++ (announced 100 5 ++ (asked 100 0 ++ asked 100 4)))) only of100 0 1 (2 ∷ 0 ∷ 0 ∷ 3 ∷ 1 ∷ 1 ∷ []) (2 ∷ 0 ∷ 0 ∷ 3 ∷ 1 ∷ 1 ∷ [])  -- a P002 offered to the ledger: it would give up 3 to 5
    ∷ (page 0 0, ticked 101 1 ++ ticked 100 3) only (0 ∷ 1 ∷ ((1 ∷ 0 ∷ 0 ∷ 0 ∷ 0 ∷ 0 ∷ []) ++ ((1 ∷ 0 ∷ 0 ∷ 2 ∷ 0 ∷ 0 ∷ []) ++ ((1 ∷ 0 ∷ 0 ∷ 0 ∷ 0 ∷ 0 ∷ []) ++ (1 ∷ 0 ∷ 0 ∷ 2 ∷ 0 ∷ 0 ∷ [])))))  -- a figure in another channel's row
    ∷ (page 0 0, 0xFF ∷ ticked 100 1) only of100 0 1 (1 ∷ 0 ∷ 0 ∷ 0 ∷ 0 ∷ 0 ∷ []) (1 ∷ 0 ∷ 0 ∷ 0 ∷ 0 ∷ 0 ∷ [])  -- a frame behind damage is counted once
    ∷ (page 0 0, ticked 102 1) only of100 0 1 none none  -- a channel that is not named
    ∷ (page 0 0, []) only of100 0 1 none none  -- no byte is a capture too
    ∷ (page 501 0, []) only refused 13 501 0  -- a page that breaks its rules
    ∷ []

pub Month-added-rules-out : RulesOut (Kept _ month-added-kinds.ps month-added-kinds.r month-added.Post) (λ c. (page_in c.args.0, c.args.1.0.now)) (λ c. told (added_paper c.result) c.result.page) Month-added-wrong
unfolding plain_of frame_of checked read_of body_read numeral digits_of laid sum8 sum_of kind_of suits measure_of p001_ok p002_ok layout_of suits_tail tail_ok m201_ok fields_ok real_time real_parts days_in leap judge_of view_of run tally count_trailing_zeros range_rules map_rules sound_of has ledger.own_number ledger.checked_of ledger.number_to ledger.passes ledger.taken ledger.raised ledger.done ledger.next_of ledger.fresh ledger.values_of ledger.answer_to trace words.received words.given_up words.settled words.offers words.known_top words.missing words.ticks words.count least after next found noted sights_of frames_in reads_of refusal_of seen_of says_of calls_by calls_from calls_of ticks_answered resent figures_of figure_of tabled all_below channels_right sums_right page-spec.sound_of figure_at number_to figures_told nothing_told answer_to counted next_of
Month-added-rules-out =
    ruled lists (λ (i : Page × List ℕ). told (answer_to i.0 i.1) (month_of (next_of i.0 i.1))) (λ c p. ap₂ told p.0 p.1) _ refl
