-- For each function that a host may call on a page: wrong answers that its promise rules out, as
-- tables of what is given and what is then wrong. Assumes nothing.
use Prim.Native.Nat.{ℕ}
use mathlib.Core.Path.{◌≡◌, refl, ap₂}
use mathlib.Core.List.{List, [], ◌∷◌, ◌++◌}
use lib.Count.{count_trailing_zeros}
use lib.ListN.{get_or, replicate}
use Rattle.terms.specs.Paper.{Paper}
use Rattle.terms.specs.Refusals.{refusal_of}
use Rattle.terms.specs.RuledOut.{Row, ◌never◌, ◌only◌, Kept, RulesOut, ruled, lists}
use Rattle.octets.specs.Octets.{numeral, digits_of, laid, sum8, sum_of}
use Rattle.calendar.specs.Calendar.{leap, days_in, real_parts, real_time}
use Rattle.rules.specs.Table.{kind_of, suits, measure_of}
use Rattle.rules.specs.Fields.{p001_ok, layout_of, suits_tail, tail_ok, m201_ok, fields_ok, judge_of}
use Rattle.frame_spec.specs.Frame.{checked, read_of, body_read}
use Rattle.frame_spec.specs.Write.{plain_of, frame_of}
use Rattle.frame_view.specs.View.{view_of}
use Rattle.tick_map.specs.Bits.{run, tally}
use Rattle.ledger_spec.specs.State.{range_rules, map_rules, sound_of, has}
use Rattle.ledger_spec.specs.Calls as ledger
use Rattle.ledger_spec.specs.Trace.{trace}
use Rattle.ledger_spec.specs.Words as words
use Rattle.channels_spec.specs.Table.{least, place_of, free_place}
use Rattle.channels_spec.specs.Calls.{opening_number}
use Rattle.walk_laws.specs.Walk.{after, next, found, noted, sights_of}
use Rattle.walk_laws.specs.Frames.{frames_in, reads_of}
use Rattle.reading.specs.Seen.{seen_of, says_of}
use Rattle.walk_spec.specs.Offers.{calls_by}
use Rattle.walk_spec.specs.Walk.{calls_from, calls_of}
use Rattle.month_spec.specs.Figures.{ticks_answered, resent, figures_of, figure_of}
use Rattle.month_spec.specs.Page as page-spec
use Rattle.month_spec.specs.Page.{tabled, all_below, channels_right, sums_right, page_of}
use Rattle.month_spec.specs.Calls.{start_from, start_number, figure_at, number_to, figures_told, nothing_told, answer_to, counted, next_of}
use Rattle.month.specs.Examples.{ticked}
use Rattle.host_words.specs.Told.{told_by, Tells}
use Rattle.host_month.specs.Words.{words_of, channels_in, sums_in, page_words, start_words, words_after}
use Rattle.host_month.proofs.rk_month_start.Reads as rk-month-start
use Rattle.host_month.proofs.rk_month_start.Kinds as rk-month-start-kinds
use Rattle.host_month.proofs.rk_month_add.Reads as rk-month-add
use Rattle.host_month.proofs.rk_month_add.Kinds as rk-month-add-kinds

-- the words of a page of channel 100 alone: captures taken, and received
abbrev page : ℕ → ℕ → List ℕ
page taken received = 100 ∷ replicate 31 0 ++ (1 ∷ taken ∷ received ∷ replicate 191 0)

-- what is looked at: the number; the first two channels, how many are named and taken, and the
-- first and the fourth sum
abbrev of_page : ℕ → List ℕ → List ℕ
of_page n w = n ∷ get_or w 0 0 ∷ get_or w 1 0 ∷ get_or w 32 0 ∷ get_or w 33 0 ∷ get_or w 34 0 ∷ get_or w 37 0 ∷ []

-- RK_MONTH_START: channels, and the words before
abbrev pub rk_month_start_wrong : List (Row (List ℕ × List ℕ) (List ℕ))
rk_month_start_wrong =
    (101 ∷ 102 ∷ [], page 9 9) only (0 ∷ 101 ∷ 102 ∷ 2 ∷ 0 ∷ 0 ∷ 0 ∷ [])  -- an old page's sums are gone
    ∷ (101 ∷ 101 ∷ [], page 9 9) only (22 ∷ 100 ∷ 0 ∷ 1 ∷ 9 ∷ 9 ∷ 0 ∷ [])  -- the words stay beside a refusal
    ∷ (10000 ∷ [], page 9 9) never (10 ∷ 0 ∷ 0 ∷ 0 ∷ 0 ∷ 0 ∷ 0 ∷ [])  -- an empty page written beside 10
    ∷ []

pub rk_month_start_rules_out : RulesOut (Kept _ rk-month-start-kinds.ps rk-month-start-kinds.r rk-month-start.Post) (λ c. (c.args.0.now, c.args.1.0.now)) (λ c. of_page c.result c.exit.1.0.now) rk_month_start_wrong
unfolding least place_of free_place opening_number ledger.fresh tabled page_of start_from start_number words_of start_words
rk_month_start_rules_out = ruled lists (λ (i : List ℕ × List ℕ). of_page (start_number i.0) (start_words i.0 i.1)) (λ c p. ap₂ of_page p.0 p.1) _ refl

-- RK_MONTH_ADD: the words, and a capture; told beside it are received and missing, lent as 7
abbrev sevens : List ℕ
sevens = replicate 192 7

abbrev added : ℕ → List ℕ → List ℕ → List ℕ
added n told w = get_or told 0 0 ∷ get_or told 3 0 ∷ of_page n w

abbrev tells : Paper → List ℕ → List ℕ → List ℕ
tells p was w = added p.number (told_by p was) w

said : {p : Paper} {was row w v : List ℕ} {n : ℕ} → Tells p was n row × (w ≡ v) → added n row w ≡ tells p was v
said {p} {was} {row} {w} {v} {n} e = rw (e.0.answered, e.0.told, e.1)

abbrev pub rk_month_add_wrong : List (Row (List ℕ × (List ℕ × List ℕ)) (List ℕ))
rk_month_add_wrong =
    (page 9 5, (ticked 100 3, sevens)) only (1 ∷ 2 ∷ 0 ∷ 100 ∷ 0 ∷ 1 ∷ 10 ∷ 6 ∷ 2 ∷ [])
    ∷ (page 9 5, (ticked 100 3, sevens)) never (6 ∷ 2 ∷ 0 ∷ 100 ∷ 0 ∷ 1 ∷ 10 ∷ 6 ∷ 2 ∷ [])  -- sums told as the capture's figures
    ∷ (page 500 5, (ticked 100 3, sevens)) only (7 ∷ 7 ∷ 27 ∷ 100 ∷ 0 ∷ 1 ∷ 500 ∷ 5 ∷ 0 ∷ [])  -- nothing is written beside 27
    ∷ (page 9 18446744073709551615, (ticked 100 3, sevens)) only (7 ∷ 7 ∷ 28 ∷ 100 ∷ 0 ∷ 1 ∷ 9 ∷ 18446744073709551615 ∷ 0 ∷ [])  -- nor beside 28
    ∷ (65636 ∷ replicate 31 0 ++ (1 ∷ 0 ∷ replicate 192 0), (ticked 100 3, sevens)) only (7 ∷ 7 ∷ 13 ∷ 65636 ∷ 0 ∷ 1 ∷ 0 ∷ 0 ∷ 0 ∷ [])  -- a channel cut to two bytes: 65,636 taken for 100
    ∷ []

pub rk_month_add_rules_out : RulesOut (Kept _ rk-month-add-kinds.ps rk-month-add-kinds.r rk-month-add.Post) (λ c. (c.args.0.now, (c.args.1.0.now, c.args.1.1.0.now))) (λ c. added c.result c.exit.1.1.0.now c.exit.0.now) rk_month_add_wrong
unfolding plain_of frame_of checked read_of body_read numeral digits_of laid sum8 sum_of kind_of suits measure_of p001_ok layout_of suits_tail tail_ok m201_ok fields_ok real_time real_parts days_in leap judge_of view_of run tally count_trailing_zeros range_rules map_rules sound_of has ledger.own_number ledger.checked_of ledger.number_to ledger.passes ledger.taken ledger.raised ledger.done ledger.next_of ledger.fresh ledger.values_of ledger.answer_to trace words.received words.given_up words.settled words.offers words.known_top words.missing words.ticks words.count least after next found noted sights_of frames_in reads_of refusal_of seen_of says_of calls_by calls_from calls_of ticks_answered resent figures_of figure_of tabled all_below channels_right sums_right page-spec.sound_of figure_at number_to figures_told nothing_told answer_to counted next_of told_by words_of channels_in sums_in page_words words_after
rk_month_add_rules_out =
    ruled lists (λ (i : List ℕ × (List ℕ × List ℕ)). tells (answer_to (page_words i.0) i.1.0) i.1.1 (words_after i.0 i.1.0)) (λ c p. said p) _ refl
