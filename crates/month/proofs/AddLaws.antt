-- Adding a capture: the rows' figures are those of the capture, and what each answer leaves.
-- Assumes nothing.
use Prim.Native.Nat.{ℕ, ◌+◌, ◌*◌, ◌/◌, ◌%◌, ◌≤◌, ◌<◌}
use mathlib.Core.Path.{◌≡◌, refl, sym, ap, ◌∙◌}
use mathlib.Core.Bool.{Bool, true, false}
use mathlib.Core.Logic.{⊎_elim}
use mathlib.Core.List.{List, [], ◌∷◌}
use native.Mathlib.Omega.{arith}
use lib.Dec.{leb}
use lib.ListN.{get_or}
use borrow.Author.Tests.{lt-ltb, le-ltb}
use Rattle.terms.specs.Cases.{less}
use Rattle.terms.specs.Paper.{Paper, answer, pick}
use Rattle.std.specs.Prelude.{Ok, Some, None}
use Rattle.terms.specs.Refusals.{number_of, refusal_not_0}
use Rattle.terms.specs.declared.Refusal.{Refusal}
use Rattle.terms.specs.declared.Refusal.TheVariants.{State, Captures, Sums}
use Rattle.ledger_spec.specs.State.{Book}
use Rattle.ledger_spec.specs.Calls as ledger
use Rattle.ledger_spec.specs.Calls.{Ask, Missing}
use Rattle.ledger_spec.specs.Trace.{none, after, trace}
use Rattle.ledger_spec.specs.Words.{value_at}
use Rattle.ledger_spec.proofs.Agree.{agrees}
use Rattle.ledger.specs.State.{book_of, ledger_of}
use Rattle.ledger.proofs.Seam.{book_of_lem}
use Rattle.reading.specs.declared.Seen.{Seen}
use Rattle.clean_spec.specs.Figures.{calls_made}
use Rattle.month_spec.specs.Figures.{ticks_answered, resent, Figures, figures_by, reads_in, numbers_in, figure_of}
use Rattle.month_spec.specs.Page.{Page, captures, figures_in_all, highest, tabled, all_below, sound_of, PageRules}
use Rattle.month_spec.specs.Calls.{figure_at, sum_fits, number_to, figures_told, nothing_told, answer_to, counted, next_of}
use Rattle.month_spec.proofs.Lists.{get_d_tabled, tabled_same, all_same}
use Rattle.month_spec.proofs.Counted.{figures_reads, missing_is}
use Rattle.month_spec.proofs.Given.{figure_place, figure_unnamed, broken_is, full_is, passes_is, done_is}
use Rattle.month.specs.declared.Month.{Month}
use Rattle.month.specs.declared.Added.{Added}
use Rattle.month.specs.declared.Row.{Row}
use Rattle.month.specs.State.{page_in, month_of, added_paper, no_figures, refused_with, sum_in, sum_fits_in}
use Rattle.month.specs.Naming.{Naming}
use Rattle.month.specs.Rows.{row_after, Kept, row_numbers, no_row, row_figure, row_figures}

-- ---- a row's figures

module _ (channel : ℕ) (small : channel ≤ 9999) (xs : List Seen) where
  missing_row : value_at (ledger.answer_to (book_of (ledger_of (after channel (calls_made none xs)))) (Ask Missing)) 0 ≡ (figures_by channel xs).missing
  missing_row =
      ap (λ (b : Book). value_at (ledger.answer_to b (Ask Missing)) 0) (book_of_lem (after channel (calls_made none xs)) (agrees channel small (calls_made none xs)).rules.places)
      ∙ ap (λ (p : Paper). value_at p 0) (missing_is channel small xs)

  row_numbers_lem : row_numbers (row_after channel xs) ≡ numbers_in (figures_by channel xs)
  unfolding row_after figures_by
  row_numbers_lem =
      ap
      (λ (m : ℕ).
      ticks_answered 0 (trace channel (calls_made none xs))
      ∷ ticks_answered 11 (trace channel (calls_made none xs))
      ∷ ticks_answered 12 (trace channel (calls_made none xs))
      ∷ m
      ∷ resent channel 0 xs
      ∷ resent channel 4 xs
      ∷ [])
      missing_row

-- ---- all rows

pub naming_of : (p : Page) → PageRules p → Naming p.channels p.named
naming_of p r = record { few = r.named_few; long = r.channel_places; small = r.small; apart = r.apart }

module _ (p : Page) (s : List ℕ) (r : PageRules p) (rows : List Row) (k : Kept p.channels p.named (reads_in s) rows) where
  row_figure_lem : (i : ℕ) → i < 6 * p.named → row_figure rows i ≡ figure_of (get_or p.channels (i / 6) 0) s (i % 6)
  unfolding figure_of
  row_figure_lem i h =
      let l : i / 6 < p.named = omega arith in
      let c = get_or p.channels (i / 6) 0 in
      ap (λ (row : Row). get_or (row_numbers row) (i % 6) 0) (k.row_is (i / 6) no_row l)
      ∙ ap (λ (ns : List ℕ). get_or ns (i % 6) 0) (row_numbers_lem c (r.small (i / 6) l) (reads_in s))
      ∙ ap (λ (f : Figures). get_or (numbers_in f) (i % 6) 0) (sym (figures_reads c s))

  pub figures_are : row_figures rows p.named ≡ figures_told p s
  unfolding row_figures figures_told
  figures_are =
      tabled_same _ _ figures_in_all
      (λ i l.
      ⊎_elim (λ (h : i < 6 * p.named). rw (lt-ltb i (6 * p.named) h) (row_figure_lem i h ∙ sym (figure_place p s i h)))
      (λ (h : 6 * p.named ≤ i). rw (le-ltb i (6 * p.named) h) (sym (figure_unnamed p s i h)))
      (less i (6 * p.named)))

-- ---- figures and sums

module _ (p : Page) (s : List ℕ) (figures : List ℕ) (is : figures ≡ figures_told p s) where
  at : (k : ℕ) → k < figures_in_all → get_or figures k 0 ≡ figure_at p s k
  unfolding figures_told
  at k l = ap (λ (f : List ℕ). get_or f k 0) is ∙ get_d_tabled (figure_at p s) figures_in_all k l

  pub fits_same : all_below (sum_fits_in p.sums figures) figures_in_all ≡ all_below (sum_fits p s) figures_in_all
  fits_same = all_same _ _ figures_in_all (λ k l. ap (λ (x : ℕ). leb (get_or p.sums k 0 + x) highest) (at k l))

  sums_are : tabled (sum_in p.sums figures) figures_in_all ≡ tabled (λ k. get_or p.sums k 0 + figure_at p s k) figures_in_all
  sums_are = tabled_same _ _ figures_in_all (λ k l. ap (λ (x : ℕ). get_or p.sums k 0 + x) (at k l))

  pub page_counted : (sums : List ℕ) → sums ≡ tabled (sum_in p.sums figures) figures_in_all
      → ◌≡◌ {A = Month} (record { channels = p.channels; named = p.named; taken = p.taken + 1; sums = sums }) (month_of (counted p s))
  unfolding counted
  page_counted sums e = rw (e ∙ sums_are)

-- whether there are sums, and which
pub sums_none : (b : Bool) (sums : List ℕ) → None ≡ pick b (Some sums) None → b ≡ false
sums_none false sums e = refl
sums_none true sums e = cc

pub sums_some : (b : Bool) (sums told : List ℕ) → Some told ≡ pick b (Some sums) None → (b ≡ true) × (told ≡ sums)
sums_some true sums told e = (refl, cc)
sums_some false sums told e = cc

-- ---- what each answer leaves

abbrev pub Answers : Month → List ℕ → Added → Type 0
Answers m s r = (added_paper r ≡ answer_to (page_in m) s) × (r.page ≡ month_of (next_of (page_in m) s))

module _ (m : Month) (s : List ℕ) where
  refused_answer : (w : Refusal) → number_to (page_in m) s ≡ number_of w → Answers m s (refused_with m w)
  unfolding no_figures answer_to nothing_told next_of
  refused_answer w e = rw (e, refusal_not_0 w) (refl, refl)

  leaves : (w : Refusal) (r : Added) → number_to (page_in m) s ≡ number_of w → r ≡ refused_with m w → Answers m s r
  leaves w r e is = rw is (refused_answer w e)

  pub leaves_13 : (r : Added) → sound_of (page_in m) ≡ false → r ≡ refused_with m State → Answers m s r
  leaves_13 r f is = leaves State r (broken_is (page_in m) s f) is

  pub leaves_27 : (r : Added) → sound_of (page_in m) ≡ true → captures ≤ m.taken → r ≡ refused_with m Captures → Answers m s r
  leaves_27 r t h is = leaves Captures r (full_is (page_in m) s t h) is

  pub leaves_28 : (r : Added) → sound_of (page_in m) ≡ true → m.taken < captures → all_below (sum_fits (page_in m) s) figures_in_all ≡ false → r ≡ refused_with m Sums → Answers m s r
  leaves_28 r t h f is = leaves Sums r (passes_is (page_in m) s t h f) is

  pub leaves_0 : (figures : List ℕ) (next : Month) → sound_of (page_in m) ≡ true → m.taken < captures → all_below (sum_fits (page_in m) s) figures_in_all ≡ true
      → figures ≡ figures_told (page_in m) s → next ≡ month_of (counted (page_in m) s)
      → Answers m s (record { answer = Ok figures; page = next })
  unfolding answer_to next_of
  leaves_0 figures next t h f is e = rw (done_is (page_in m) s t h f) (ap (answer 0) is, e)
