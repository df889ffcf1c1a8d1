-- The code's page is the page, field by field; its answers in the papers' numbers.
use Rattle.std.specs.Prelude.{ℕ, ◌+◌, Bool, List, leb, get_or, Result, Ok, Err}
use Rattle.terms.specs.Paper.{Paper, answer}
use Rattle.terms.specs.Refusals.{number_of}
use Rattle.terms.specs.declared.Refusal.{Refusal}
use Rattle.month_spec.specs.Page.{Page, figures_in_all, highest, tabled}
use Rattle.month.specs.declared.Month.{Month}
use Rattle.month.specs.declared.Added.{Added}

abbrev pub page_in : Month → Page
page_in m = record { channels = m.channels; named = m.named; taken = m.taken; sums = m.sums }

abbrev pub month_of : Page → Month
month_of p = record { channels = p.channels; named = p.named; taken = p.taken; sums = p.sums }

-- 192 zeros
unfoldable pub no_figures : List ℕ
no_figures = tabled (λ k. 0) figures_in_all

-- number, then the 192 figures: beside a refusal all of them are 0
abbrev pub figures_paper : Result (List ℕ) Refusal → Paper
figures_paper (Ok figures) = answer 0 figures
figures_paper (Err why) = answer (number_of why) no_figures

abbrev pub added_paper : Added → Paper
added_paper a = figures_paper a.answer

unfoldable pub empty_with : List ℕ → ℕ → Month
empty_with channels named = record { channels = channels; named = named; taken = 0; sums = no_figures }

abbrev pub refused_with : Month → Refusal → Added
refused_with m why = record { answer = Err why; page = m }

-- a sum with its figure, and whether it fits
abbrev pub sum_in : List ℕ → List ℕ → ℕ → ℕ
sum_in sums figures k = get_or sums k 0 + get_or figures k 0

abbrev pub sum_fits_in : List ℕ → List ℕ → ℕ → Bool
sum_fits_in sums figures k = leb (sum_in sums figures k) highest
