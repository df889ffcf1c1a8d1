-- The page's calls in the papers' numbers: what starting and adding a capture are answered, and the
-- page after them. Document 02, request 11.
use Rattle.std.specs.Prelude.{ℕ, ◌+◌, ◌*◌, ◌/◌, ◌%◌, Bool, not, List, [], ◌∷◌, ◌++◌, eqb, leb, ltb, length, get_or}
use Rattle.terms.specs.Paper.{Paper, answer, pick}
use Rattle.ledger_spec.specs.Calls.{fresh}
use Rattle.channels_spec.specs.Table.{free, holds, Table}
use Rattle.channels_spec.specs.Calls.{opening_number}
use Rattle.month_spec.specs.Figures.{figure_of}
use Rattle.month_spec.specs.Page.{Page, captures, figures_in_all, highest, tabled, all_below, sound_of, page_of}

-- ======== Starting: 10, 22, 21, as CR 3 opens a channel

-- the channels named so far as CR 3's open ones
abbrev pub table_naming : List ℕ → Table
table_naming cs = record { place = λ i. pick (ltb i (length cs)) (holds (fresh (get_or cs i 0))) free; last = 31 }

-- what one more channel is answered
abbrev pub naming_number : List ℕ → ℕ → ℕ
naming_number cs channel = opening_number (table_naming cs) channel

-- channel by channel in the order given: the first one refused answers
unfoldable pub start_from : List ℕ → List ℕ → ℕ
start_from before [] = 0
start_from before (c ∷ cs) = pick (eqb (naming_number before c) 0) (start_from (before ++ (c ∷ [])) cs) (naming_number before c)

unfoldable pub start_number : List ℕ → ℕ
start_number cs = start_from [] cs

-- beside a refusal stands a page with no channel
unfoldable pub start_page : List ℕ → Page
start_page cs = pick (eqb (start_number cs) 0) (page_of cs) (page_of [])

-- ======== Adding a capture

-- figure number k of a capture: six for each place; those of an unnamed place are 0
unfoldable pub figure_at : Page → List ℕ → ℕ → ℕ
figure_at p s k = pick (ltb k (6 * p.named)) (figure_of (get_or p.channels (k / 6) 0) s (k % 6)) 0

-- "28 for a sum that would pass 64 bits": it does not
abbrev pub sum_fits : Page → List ℕ → ℕ → Bool
sum_fits p s k = leb (get_or p.sums k 0 + figure_at p s k) highest

-- 13, then 27 for a 501st capture, then 28
unfoldable pub number_to : Page → List ℕ → ℕ
number_to p s = pick (not (sound_of p)) 13 (pick (leb captures p.taken) 27 (pick (all_below (sum_fits p s) figures_in_all) 0 28))

-- this capture's figures; of a refused one none is told
unfoldable pub figures_told : Page → List ℕ → List ℕ
figures_told p s = tabled (figure_at p s) figures_in_all

unfoldable pub nothing_told : List ℕ
nothing_told = tabled (λ k. 0) figures_in_all

unfoldable pub answer_to : Page → List ℕ → Paper
answer_to p s = answer (number_to p s) (pick (eqb (number_to p s) 0) (figures_told p s) nothing_told)

-- the page with the capture counted
unfoldable pub counted : Page → List ℕ → Page
counted p s =
    record {
      channels = p.channels;
      named = p.named;
      taken = p.taken + 1;
      sums = tabled (λ k. get_or p.sums k 0 + figure_at p s k) figures_in_all;
    }

-- "the page so far stays"
unfoldable pub next_of : Page → List ℕ → Page
next_of p s = pick (eqb (number_to p s) 0) (counted p s) p
