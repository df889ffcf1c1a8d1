-- A page as a host keeps it: 226 words. What a call on them answers and tells, and the words
-- after it.
use Rattle.std.specs.Prelude.{ℕ, ◌+◌, ◌-◌, ◌≤◌, ◌<◌, min, ◌≡◌, List, eqb, ltb, length, get_or}
use Rattle.terms.specs.Paper.{Paper, pick}
use Rattle.month_spec.specs.Page.{Page, places, figures_in_all, tabled, page_of}
use Rattle.month_spec.specs.Calls.{start_number, number_to, answer_to, next_of}

-- THE WORDS: 32 channels, how many are named, how many captures were taken, 192 sums

abbrev pub word_at : Page → ℕ → ℕ
word_at p i = pick (ltb i 32) (get_or p.channels i 0) (pick (eqb i 32) p.named (pick (eqb i 33) p.taken (get_or p.sums (i - 34) 0)))

unfoldable pub words_of : Page → List ℕ
words_of p = tabled (word_at p) 226

-- the page that they stand for, sound or not; a channel above two bytes stands for 65,535, which
-- breaks the rules at every place
unfoldable pub channels_in : List ℕ → List ℕ
channels_in w = tabled (λ i. min (get_or w i 0) 65535) places

unfoldable pub sums_in : List ℕ → List ℕ
sums_in w = tabled (λ k. get_or w (34 + k) 0) figures_in_all

unfoldable pub page_words : List ℕ → Page
page_words w = record { channels = channels_in w; named = get_or w 32 0; taken = get_or w 33 0; sums = sums_in w }

-- how the words are laid: channels in front, then the sums behind the first 34
pub record Fronted (channels row : List ℕ) : Type 0 where
  pub long : length row ≡ 226
  pub channel : (i : ℕ) → i < 32 → get_or row i 0 ≡ get_or channels i 0

pub record Laid (front sums row : List ℕ) : Type 0 where
  pub long : length row ≡ 226
  pub before : (i : ℕ) → i < 34 → get_or row i 0 ≡ get_or front i 0
  pub sum : (k : ℕ) → k < 192 → get_or row (34 + k) 0 ≡ get_or sums k 0

-- THE CALLS: a refusal leaves the words as they were

unfoldable pub start_words : List ℕ → List ℕ → List ℕ
start_words cs w = pick (eqb (start_number cs) 0) (words_of (page_of cs)) w

unfoldable pub words_after : List ℕ → List ℕ → List ℕ
words_after w s = pick (eqb (number_to (page_words w) s) 0) (words_of (next_of (page_words w) s)) w
