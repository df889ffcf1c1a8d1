-- Request 11: the page over a month of captures. Its state, and the rules of that state: as a test,
-- and as the facts that docs/STATES.md tells.
use Rattle.std.specs.Prelude.{ℕ, zero, suc, ◌+◌, ◌*◌, ◌^◌, ◌≤◌, ◌<◌, ◌≡◌, refl, Bool, true, ◌&&◌, List, [], ◌∷◌, eqb, leb, ltb, length, get_or}
use Rattle.terms.specs.Paper.{pick}
use Rattle.channels_spec.specs.Table.{least}

-- the channels at 32 places, of which the first `named` are named; how many captures were taken;
-- the sums, six for each place in the order of the figures
pub record Page : Type 0 where
  pub channels : List ℕ
  pub named : ℕ
  pub taken : ℕ
  pub sums : List ℕ

-- "up to 500 captures", "up to 32 channels", "64 bits"
abbrev pub captures : ℕ
captures = 500

abbrev pub places : ℕ
places = 32

abbrev pub figures_in_all : ℕ
figures_in_all = 192

pub six_each : 6 * places ≡ figures_in_all
six_each = refl

abbrev pub highest : ℕ
highest = 18446744073709551615

pub highest_is : highest + 1 ≡ 2 ^ 64
highest_is = refl

-- ---- rows of numbers

-- f 0, f 1, f 2 and so on: n of them
unfoldable pub tabled : (ℕ → ℕ) → ℕ → List ℕ
tabled f zero = []
tabled f (suc n) = f 0 ∷ tabled (λ i. f (suc i)) n

-- all numbers below n are so
unfoldable pub all_below : (ℕ → Bool) → ℕ → Bool
all_below so zero = true
all_below so (suc n) = all_below so n && so n

-- the lowest of the first n places that has this channel; n where none has it
abbrev pub place_in : List ℕ → ℕ → ℕ → ℕ
place_in channels n channel = least (λ i. eqb (get_or channels i 0) channel) n

-- ---- the state rules, as a test

-- a named place: a channel of at most four digits, that no place before it has; an unnamed one: 0
abbrev pub place_right : List ℕ → ℕ → ℕ → Bool
place_right channels named i =
    pick (ltb i named) (leb (get_or channels i 0) 9999 && eqb (place_in channels i (get_or channels i 0)) i) (eqb (get_or channels i 0) 0)

-- a sum of an unnamed place is 0
abbrev pub sum_right : List ℕ → ℕ → ℕ → Bool
sum_right sums named k = pick (ltb k (6 * named)) true (eqb (get_or sums k 0) 0)

unfoldable pub channels_right : List ℕ → ℕ → Bool
channels_right channels named = eqb (length channels) places && all_below (place_right channels named) places

unfoldable pub sums_right : List ℕ → ℕ → Bool
sums_right sums named = eqb (length sums) figures_in_all && all_below (sum_right sums named) figures_in_all

unfoldable pub sound_of : Page → Bool
sound_of p = leb p.named places && (leb p.taken captures && (channels_right p.channels p.named && sums_right p.sums p.named))

-- ---- the state rules, as facts

pub record PageRules (p : Page) : Type 0 where
  pub named_few : p.named ≤ places
  pub taken_few : p.taken ≤ captures
  pub channel_places : length p.channels ≡ places
  pub sum_places : length p.sums ≡ figures_in_all
  pub small : (i : ℕ) → i < p.named → get_or p.channels i 0 ≤ 9999
  pub apart : (i j : ℕ) → i < p.named → j < p.named → get_or p.channels i 0 ≡ get_or p.channels j 0 → i ≡ j
  pub no_name : (i : ℕ) → p.named ≤ i → i < places → get_or p.channels i 0 ≡ 0
  pub no_sum : (k : ℕ) → 6 * p.named ≤ k → k < figures_in_all → get_or p.sums k 0 ≡ 0

-- ---- a page just started

-- with these channels, and nothing taken
unfoldable pub page_of : List ℕ → Page
page_of cs = record { channels = tabled (λ i. get_or cs i 0) places; named = length cs; taken = 0; sums = tabled (λ k. 0) figures_in_all }
