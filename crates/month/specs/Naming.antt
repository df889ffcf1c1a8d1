-- The channels that a page names, and hints at their places.
use Rattle.std.specs.Prelude.{ℕ, ◌%◌, ◌≤◌, ◌<◌, ◌≡◌, List, length, get_or}
use Rattle.month_spec.specs.Page.{places}

-- channels as the page's rules have them
pub record Naming (channels : List ℕ) (named : ℕ) : Type 0 where
  pub few : named ≤ places
  pub long : length channels ≡ places
  pub small : (i : ℕ) → i < named → get_or channels i 0 ≤ 9999
  pub apart : (i j : ℕ) → i < named → j < named → get_or channels i 0 ≡ get_or channels j 0 → i ≡ j

-- hints by low bytes: that of each of the first j channels names some named place
pub record Hints (channels : List ℕ) (named j : ℕ) (hints : List ℕ) : Type 0 where
  pub all_bytes : length hints ≡ 256
  pub hinted : (k : ℕ) → k < j → get_or hints (get_or channels k 0 % 256) 0 < named

-- a hint for a channel: a named place where the channel is named at all
abbrev pub Hinted : List ℕ → ℕ → ℕ → ℕ → Type 0
Hinted channels named channel hint = (k : ℕ) → k < named → get_or channels k 0 ≡ channel → hint < named
