-- The ledger's state in document 01's numbers, and its state rules.
use Rattle.std.specs.Prelude.{◌≡◌, refl, Bool, true, false, ◌&&◌, not, ℕ, ◌+◌, ◌-◌, ◌/◌, ◌^◌, ◌≤◌, ◌<◌, min, eqb, leb, ltb}
use Rattle.tick_map.specs.Bits.{bit, is_set}

-- the pending request: none, or the range that was granted
pub data Asked : Type 0 where
  nothing : Asked
  range : (first last : ℕ) → Asked

-- bits: the held numbers as one number, whose digit i stands for floor + 1 + i
pub record Book : Type 0 where
  pub channel : ℕ
  pub floor : ℕ
  pub top : ℕ
  pub bits : ℕ
  pub pending : Asked

-- ---- what a state says of a number

abbrev pub or_else : Bool → Bool → Bool
or_else true b = true
or_else false b = b

-- the largest number of 18 digits
abbrev pub largest : ℕ
largest = 999999999999999999

pub largest_is : largest + 1 ≡ 10 ^ 18
largest_is = refl

-- settled: up to the floor, where each is received or given up, or held above it
unfoldable pub has : Book → ℕ → Bool
has b n = or_else (leb n b.floor) (is_set b.bits (n - b.floor - 1))

-- ---- the state rules, as a test

-- a pending request: the bounds of its start, of its end, and its 200 numbers at most
-- (document 01, Ledger, paragraph 1)
unfoldable pub range_rules : Asked → ℕ → ℕ → Bool
range_rules nothing floor top = true
range_rules (range first last) floor top = leb 1 first && (leb first (floor + 1) && (leb first last && (leb last top && ltb last (first + 200))))

-- neither floor + 1 nor a number above the top is held, where `known` numbers lie above the floor
-- and not above the top; the map has 256 places
unfoldable pub map_rules : ℕ → ℕ → Bool
map_rules bits known = not (is_set bits 0) && eqb (bits / 2 ^ min known 256) 0

-- the state rules: the bounds of channel, floor and top, and the two above (document 01, Ledger,
-- paragraph 1)
unfoldable pub sound_of : Book → Bool
sound_of b =
    leb b.channel 9999 && (leb b.floor b.top && (leb b.top largest
    && (map_rules b.bits (b.top - b.floor) && range_rules b.pending b.floor b.top)))

-- ---- the state rules, as facts: docs/STATES.md tells them

pub record RangeRules (first last floor top : ℕ) : Type 0 where
  pub starts : 1 ≤ first
  pub starts_low : first ≤ floor + 1
  pub ends : first ≤ last
  pub ends_low : last ≤ top
  pub short : last < first + 200

pub record StateRules (b : Book) : Type 0 where
  pub channel_small : b.channel ≤ 9999
  pub low : b.floor ≤ b.top
  pub top_small : b.top ≤ largest
  pub places : b.bits < 2 ^ 256
  pub next_not_held : bit b.bits 0 ≡ 0
  pub none_above : (n : ℕ) → b.top < n → has b n ≡ false
  pub range_right : (first last : ℕ) → b.pending ≡ range first last → RangeRules first last b.floor b.top
