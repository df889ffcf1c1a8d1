-- What the functions over two parts need of each other.
use Rattle.std.specs.Prelude.{◌≡◌, ℕ, ◌+◌, ◌<◌, ◌≤◌, Bool, true, false, List, length, take, nat_le}
use Rattle.terms.specs.Paper.{pick}
use Rattle.frame_spec.specs.Frame.{body_length, Whole}
use Rattle.reading.specs.Seen.{seen_of, seen_number}

-- how many bytes are wanted by the frame that h begins: its header, and then all that this tells
unfoldable pub wanted_by : List ℕ → ℕ
wanted_by h = pick (nat_le 24 (length h)) (28 + body_length h) 24

-- the first r bytes of e are the first of s, as many as n
pub record Gathers (n : ℕ) (s e : List ℕ) (r : ℕ) : Type 0 where
  pub inside : r ≤ length e
  pub same : take r e ≡ take n s

-- s begins with a frame of more than 512 bytes that is there as a whole, and front has the first
-- 512 of them
pub record Long (front s : List ℕ) : Type 0 where
  pub begins : front ≡ take 512 s
  pub whole : Whole s
  pub big : 512 < 28 + body_length s

-- what the front of s tells of it: the reading, or that bytes are missing of the front alone
abbrev pub Tells : Bool → List ℕ → List ℕ → Type 0
Tells true front s = seen_of front ≡ seen_of s
Tells false front s = (seen_number (seen_of front) ≡ 1) × (wanted_by front ≤ length s)
