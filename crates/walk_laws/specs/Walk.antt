-- The walk over a capture: which places are read, and what is read there.
use Rattle.std.specs.Prelude.{ℕ, zero, suc, ◌+◌, ◌-◌, List, [], ◌∷◌, ◌++◌}

-- what a reading says to the walk: a frame of n bytes, bytes are missing, or no frame
pub data Says : Type 0 where
  frame : ℕ → Says
  more : Says
  bad : Says

-- one reading of the walk: its place, and what was read there
pub record Sight (R : Type 0) : Type 0 where
  pub place : ℕ
  pub read : R

-- what a byte is to the walk: inside an accepted frame with k bytes of it to come, this one among
-- them; or passed over by the search (`within zero` is the start of a reading)
pub data Mode : Type 0 where
  within : ℕ → Mode
  seeking : Mode

-- behind the first byte of a place that was read or tried
unfoldable pub after : Says → Mode
after (frame n) = within (n - 1)
after more = seeking
after bad = seeking

-- the mode at the next byte, where reading at this byte says w
unfoldable pub next : Mode → Says → Mode
next (within zero) w = after w
next (within (suc k)) w = within k
next seeking w = after w

-- what the walk notes at this byte: a reading at the start of a frame, whatever it says; in a
-- search only a frame
unfoldable pub found : {R : Type 0} → Says → ℕ → R → List (Sight R)
found (frame n) p r = record { place = p; read = r } ∷ []
found more p r = []
found bad p r = []

unfoldable pub noted : {R : Type 0} → Mode → Says → ℕ → R → List (Sight R)
noted (within zero) w p r = record { place = p; read = r } ∷ []
noted (within (suc k)) w p r = []
noted seeking w p r = found w p r

module _ {R : Type 0} (read_of : List ℕ → R) (says_of : R → Says) where
  -- the readings of a closed capture, whose bytes from the place p on are s
  unfoldable pub sights_of : Mode → ℕ → List ℕ → List (Sight R)
  sights_of m p [] = []
  sights_of m p (b ∷ s) = noted m (says_of (read_of (b ∷ s))) p (read_of (b ∷ s)) ++ sights_of (next m (says_of (read_of (b ∷ s)))) (p + 1) s
