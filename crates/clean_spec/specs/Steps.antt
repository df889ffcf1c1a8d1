-- One step of the pass over a capture.
use Rattle.std.specs.Prelude.{ℕ, ◌+◌, ◌≤◌, List}
use Rattle.walk_spec.specs.Onward.{Goes}

-- r is the place of the next reading behind the one at p, or the end; and the size bytes of its
-- frame, if it is one, lie before r
pub record Steps (s : List ℕ) (p size r : ℕ) : Type 0 where
  pub goes : Goes s p r
  pub past : p + size ≤ r
