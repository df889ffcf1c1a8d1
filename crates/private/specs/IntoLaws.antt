-- Scrubbing into another buffer: when each number is given, and that what stands there is what
-- scrubbing leaves of the frame where it stands.
use Rattle.std.specs.Prelude.{ℕ, ◌+◌, ◌<◌, ◌≤◌, ◌≡◌, List}
use Rattle.std.proofs.Common.{ne_eqb}
use Rattle.frame_spec.specs.Frame.{body_length, read_of}
use Rattle.private.specs.Into.{into_answer, into_leaves}

-- and of one that does not
module _ (s : List ℕ) (ne : (read_of s).number ≡ 0 → ⊥) where
  pub into_passed : (to len : ℕ) → into_answer s to len ≡ read_of s
  unfolding into_answer
  into_passed to len = rw (ne_eqb (read_of s).number 0 ne)

  pub into_kept : (to : ℕ) (d : List ℕ) → into_leaves s to d ≡ d
  unfolding into_leaves
  into_kept to d = rw (ne_eqb (read_of s).number 0 ne)

-- EACH NUMBER IS GIVEN EXACTLY WHEN

-- which facts stand behind a number m
pub data Into (s : List ℕ) (to len m : ℕ) : Type 0 where
  i_passed : m ≡ (read_of s).number → ((read_of s).number ≡ 0 → ⊥) → Into s to len m
  i_lacks : m ≡ 8 → (read_of s).number ≡ 0 → len < to + (28 + body_length s) → Into s to len m
  i_done : m ≡ 0 → (read_of s).number ≡ 0 → to + (28 + body_length s) ≤ len → Into s to len m
