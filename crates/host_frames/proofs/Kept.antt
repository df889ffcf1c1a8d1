-- What a refusal of scrubbing leaves: the frame as it was. Assumes nothing.
use mathlib.Core.Path.{◌≡◌}
use mathlib.Core.Bool.{true, false}
use mathlib.Core.Logic.{⊎_elim}
use mathlib.Core.List.{List}
use Prim.Native.Nat.{ℕ}
use Rattle.terms.specs.Cases.{two}
use Rattle.frame_spec.specs.Frame.{reads}
use Rattle.private.specs.Scrub.{scrubbed, scrub_answer}

pub scrub_kept : (s : List ℕ) → ((scrub_answer s).number ≡ 0 → ⊥) → scrubbed s ≡ s
unfolding scrub_answer scrubbed
scrub_kept s z = ⊎_elim (λ (t : reads s ≡ true). absurd (z (rw t))) (λ (f : reads s ≡ false). rw f) (two (reads s))
