-- The double of the interval lies below what has passed where the interval lies below what is left
-- of it. Assumes nothing.
use mathlib.Core.Path.{◌≡◌, sym, ◌∙◌}
use mathlib.Core.Logic.{⊎_elim}
use lib.Dec.{ltb}
use Prim.Native.Nat.{ℕ, ◌*◌, ◌-◌, ◌<◌, ◌≤◌}
use native.Mathlib.Omega.{arith}
use borrow.Author.Tests.{lt-ltb, le-ltb}
use Rattle.terms.specs.Cases.{less}
use Rattle.session_spec.specs.Calls.{dead_at}
use Rattle.session.proofs.Session.dead.Goals as goal

double : (i t : ℕ) → ltb i (t - i) ≡ ltb (2 * i) t
double i t =
    ⊎_elim (λ (l : 2 * i < t). lt-ltb i (t - i) (omega arith) ∙ sym (lt-ltb (2 * i) t l)) (λ (l : t ≤ 2 * i). le-ltb i (t - i) (omega arith) ∙ sym (le-ltb (2 * i) t l)) (less (2 * i) t)

pub returns : goal.returns
unfolding dead_at
returns c = rw (c.is_listening.ensures, c.saturating_sub.ensures, c.saturating_sub-passed.ensures, double c.args.self.interval (c.args.clock - c.args.self.heard))
