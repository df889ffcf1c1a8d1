use Prim.Native.Nat.{ℕ, ◌+◌, ◌-◌, min}
use mathlib.Core.Path.{◌≡◌, refl, sym, ap, ◌∙◌}
use lib.ListN.{get_or}
use borrow.Author.Rules.{rules}
use Rattle.month.proofs.Fill.{Filled, fill_start, fill_step, fill_end, zero_at, zeros_long}
use Rattle.host_month.specs.Words.{sums_in}
use Rattle.host_month.proofs.sums_in.Goals as goal

pub loop-k-init : goal.loop-k-init
loop-k-init c = fill_start _ _ _ (zeros_long 192) (zero_at 192)

pub returns : goal.returns
unfolding sums_in
returns c = fill_end _ _ _ _ c.loop-k.invariant c.loop-k-test.false
