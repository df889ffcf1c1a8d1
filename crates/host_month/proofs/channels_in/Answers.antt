use Prim.Native.Nat.{ℕ, ◌+◌, ◌-◌, min}
use mathlib.Core.Path.{◌≡◌, refl, sym, ap, ◌∙◌}
use lib.ListN.{get_or}
use borrow.Author.Rules.{rules}
use Rattle.month.proofs.Fill.{Filled, fill_start, fill_step, fill_end, zero_at, zeros_long}
use Rattle.host_month.specs.Words.{channels_in}
use Rattle.host_month.proofs.channels_in.Goals as goal

pub loop-i-init : goal.loop-i-init
loop-i-init c = fill_start _ _ _ (zeros_long 32) (zero_at 32)

pub returns : goal.returns
unfolding channels_in
returns c = fill_end _ _ _ _ c.loop-i.invariant c.loop-i-test.false
