use Prim.Native.Nat.{ℕ, ◌+◌, ◌-◌, min}
use mathlib.Core.Path.{◌≡◌, refl, sym, ap, ◌∙◌}
use lib.ListN.{get_or}
use borrow.Author.Rules.{rules}
use Rattle.month.proofs.Fill.{Filled, fill_start, fill_step, zero_at, zeros_long}
use Rattle.host_month.proofs.WordLaws.{fronted_of}
use Rattle.host_month.proofs.fronted.Goals as goal

pub loop-i-init : goal.loop-i-init
loop-i-init c = fill_start _ _ _ (zeros_long 226) (zero_at 226)
