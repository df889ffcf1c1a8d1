-- `store_constant`: the part is lent, written and back. Assumes nothing.
use mathlib.Core.Path.{◌≡◌, ap, ◌∙◌}
use Prim.Native.Nat.{ℕ, ◌+◌, ◌-◌}
use native.Mathlib.Omega.{arith}
use lib.ListN.{take, drop}
use Rattle.market_columns.specs.Columns.{texts}
use Rattle.market_columns.specs.Pieces.{column_length}
use Rattle.market_columns.proofs.Parts.{lent}
use Rattle.market_columns.proofs.store_constant.Goals as goal

pub returns : goal.returns
returns c = let a = c.args in let z : a.start + a.w - a.start ≡ a.w = omega arith in lent a.at a.w a.dst.now _ _ (c.copy_from_slice.ensures.after ∙ ap (λ (n : ℕ). take n (drop a.start texts)) z) (column_length texts a.start a.w c.requires.1)
