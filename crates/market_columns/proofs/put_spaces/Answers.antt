-- `put_spaces`: the part is lent, filled and back. Assumes nothing.
use mathlib.Core.Path.{ap, ◌∙◌}
use Prim.Native.Nat.{ℕ, ◌+◌, ◌-◌}
use native.Mathlib.Omega.{arith}
use lib.ListN.{replicate, length-replicate}
use Rattle.market_columns.specs.Pieces.{column_length}
use Rattle.market_columns.proofs.Parts.{lent}
use Rattle.market_columns.proofs.put_spaces.Goals as goal

pub returns : goal.returns
returns c = let a = c.args in lent a.at a.k a.dst.now _ _ (c.fill.ensures.after (λ y e. e) ∙ ap (λ (n : ℕ). replicate n 32) (column_length a.dst.now a.at (a.at + a.k - a.at) (omega (arith, c.requires)) ∙ omega arith)) (length-replicate a.k 32)
