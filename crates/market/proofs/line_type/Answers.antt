-- `line_type`: past the end there are no bytes. Assumes nothing.
use mathlib.Core.Path.{sym}
use native.Mathlib.Omega.{arith}
use Rattle.market_spec.specs.Types.{type_past}
use Rattle.market.proofs.line_type.Goals as goal

pub returns-then-s-at : goal.returns-then-s-at
returns-then-s-at c = sym (type_past _ _ (omega (arith, c.if-s-at.true)))
