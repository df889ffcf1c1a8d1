-- `decimals_at`: without decimals there is nothing to read; else the point, and `digits_at` behind
-- it. Assumes nothing.
use mathlib.Core.Path.{sym, ◌∙◌}
use Rattle.market_columns.specs.Pieces.{decimals_none, decimals_lack, decimals_there}
use Rattle.market_columns.proofs.decimals_at.Goals as goal

pub returns-then-d-eq0 : goal.returns-then-d-eq0
returns-then-d-eq0 c = sym (decimals_none _ _ _ c.if-d-eq0.true)

pub returns-then-t-p-ne46 : goal.returns-then-t-p-ne46
returns-then-t-p-ne46 c = sym (decimals_lack _ _ _ c.if-d-eq0.false c.if-t-p-ne46.true)

pub returns : goal.returns
returns c = c.digits_at.ensures ∙ sym (decimals_there _ _ _ c.if-d-eq0.false c.if-t-p-ne46.false)
