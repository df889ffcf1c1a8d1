-- `put_decimals`: the point stored, the digits laid behind it. Assumes nothing.
use Rattle.market_columns.specs.NumberLaws.{ten_pos}
use Rattle.market_columns.specs.NumberPut.{decimals_0, decimals_laid}
use Rattle.market_columns.proofs.put_decimals.Goals as goal

pub returns-then-d-eq0 : goal.returns-then-d-eq0
returns-then-d-eq0 c = let a = c.args in decimals_0 a.at a.d a.v a.dst.now c.if-d-eq0.true

pub nonzero_rem-v : goal.nonzero_rem-v
nonzero_rem-v c = rw c.pow.ensures (ten_pos _)

pub returns : goal.returns
returns c = let a = c.args in decimals_laid a.at a.d a.v a.dst.now c.put_digits.new.d c.if-d-eq0.false c.requires.1 (rw c.pow.ensures at c.put_digits.ensures.1)
