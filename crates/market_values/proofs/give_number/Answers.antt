-- `give_number`: the sign, then the units. Assumes nothing.
use Rattle.market_values.specs.Giving.{nine_laid}
use Rattle.market_values.proofs.give_number.Goals as goal

pub returns : goal.returns
returns c = let a = c.args in nine_laid a.at a.amount.sign a.amount.units a.out.now c.put.new.d c.requires c.put.ensures.1
