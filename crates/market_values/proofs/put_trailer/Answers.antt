-- `put_trailer`: the word and the bar, the sum of all before it, a newline. Assumes nothing.
use Rattle.market_values.specs.Writing.{trailer_laid}
use Rattle.market_values.proofs.put_trailer.Goals as goal

pub returns : goal.returns
returns c = let a = c.args in trailer_laid a.at _ a.out.now c.lay.new.d c.put_digits.new.d c.requires c.lay.ensures.1 c.sum-v.ensures (rw c.from.ensures at c.put_digits.ensures.1)
