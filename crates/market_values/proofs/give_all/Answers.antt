-- `give_all`: the header's own values, then the lines'. Assumes nothing.
use Rattle.market_values.specs.Giving.{own_right, own_room, all_given}
use Rattle.market_values.proofs.give_all.Goals as goal

pub give_line-requires : goal.give_line-requires
give_line-requires c = let q = c.requires in let a = c.args in (own_room a.s.now a.out.now q.0 q.1, own_right a.s.now q.0)

pub returns : goal.returns
returns c = let a = c.args in let q = c.requires in all_given a.s.now a.out.now c.give_line.new.out c.give_lines.new.out q.0 q.1 c.give_line.ensures c.give_lines.ensures
