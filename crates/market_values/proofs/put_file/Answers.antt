-- `put_file`: header, lines and trailer, one behind the other. Assumes nothing.
use Rattle.market_values.specs.Writing.{file_laid}
use Rattle.market_values.proofs.put_file.Goals as goal

pub returns : goal.returns
returns c = let a = c.args in file_laid a.s.now a.good.size a.good.lines c.requires.0 a.out.now c.put_head.new.out c.put_lines.new.out c.put_trailer.new.out c.requires.1 c.put_head.ensures c.put_lines.ensures c.put_trailer.ensures
