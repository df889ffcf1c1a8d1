-- `take_in`: by which part the place lies in. Assumes nothing.
use Rattle.stream.specs.StoreLaws.{both_behind}
use Rattle.stream_clean.proofs.Across.{taken_as}
use Rattle.stream_clean.proofs.take_in.Goals as goal

pub returns : goal.returns
returns c = let s = c.args in taken_as _ _ _ _ _ _ (both_behind s.p s.a.now s.b.now c.if-p-a.false) c.take_here.ensures
