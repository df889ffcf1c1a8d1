-- `close`: the closing call, which brings no byte. Assumes nothing.
use Rattle.stream.proofs.close.Goals as goal

pub returns : goal.returns
returns c = c.call.ensures
