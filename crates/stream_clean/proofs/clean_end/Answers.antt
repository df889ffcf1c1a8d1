-- `clean_end`: the closing call, which brings no byte. Assumes nothing.
use Rattle.stream_clean.proofs.clean_end.Goals as goal

pub returns : goal.returns
returns c = c.call.ensures
