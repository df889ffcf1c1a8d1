-- `clean_cut`: a call with a cut, which is not the closing one. Assumes nothing.
use Rattle.stream_clean.proofs.clean_cut.Goals as goal

pub returns : goal.returns
returns c = c.call.ensures
