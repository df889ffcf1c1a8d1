-- `feed`: a call with a cut, which is not the closing one. Assumes nothing.
use Rattle.stream.proofs.feed.Goals as goal

pub returns : goal.returns
returns c = (c.call.ensures, λ i. (c.shared_slice_known-1.given i).fits)
