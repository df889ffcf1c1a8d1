-- `lay_both`: one part behind the other, and both scrubbed. Assumes nothing.
use Rattle.stream_clean.proofs.Across.{laid_both}
use Rattle.stream_clean.proofs.lay_both.Goals as goal

pub returns : goal.returns
returns c = laid_both _ _ _ _ _ _ _ c.requires c.lay.ensures.1 c.lay-2.ensures.1 c.scrub_part.ensures
