-- `scrub_part`: the part is lent, scrubbed and back. Assumes nothing.
use Rattle.stream_clean.proofs.Across.{scrubbed_back}
use Rattle.stream_clean.proofs.scrub_part.Goals as goal

pub returns : goal.returns
returns c = let s = c in scrubbed_back s.args.a s.args.e s.args.out.now _ s.requires.1 c.scrub.ensures.1
