-- `added`: what is counted of a reading. Assumes nothing.
use Rattle.stream_clean_spec.specs.Wash.{plus}
use Rattle.stream_clean.proofs.Readings.{counts_one, counts_found}
use Rattle.stream_clean.proofs.added.Goals as goal

pub returns : goal.returns
unfolding plus
returns c =
    let a = c.args.taken.answer in
    rw (c.unwrap_or.ensures, c.from.ensures, c.from-2.ensures, c.is_ok-accepted.ensures.value, counts_one a, counts_found c.args.seeking a)
