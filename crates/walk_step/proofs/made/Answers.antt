-- `made`: each field is the one that the definition has. Assumes nothing.
use Rattle.std.proofs.Common.{rules}
use Rattle.walk_spec.specs.Walk.{made_of}
use Rattle.walk_step.proofs.made.Goals as goal

pub returns : goal.returns
unfolding made_of
returns c = search rules
