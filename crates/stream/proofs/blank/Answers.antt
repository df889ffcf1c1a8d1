use mathlib.Core.Path.{◌∙◌}
use Rattle.stream_spec.specs.StateLaws.{zero_end}
use Rattle.stream.specs.StoreLaws.{blank_step}
use Rattle.stream.proofs.blank.Goals as goal

pub loop-b-preserved : goal.loop-b-preserved
loop-b-preserved c = blank_step c.loop-b.all c.loop-b.b-index c.args.s.now c.loop-b-test.true ∙ c.loop-b.invariant

pub returns : goal.returns
returns c = zero_end _ _ _ _ c.loop-b-test.false c.loop-b.invariant
