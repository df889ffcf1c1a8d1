-- `trailer`: the three digits are laid into their place. Assumes nothing.
use Rattle.step_spec.specs.HeadLaws.{trailer_laid}
use mathlib.Core.Path.{◌∙◌}
use Rattle.step_frame.proofs.trailer.Goals as goal

pub returns : goal.returns
returns c = c.put_digits.ensures.1 ∙ trailer_laid _
