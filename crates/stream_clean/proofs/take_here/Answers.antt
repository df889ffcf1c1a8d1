-- `take_here`: a frame that was laid is told by what was laid, all else by what is seen.
-- Assumes nothing.
use mathlib.Core.Path.{sym, ap, ◌∙◌}
use Rattle.octets.specs.Papers.{written_paper}
use Rattle.frame_spec.specs.Places.{be_here}
use Rattle.stream_clean_spec.specs.Wash.{unjudged_by}
use Rattle.clean_spec.specs.Laid.{into_seen}
use Rattle.stream_clean.specs.Taken.{taken_of}
use Rattle.stream_clean.proofs.Readings.{laid_taken}
use Rattle.stream_clean.proofs.take_here.Goals as goal

pub returns-in-Ok : goal.returns-in-Ok
returns-in-Ok c = (
  laid_taken _ _ _ _ (sym (ap written_paper c.in-Ok.is) ∙ c.scrub_into.ensures.0) _ (c.unjudged.ensures ∙ ap unjudged_by (c.at.ensures ∙ be_here _ _ 4)),
  c.scrub_into.ensures.1 ∙ into_seen _ _ _,
)

pub returns-in-Err : goal.returns-in-Err
returns-in-Err c = (c.from.ensures ∙ ap taken_of c.see.ensures, c.scrub_into.ensures.1 ∙ into_seen _ _ _)
