-- `keep`: a frame that was laid is told by what was laid, all else by what is seen.
-- Assumes nothing.
use mathlib.Core.Path.{sym, ap, ◌∙◌}
use Rattle.octets.specs.Papers.{written_paper}
use Rattle.clean_spec.specs.Kept.{kept_of, laid_seen}
use Rattle.clean_spec.specs.Laid.{into_seen}
use Rattle.clean.proofs.keep.Goals as goal

pub returns-in-Ok : goal.returns-in-Ok
returns-in-Ok c = (laid_seen _ _ _ _ (sym (ap written_paper c.in-Ok.is) ∙ c.scrub_into.ensures.0), c.scrub_into.ensures.1 ∙ into_seen _ _ _)

pub returns-in-Err : goal.returns-in-Err
returns-in-Err c = (c.and.ensures ∙ ap kept_of c.see-seen.ensures, c.scrub_into.ensures.1 ∙ into_seen _ _ _)
