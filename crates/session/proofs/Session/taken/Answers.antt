-- Field by field. The sum fits, as is required. Assumes nothing.
use mathlib.Core.Path.{refl}
use Rattle.session.specs.Taken.{taken_line}
use Rattle.session.proofs.Session.taken.Goals as goal

pub returns : goal.returns
unfolding taken_line
returns c = (refl, rw (c.new.ensures, c.value.ensures))
