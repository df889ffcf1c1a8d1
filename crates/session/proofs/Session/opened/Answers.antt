-- Field by field. Assumes nothing.
use Rattle.session_spec.specs.Calls.{opened}
use Rattle.session.proofs.Session.opened.Goals as goal

pub returns : goal.returns
unfolding opened
returns c = rw (c.new.ensures, c.new-2.ensures)
