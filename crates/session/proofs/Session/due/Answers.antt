-- What the parts promise is the test. Assumes nothing.
use Rattle.session_spec.specs.Calls.{due_at}
use Rattle.session.proofs.Session.due.Goals as goal

pub returns : goal.returns
unfolding due_at
returns c = rw c.saturating_sub.ensures
