-- Word by word. Assumes nothing.
use Rattle.host_session.specs.Words.{line_in}
use Rattle.host_session.proofs.session_in.Goals as goal

pub returns : goal.returns
unfolding line_in
returns c = rw (c.state_in.ensures, c.new.ensures, c.new-2.ensures, c.out_in.ensures)
