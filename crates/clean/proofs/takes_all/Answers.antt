-- `takes_all`: the cleaned capture is no longer than the capture; else the pass counted its bytes.
-- Assumes nothing.
use Rattle.clean_spec.specs.Answers.{fits_roomy}
use Rattle.clean.specs.Answers.{fits_counted}
use Rattle.clean.proofs.takes_all.Goals as goal

pub returns-then-capture-room : goal.returns-then-capture-room
returns-then-capture-room c = fits_roomy _ _ c.if-capture-room.true

pub returns : goal.returns
returns c = fits_counted _ _ c.pass-counted.ensures.0 _
