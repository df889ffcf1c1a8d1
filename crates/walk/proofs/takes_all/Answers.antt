-- `takes_all`: no capture makes more records than the first test asks room for; else the pass
-- counted them. Assumes nothing.
use Rattle.std.proofs.Common.{le-leb}
use Rattle.walk_spec.specs.WalkLaws.{fits_roomy}
use Rattle.walk.specs.PassedLaws.{fits_counted}
use Rattle.walk.proofs.takes_all.Goals as goal

pub returns-then-capture-room : goal.returns-then-capture-room
returns-then-capture-room c = fits_roomy _ _ (le-leb _ _ c.if-capture-room.true)

pub returns : goal.returns
returns c = fits_counted _ _ c.pass.ensures.0 _
