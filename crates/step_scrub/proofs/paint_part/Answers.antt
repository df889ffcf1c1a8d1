-- `paint_part`: the part is lent, painted and back. Assumes nothing.
use Rattle.step_scrub.proofs.Parts.{painted_back}
use mathlib.Core.Path.{◌∙◌}
use Rattle.step_scrub.proofs.paint_part.Goals as goal

pub returns : goal.returns
returns c =
    let o = c in
    let e = c.paint_fields.ensures in
    (painted_back o.args.a o.args.e o.args.buf.now _ o.requires.1 o.requires.2 o.requires.3 e.0, e.1 ∙ rw e.0)
