-- `rk_stream_open`: the stream that `stream_spec` opens is kept. Assumes nothing.
use mathlib.Core.Path.{refl, ap, ◌∙◌}
use Rattle.host_stream_spec.specs.Lent.{lent_of}
use Rattle.host_stream.proofs.rk_stream_open.Goals as goal

pub returns : goal.returns
returns c = (refl, c.keep.ensures _ ∙ ap lent_of c.opened-fresh.ensures)
