-- `settle`: beside 0 the row is told and the words kept, beside a refusal nothing. Assumes nothing.
use mathlib.Core.Path.{refl}
use Rattle.terms.specs.Refusals.{refusal_not_0}
use Rattle.host_stream_spec.specs.Calls.{kept_beside}
use Rattle.host_stream.proofs.settle.Goals as goal

pub returns-in-Ok : goal.returns-in-Ok
unfolding kept_beside
returns-in-Ok g c = rw c.in-Ok.is ((refl, refl), c.keep.ensures)

pub returns-in-Err : goal.returns-in-Err
unfolding kept_beside
returns-in-Err g c = rw c.in-Err.is ((c.from.ensures, refl), λ kept. rw (refusal_not_0 c.in-Err.why))
