-- `rk_stream_clean`: the stream's call that cleans a cut, told and kept. Assumes nothing.
use Rattle.stream_spec.specs.Calls.{Feed}
use Rattle.host_stream.proofs.Settled.{lent_washed}
use Rattle.host_stream.proofs.rk_stream_clean.Goals as goal

pub returns : goal.returns
returns c = (lent_washed _ _ _ (Feed _) _ _ _ c.standing_in.result c.standing_in.ensures c.clean_cut-done.result c.clean_cut-done.ensures _ c.washed_row.ensures c.settle.ensures, λ i. (c.shared_slice_known-1.given i).fits)
