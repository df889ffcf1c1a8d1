-- `rk_stream_clean_close`: the stream's closing call that cleans, told and kept. Assumes nothing.
use Rattle.stream_spec.specs.Calls.{Close}
use Rattle.host_stream.proofs.Settled.{lent_washed}
use Rattle.host_stream.proofs.rk_stream_clean_close.Goals as goal

pub returns : goal.returns
returns c = lent_washed _ _ _ Close _ _ _ c.standing_in.result c.standing_in.ensures c.clean_end-done.result c.clean_end-done.ensures _ c.washed_row.ensures c.settle.ensures
