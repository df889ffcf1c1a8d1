-- `rk_stream_close`: the stream's closing call, told and kept. Assumes nothing.
use Rattle.stream_spec.specs.Calls.{Close}
use Rattle.host_stream.proofs.Settled.{lent_settled}
use Rattle.host_stream.proofs.rk_stream_close.Goals as goal

pub returns : goal.returns
returns c = lent_settled _ _ _ Close _ _ _ c.standing_in.result c.standing_in.ensures c.close-done.result c.close-done.ensures _ c.fed_row.ensures c.settle.ensures
