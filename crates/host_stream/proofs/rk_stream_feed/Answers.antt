-- `rk_stream_feed`: the stream's call with a cut, told and kept. Assumes nothing.
use Rattle.stream_spec.specs.Calls.{Feed}
use Rattle.host_stream.proofs.Settled.{lent_settled}
use Rattle.host_stream.proofs.rk_stream_feed.Goals as goal

pub returns : goal.returns
returns c = (lent_settled _ _ _ (Feed _) _ _ _ c.standing_in.result c.standing_in.ensures c.feed-done.result c.feed-done.ensures.0 _ c.fed_row.ensures c.settle.ensures, c.feed-done.ensures.1)
