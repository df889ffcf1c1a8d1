-- What a call does that is lent with its table: the table is served, the answer stands beside the
-- call, and the call is as it was.
use Rattle.std.specs.Prelude.{◌≡◌}
use Rattle.channels.specs.declared.Channels.{Channels}
use Rattle.channels.specs.Serves.{Serves}
use Rattle.host_channels.specs.declared.Exchange.{Exchange}

-- the promise of the lent call
pub record Exchanges (was : Channels) (asks : Exchange) (is : Channels) (told : Exchange) : Type 0 where
  pub serves : Serves was asks.call told.told is
  pub call_kept : told.call ≡ asks.call
