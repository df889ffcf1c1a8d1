-- What a call does to a table that is lent: the index, one row and the name beside it may be new,
-- and stand where they stood.
use Rattle.std.specs.Prelude.{◌≡◌, [], ℕ, get_or, set, replicate}
use Rattle.channels.specs.declared.Row.{Row}
use Rattle.channels.specs.declared.Channels.{Channels}
use Rattle.channels.specs.declared.ChannelCall.{ChannelCall}
use Rattle.channels.specs.declared.ChannelTold.{ChannelTold}
use Rattle.channels.specs.declared.Answered.{Answered}
use Rattle.channels.specs.Turn.{turn_of, turned_of}
use Rattle.channels.specs.Answered.{blank, answered_of}

-- no channel is open: counting begins at the first place
abbrev pub empty_channels : Channels
empty_channels =
    record {
      names = record { channels = replicate 33 0 };
      index = record { used = 0; lacking = 0; asked = 32; last = 31 };
      rows = replicate 33 blank;
    }

-- what stands past the last row
abbrev pub no_row : Row
no_row = record { words = [] }

abbrev pub row_at : Channels → ℕ → Row
row_at t i = get_or t.rows i no_row

abbrev pub turn_by : Channels → ChannelCall → ℕ
turn_by t call = turn_of t.index t.names.channels call

abbrev pub answered_by : Channels → ChannelCall → Answered
answered_by t call = answered_of (row_at t (turn_by t call)) t.index (turned_of t.index t.names.channels call) call

-- a table with another index and another row, and the name beside that
abbrev pub stored_at : Channels → ℕ → Answered → Channels
stored_at t at a =
    record {
      names = record { channels = set t.names.channels at a.name };
      index = a.index;
      rows = set t.rows at a.row;
    }

-- the table after the call
abbrev pub served_by : Channels → ChannelCall → Channels
served_by t call = stored_at t (turn_by t call) (answered_by t call)

-- the promise of the lent call
pub record Serves (was : Channels) (call : ChannelCall) (told : ChannelTold) (is : Channels) : Type 0 where
  pub told_is : told ≡ (answered_by was call).told
  pub table_is : is ≡ served_by was call
