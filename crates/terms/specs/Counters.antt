-- The counters at a number. In code their fields are private; a definition may name them.
use Rattle.std.specs.Prelude.{ℕ}
use Rattle.terms.specs.declared.SessionNumber.{SessionNumber}
use Rattle.terms.specs.declared.TickNumber.{TickNumber}
use Rattle.terms.specs.declared.ChannelNumber.{ChannelNumber}

abbrev pub session_of : ℕ → SessionNumber
session_of n = record { 0 = n }

abbrev pub tick_of : ℕ → TickNumber
tick_of n = record { 0 = n }

abbrev pub channel_of : ℕ → ChannelNumber
channel_of n = record { 0 = n }
