-- One pass over a capture: its counts and its ledger, and the ledger as the loop carries it.
use Rattle.std.specs.Prelude.{List, ℕ, None, length}
use Rattle.ledger.specs.State.{ledger_of}
use Rattle.ledger.specs.declared.Ledger.{Ledger}
use Rattle.terms.specs.Counters.{channel_of}
use Rattle.terms.specs.declared.TickNumber.{TickNumber}
use Rattle.tick_map.specs.declared.Map.{Map}
use Rattle.walk.specs.declared.Passed.{Passed}
use Rattle.walk_spec.specs.Walk.{sights, walk_of, frames_of}

-- the ledger of channel 100 with nothing pending
abbrev pub carried_of : TickNumber → TickNumber → Map → Ledger
carried_of floor top map = record { channel = channel_of 100; floor = floor; top = top; map = map; pending = None }

unfoldable pub passed_of : List ℕ → Passed
passed_of s = record { records = length (walk_of s).records; frames = frames_of (sights s); ledger = ledger_of (walk_of s).ledger }
