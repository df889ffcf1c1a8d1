-- The map before request 9: place i stood for floor + 1 + i, and moved as the floor did. No code
-- keeps it any more.
use Rattle.terms.specs.Counters.{tick_of, channel_of}
use Rattle.tick_map.specs.Bits.{bits_in, map_of}
use Rattle.ledger_spec.specs.State.{Book}
use Rattle.ledger.specs.State.{asked_of, pending_of}
use Rattle.ledger.specs.declared.Ledger.{Ledger}

unfoldable pub old_book_of : Ledger → Book
old_book_of l =
    record {
      channel = l.channel.0;
      floor = l.floor.0;
      top = l.top.0;
      bits = bits_in l.map;
      pending = asked_of l.pending;
    }

unfoldable pub old_ledger_of : Book → Ledger
old_ledger_of b =
    record {
      channel = channel_of b.channel;
      floor = tick_of b.floor;
      top = tick_of b.top;
      map = map_of b.bits;
      pending = pending_of b.pending;
    }
