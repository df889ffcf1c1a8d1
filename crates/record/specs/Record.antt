-- Document 01, "Fault records and the listing": the 64 bytes of a record, and the record
-- in 64 bytes.
use Rattle.std.specs.Prelude.{ℕ, ◌+◌, List, ◌++◌}
use Rattle.terms.specs.Counters.{session_of, tick_of, channel_of}
use Rattle.terms.specs.Letters.{spelled}
use Rattle.octets.specs.Octets.{be, bytes_of}
use Rattle.record.specs.declared.Record.{Record}

-- the first 32 bytes: place 8, MsgType 4, answer 4, MsgSeqNum 8, tick number 8
unfoldable pub first_half : Record → List ℕ
first_half r =
    bytes_of 8 r.place
    ++ (bytes_of 4 r.msg_type
    ++ (bytes_of 4 r.answer
    ++ (bytes_of 8 r.seq.0
    ++ bytes_of 8 r.tick.0)))

-- the other 32: channel 2, zero 2, BodyLength 4, floor 8, top 8, zero 8
unfoldable pub second_half : Record → List ℕ
second_half r =
    bytes_of 2 r.channel.0
    ++ (bytes_of 2 0
    ++ (bytes_of 4 r.body_len
    ++ (bytes_of 8 r.floor.0
    ++ (bytes_of 8 r.top.0
    ++ bytes_of 8 0))))

-- all 64
unfoldable pub record_of : Record → List ℕ
record_of r = first_half r ++ second_half r

-- the record in the 64 bytes from the place at on; the zero fields are passed over
unfoldable pub record_at : ℕ → List ℕ → Record
record_at at s =
    record {
      place = be 8 at s;
      msg_type = be 4 (at + 8) s;
      answer = be 4 (at + 12) s;
      seq = session_of (be 8 (at + 16) s);
      tick = tick_of (be 8 (at + 24) s);
      channel = channel_of (be 2 (at + 32) s);
      body_len = be 4 (at + 36) s;
      floor = tick_of (be 8 (at + 40) s);
      top = tick_of (be 8 (at + 48) s);
    }

-- four spaces: the type where a reading was refused
abbrev pub blank : ℕ
blank = spelled "    "

-- the record where reading answered 1 to 7: blank but for four numbers
-- (document 01, Records, paragraph 1; 7 by CR 6)
unfoldable pub blank_of : ℕ → ℕ → ℕ → ℕ → Record
blank_of place answer floor top =
    record {
      place = place;
      msg_type = blank;
      answer = answer;
      seq = session_of 0;
      tick = tick_of 0;
      channel = channel_of 0;
      body_len = 0;
      floor = tick_of floor;
      top = tick_of top;
    }
