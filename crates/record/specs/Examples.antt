-- The records of the frame A, the byte FF and the frame B of document 01's 69 bytes.
use Rattle.terms.specs.Counters.{session_of, tick_of, channel_of}
use Rattle.record.specs.declared.Record.{Record}
use Rattle.record.specs.Record.{blank_of}

abbrev pub record_a : Record
record_a =
    record {
      place = 0;
      msg_type = 0x53303033;
      answer = 0;
      seq = session_of 1;
      tick = tick_of 0;
      channel = channel_of 0;
      body_len = 0;
      floor = tick_of 0;
      top = tick_of 0;
    }

abbrev pub record_fF : Record
record_fF = blank_of 28 2 0 0

abbrev pub record_b : Record
record_b =
    record {
      place = 29;
      msg_type = 0x50303031;
      answer = 0;
      seq = session_of 2;
      tick = tick_of 3;
      channel = channel_of 100;
      body_len = 12;
      floor = tick_of 0;
      top = tick_of 3;
    }
