-- What the walk sees at a place: all that records, ledger, listing and figures are made of. Nothing
-- of it is private.
use Rattle.std.specs.Prelude.{ℕ, ◌+◌, List, eqb, Ok, Err}
use Rattle.terms.specs.Paper.{pick}
use Rattle.terms.specs.Counters.{session_of, tick_of, channel_of}
use Rattle.terms.specs.Letters.{spelled}
use Rattle.terms.specs.Refusals.{refusal_of}
use Rattle.terms.specs.Verdicts.{verdict_number}
use Rattle.terms.specs.declared.Refusal.{Refusal}
use Rattle.rules.specs.Table.{kind_of}
use Rattle.frame_view.specs.declared.View.{View}
use Rattle.frame_spec.specs.Frame.{msg_type, msg_seq_num, body_length, read_of, reads, body_read}
use Rattle.frame_view.specs.View.{view_of}
use Rattle.walk_laws.specs.Walk.{Says, frame, more, bad}
use Rattle.reading.specs.declared.Seen.{Seen}

-- a frame that reads: its header's numbers, the counters of its body, and its length
abbrev pub shown : List ℕ → View → Seen
shown s v =
    record {
      answer = Ok tt;
      msg_type = msg_type s;
      seq = session_of (msg_seq_num s);
      channel = v.channel;
      tick = v.tick;
      status = v.status;
      body_len = body_length s;
      size = 28 + body_length s;
    }

-- what is seen where reading answered 1 to 7: four spaces for the type, the answer, else 0
-- (document 01, Records, paragraph 1; 7 by CR 6)
abbrev pub blank : Refusal → Seen
blank why =
    record {
      answer = Err why;
      msg_type = spelled "    ";
      seq = session_of 0;
      channel = channel_of 0;
      tick = tick_of 0;
      status = 0;
      body_len = 0;
      size = 0;
    }

-- the reading of the bytes at the front of s
unfoldable pub seen_of : List ℕ → Seen
seen_of s = pick (reads s) (shown s (view_of (kind_of (msg_type s)) (body_read s))) (blank (refusal_of (read_of s).number))

-- its answer in document 01's numbers: 0, or the refusal's
abbrev pub seen_number : Seen → ℕ
seen_number x = verdict_number x.answer

-- what it says to the walk: a frame of so many bytes, bytes are missing (1), or no frame
unfoldable pub says_of : Seen → Says
says_of x = pick (eqb (seen_number x) 0) (frame x.size) (pick (eqb (seen_number x) 1) more bad)
