-- The walk as document 01 tells it (Records, paragraphs 1 and 2): from a place on, with the ledger
-- and all counts, by the offsets of the frame's bytes. Nothing here speaks of `Seen`.
-- LiteralLaws.antt says that the walk of the code's promise is this one.
use Rattle.std.specs.Prelude.{ℕ, zero, suc, ◌+◌, List, [], ◌∷◌, leb, eqb, length, drop}
use Rattle.terms.specs.Paper.{pick}
use Rattle.terms.specs.Counters.{session_of, tick_of, channel_of}
use Rattle.octets.specs.Octets.{be}
use Rattle.rules.specs.Table.{kind_of}
use Rattle.rules.specs.declared.Kind.{Kind}
use Rattle.rules.specs.declared.Kind.TheVariants.{S001, S002, S003, P001, P002, M101, M102, M201, Unknown}
use Rattle.frame_spec.specs.Frame.{read_of}
use Rattle.frame_spec.specs.Search.{search_of}
use Rattle.ledger_spec.specs.State.{Book}
use Rattle.ledger_spec.specs.Calls.{Tick, Announce, number_to, next_of, fresh}
use Rattle.record.specs.declared.Record.{Record}
use Rattle.record.specs.Record.{blank_of}

-- ---- one frame, f its bytes and what follows them

-- MsgType is at 0, MsgSeqNum at 12, BodyLength at 20, the body at 24; four more bytes end the frame
abbrev pub type_in : List ℕ → Kind
type_in f = kind_of (be 4 0 f)

abbrev pub length_in : List ℕ → ℕ
length_in f = 28 + be 4 20 f

-- the tick number, by type; 0 where it has none (document 01, Records, paragraph 1)
abbrev pub tick_in : Kind → List ℕ → ℕ
tick_in S001 f = 0
tick_in S002 f = 0
tick_in S003 f = 0
tick_in P001 f = be 8 27 f
tick_in P002 f = be 8 27 f
tick_in M101 f = 0
tick_in M102 f = 0
tick_in M201 f = be 8 27 f
tick_in Unknown f = 0

-- the channel, by type; 0 where it has none
abbrev pub channel_in : Kind → List ℕ → ℕ
channel_in S001 f = 0
channel_in S002 f = 0
channel_in S003 f = 0
channel_in P001 f = be 2 25 f
channel_in P002 f = be 2 24 f
channel_in M101 f = 0
channel_in M102 f = 0
channel_in M201 f = be 2 25 f
channel_in Unknown f = 0

-- an M201 or P001 that reads is offered to the ledger: the answer, and the ledger after it
abbrev pub answer_in : Kind → Book → List ℕ → ℕ
answer_in S001 b f = 0
answer_in S002 b f = 0
answer_in S003 b f = 0
answer_in P001 b f = number_to b (Announce (channel_in P001 f) (tick_in P001 f))
answer_in P002 b f = 0
answer_in M101 b f = 0
answer_in M102 b f = 0
answer_in M201 b f = number_to b (Tick (channel_in M201 f) (tick_in M201 f))
answer_in Unknown b f = 0

abbrev pub ledger_in : Kind → Book → List ℕ → Book
ledger_in S001 b f = b
ledger_in S002 b f = b
ledger_in S003 b f = b
ledger_in P001 b f = next_of b (Announce (channel_in P001 f) (tick_in P001 f))
ledger_in P002 b f = b
ledger_in M101 b f = b
ledger_in M102 b f = b
ledger_in M201 b f = next_of b (Tick (channel_in M201 f) (tick_in M201 f))
ledger_in Unknown b f = b

abbrev pub ledger_after : Book → List ℕ → Book
ledger_after b f = ledger_in (type_in f) b f

-- the record of a frame: the ledger's answer, if it was offered, and floor and top as they are then
abbrev pub frame_record : ℕ → Book → List ℕ → Record
frame_record place b f =
    record {
      place = place;
      msg_type = be 4 0 f;
      answer = answer_in (type_in f) b f;
      seq = session_of (be 8 12 f);
      tick = tick_of (tick_in (type_in f) f);
      channel = channel_of (channel_in (type_in f) f);
      body_len = be 4 20 f;
      floor = tick_of (ledger_after b f).floor;
      top = tick_of (ledger_after b f).top;
    }

-- ---- the walk

-- what it comes to
pub record Walk : Type 0 where
  pub records : List Record
  pub frames : ℕ
  pub refused : ℕ
  pub ledger : Book

abbrev pub stopped : Book → Walk
stopped b = record { records = []; frames = 0; refused = 0; ledger = b }

-- the record of a frame, or of a refusal, and the walk behind it
abbrev pub a_frame : Record → Walk → Walk
a_frame r w = record { records = r ∷ w.records; frames = 1 + w.frames; refused = w.refused; ledger = w.ledger }

abbrev pub a_refusal : Record → Walk → Walk
a_refusal r w = record { records = r ∷ w.records; frames = w.frames; refused = 1 + w.refused; ledger = w.ledger }

-- on at the place that the search found, or not at all
abbrev pub go_on : (ℕ → Walk) → Walk → List ℕ → Walk
go_on on stop [] = stop
go_on on stop (q ∷ vs) = on q

-- The walk of the capture s from the place p on, with the ledger b, in at most k readings:
-- at the end of s it stops, without a record. A frame that reads is recorded and stepped over; else
-- the refusal is recorded, and the walk goes on where the search "from the next byte on" finds a
-- frame, or stops.
unfoldable pub walk_from : ℕ → List ℕ → ℕ → Book → Walk
walk_from zero s p b = stopped b
walk_from (suc k) s p b =
    pick (leb (length s) p) (stopped b)
    (pick (eqb (read_of (drop p s)).number 0)
    (a_frame (frame_record p b (drop p s)) (walk_from k s (p + length_in (drop p s)) (ledger_after b (drop p s))))
    (a_refusal (blank_of p (read_of (drop p s)).number b.floor b.top) (go_on (λ q. walk_from k s q b) (stopped b) (search_of s (p + 1)).values)))

-- The walk of a whole capture, with a fresh ledger of channel 100. No walk has more readings than
-- the capture has bytes.
unfoldable pub literal_walk : List ℕ → Walk
literal_walk s = walk_from (length s) s 0 (fresh 100)
