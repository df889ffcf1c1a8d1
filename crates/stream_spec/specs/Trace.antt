-- A row of calls on a stream just opened, refusals among them; and what its calls gave and took,
-- told from the answers that the definitions give. That the code gives these is `ran_number`
-- of `stream`.
use Rattle.std.specs.Prelude.{ℕ, ◌*◌, ◌≡◌, Bool, false, ◌&&◌, List, [], ◌++◌, eqb, length, take}
use Rattle.terms.specs.Paper.{pick}
use Rattle.octets.specs.Octets.{Bytes}
use Rattle.ledger_spec.specs.State.{or_else}
use Rattle.record.specs.declared.Record.{Record}
use Rattle.stream_spec.specs.declared.Stream.{Stream}
use Rattle.stream_spec.specs.declared.Fed.{Fed}
use Rattle.stream_spec.specs.State.{opened}
use Rattle.stream_spec.specs.Calls.{Call, cut_of, closes, share, number_to, next_of, records_of}
use Rattle.stream_spec.specs.CallLaws.{Promised}

-- a call, and how much room the buffer has that is lent with it
pub record Asked : Type 0 where
  pub call : Call
  pub room : ℕ

-- no call, or some calls and then one more
infixl 20 ◌▸◌
pub data Calls : Type 0 where
  none : Calls
  ◌▸◌ : Calls → Asked → Calls

-- the stream after the calls
abbrev pub after : Calls → Stream
after none = opened
after (calls ▸ a) = next_of (after calls) a.call a.room

-- whether one more call is answered 0
abbrev pub accepted : Calls → Asked → Bool
accepted calls a = eqb (number_to (after calls) a.call a.room) 0

-- the records given so far
unfoldable pub given : Calls → List Record
given none = []
given (calls ▸ a) = given calls ++ pick (accepted calls a) (share (after calls) a.call) []

-- the bytes taken so far: those of the calls not refused, joined
unfoldable pub taken : Calls → List ℕ
taken none = []
taken (calls ▸ a) = taken calls ++ pick (accepted calls a) (cut_of a.call) []

-- whether a closing call was not refused
unfoldable pub ended : Calls → Bool
ended none = false
ended (calls ▸ a) = or_else (ended calls) (accepted calls a && closes a.call)

-- x comes of calls of the code on a stream that it opened, each meeting its promise, by which a cut
-- has bytes alone
pub data Row : Calls → Stream → Type 0 where
  opening : {x : Stream} → x ≡ opened → Row none x
  one_more : {calls : Calls} {x : Stream} (call : Call) (d d' : List ℕ) (r : Fed ℕ) → Row calls x → Bytes (cut_of call) → Promised x (closes call) (cut_of call) d d' r
      → Row (calls ▸ record { call = call; room = length d }) r.stream

-- what a host then has, if it sets aside what each call says it wrote: the first 64 bytes of its
-- buffer for each record, joined
abbrev pub heard : {calls : Calls} {x : Stream} → Row calls x → List ℕ
heard (opening e) = []
heard (one_more call d d' r row b p) = heard row ++ take (64 * records_of r) d'
