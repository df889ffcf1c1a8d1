-- The ledger's part in a reading (document 01, Records, paragraph 2): an M201 that reads is offered
-- as a tick, a P001 as an announcement. A call is made of what is seen, and of nothing else.
use Rattle.std.specs.Prelude.{ℕ, List, [], ◌∷◌, eqb}
use Rattle.terms.specs.Paper.{pick}
use Rattle.rules.specs.Table.{kind_of}
use Rattle.rules.specs.declared.Kind.{Kind}
use Rattle.rules.specs.declared.Kind.TheVariants.{S001, S002, S003, P001, P002, M101, M102, M201, Unknown}
use Rattle.ledger_spec.specs.State.{Book}
use Rattle.ledger_spec.specs.Calls.{Call, Tick, Announce, number_to, next_of}
use Rattle.reading.specs.declared.Seen.{Seen}
use Rattle.reading.specs.Seen.{seen_number}

-- the calls that a frame of a type makes: one, or none
abbrev pub calls_for : Kind → ℕ → ℕ → List Call
calls_for S001 channel n = []
calls_for S002 channel n = []
calls_for S003 channel n = []
calls_for P001 channel n = Announce channel n ∷ []
calls_for P002 channel n = []
calls_for M101 channel n = []
calls_for M102 channel n = []
calls_for M201 channel n = Tick channel n ∷ []
calls_for Unknown channel n = []

-- those of a reading: only an accepted one makes any
unfoldable pub calls_by : Seen → List Call
calls_by x = pick (eqb (seen_number x) 0) (calls_for (kind_of x.msg_type) x.channel.0 x.tick.0) []

-- the number answered, and the book after the call
pub record Offer : Type 0 where
  pub number : ℕ
  pub book : Book

-- the ledger's where a call is made, else the reading's
unfoldable pub offering : Book → ℕ → List Call → Offer
offering b number [] = record { number = number; book = b }
offering b number (call ∷ calls) = offering (next_of b call) (number_to b call) calls

unfoldable pub offer_of : Book → Seen → Offer
offer_of b x = offering b (seen_number x) (calls_by x)
