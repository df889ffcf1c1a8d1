-- A row of calls through the host on a stream that rk_stream_open wrote; and CR 1's sentences, of
-- what the host then has and sees.
use Rattle.std.specs.Prelude.{ℕ, ◌≡◌, true, List, [], ◌∷◌, ◌++◌, length, get_or, replicate}
use Rattle.octets.specs.Octets.{laid, Bytes}
use Rattle.ledger.specs.State.{ledger_of}
use Rattle.record.specs.declared.Record.{Record}
use Rattle.walk_spec.specs.Walk.{sights, walk_of, frames_of, refused_of, table_of}
use Rattle.stream_spec.specs.State.{opened, StreamRules}
use Rattle.stream_spec.specs.Calls.{Call, cut_of, share}
use Rattle.stream_spec.specs.Trace.{Calls, none, ◌▸◌, after, given, taken, ended}
use Rattle.stream_spec.specs.Words.{decided, number_told}
use Rattle.host_words.specs.Words.{words_of}
use Rattle.host_stream_spec.specs.Lent.{Lent, lent_of, stream_in}
use Rattle.host_stream_spec.specs.Calls.{Called}

-- k comes of these calls, each meeting its promise, by which a cut has bytes alone, on what a call
-- of rk_stream_open left
pub data Followed : Calls → Lent → Type 0 where
  opening : {k : Lent} → k ≡ lent_of opened → Followed none k
  one_more : {calls : Calls} {k : Lent} (call : Call) (was d : List ℕ) (n : ℕ) (k' : Lent) (row d' : List ℕ) → Followed calls k → Bytes (cut_of call) → Called k call was d n k' row d'
      → Followed (calls ▸ record { call = call; room = length d }) k'

-- after the closing call: frames, refused readings and ledger are those of the closed walk over s,
-- no byte waits, and the store is blank
pub record Ended (s : List ℕ) (k : Lent) : Type 0 where
  pub place : get_or k.state 0 0 ≡ length s
  pub closed : get_or k.state 2 0 ≡ 1
  pub none : get_or k.state 3 0 ≡ 0
  pub frames : get_or k.state 4 0 ≡ frames_of (sights s)
  pub refused : get_or k.state 5 0 ≡ refused_of (sights s)
  pub ledger : k.ledger ≡ words_of (ledger_of (walk_of s).ledger)
  pub blank : k.kept ≡ replicate 8191 0

-- a call answered 0 behind these calls gives these records: they stand at the front of the buffer,
-- and behind those given before they are what is decided; told are their number, and the numbers
-- that the words have now
pub record Gives (calls : Calls) (call : Call) (d : List ℕ) (records : List Record) (k' : Lent) (row d' : List ℕ) : Type 0 where
  pub written : d' ≡ laid 0 (table_of records) d
  pub makes_up : given calls ++ records ≡ decided (ended (calls ▸ record { call = call; room = length d })) (taken (calls ▸ record { call = call; room = length d }))
  pub told : row ≡ length records ∷ get_or k'.state 4 0 ∷ get_or k'.state 5 0 ∷ get_or k'.state 0 0 ∷ get_or k'.state 3 0 ∷ []

-- CR 1'S SENTENCES, of what a host has after the calls
pub record HostFollows (calls : Calls) (k : Lent) : Type 0 where
  -- words and bytes are those of the stream after the calls, of which the sentences of CR 1
  -- hold (`Follows`)
  pub stands : k ≡ lent_of (after calls)
  pub rules : StreamRules (stream_in k)
  -- one more call: its number is told from the bytes taken alone; where it is 0, its share of the
  -- records is given
  pub number : (call : Call) (was d : List ℕ) (n : ℕ) (k' : Lent) (row d' : List ℕ) → Called k call was d n k' row d' → n ≡ number_told calls call (length d)
  pub gives : (call : Call) (was d : List ℕ) (n : ℕ) (k' : Lent) (row d' : List ℕ) → Called k call was d n k' row d' → n ≡ 0 → Gives calls call d (share (after calls) call) k' row d'
  -- after the closing call all records were given, and the words are those of the closed walk
  pub closing : ended calls ≡ true → (given calls ≡ (walk_of (taken calls)).records) × Ended (taken calls) k
