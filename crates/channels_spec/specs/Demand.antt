-- Request 3, sentence by sentence, of a history and the table after it. Words.antt tells each word
-- from the calls and their answers alone. proofs/Demand.antt and proofs/Fair.antt prove each
-- sentence for every row of calls on the empty table, refusals among them.
use Rattle.std.specs.Prelude.{◌≡◌, true, ◌⊎◌, ◌↔◌, List, [], ◌∷◌, ℕ, ◌+◌, ◌%◌, ◌≤◌, ◌<◌}
use Rattle.terms.specs.Paper.{Paper, answer, refusal}
use Rattle.ledger_spec.specs.State.{Book}
use Rattle.ledger_spec.specs.Calls as ledger
use Rattle.ledger_spec.specs.Trace as ledger-trace
use Rattle.ledger_spec.specs.Words.{value_at, answered, pending}
use Rattle.ledger_spec.specs.Answers.{TickAnswers, AnnounceAnswers, ReplyAnswers}
use Rattle.ledger_spec.specs.Between.{BetweenAnswers}
use Rattle.ledger_spec.specs.Demand3.{SomeMissing, LowestRun, Demand3}
use Rattle.channels_spec.specs.Table.{holds, Table, waits, place_of, book_of}
use Rattle.channels_spec.specs.Calls.{Call, Request, To, Tick, Announce, Reply, Between, answer_to, next_of}
use Rattle.channels_spec.specs.Trace.{Calls, ◌▸◌, after, History, trace, followed}
use Rattle.channels_spec.specs.Words.{opened, since, own_history, quiet, asks, line, pending_on, granted, grants, grants_on}

-- ======== Each channel

-- what is said to an open channel is answered as its own ledger answers, told from what was said
-- to that channel since its opening
pub record SaidAnswers (h : ledger-trace.History) (t : Table) (channel : ℕ) : Type 0 where
  pub tick : (n : ℕ) → TickAnswers h n (answer_to t (To channel (Tick n)))
  pub announcement : (n : ℕ) → AnnounceAnswers n (answer_to t (To channel (Announce n)))
  pub reply : (first status : ℕ) → ReplyAnswers h first status (answer_to t (To channel (Reply first status)))
  pub between : (a z : ℕ) → BetweenAnswers h a z (answer_to t (To channel (Between a z)))

-- "Demand 3 holds for each channel from its opening": the ledger of an open channel is the fresh
-- ledger after the calls on it since its opening
pub record EachChannel (channel : ℕ) (calls : Calls) : Type 0 where
  pub ledger_is : book_of (after calls) channel ≡ ledger-trace.after channel (since channel (trace calls))
  pub demand : Demand3 (own_history channel (trace calls)) channel (book_of (after calls) channel)
  pub answers : SaidAnswers (own_history channel (trace calls)) (after calls) channel

-- ======== When a request is given

-- the channel is open, and misses a number
pub record Misses (channel : ℕ) (h : History) : Type 0 where
  pub is_open_holds : opened channel h ≡ true
  pub some : SomeMissing (own_history channel h)

pub record SomeChannel (h : History) : Type 0 where
  pub channel : ℕ
  pub misses : Misses channel h

-- "a request is given exactly when some open channel misses a number and none is pending in the
-- table"
pub record Due (h : History) : Type 0 where
  pub some : SomeChannel h
  pub none_pending : line h ≡ quiet

pub record Busy (h : History) : Type 0 where
  pub channel : ℕ
  pub first : ℕ
  pub last : ℕ
  pub is_pending_holds : line h ≡ asks channel first last

pub record Whole (h : History) : Type 0 where
  pub none_pending : line h ≡ quiet
  pub none_missing : (channel : ℕ) → Misses channel h → ⊥

-- the channel, and its "lowest unbroken run of missing numbers, cut to its first 200"
pub record Gives (h : History) (a : Paper) : Type 0 where
  pub channel : ℕ
  pub first : ℕ
  pub last : ℕ
  pub is_open_holds : opened channel h ≡ true
  pub request : a ≡ answer 0 (channel ∷ first ∷ last ∷ [])
  pub range_is : LowestRun (own_history channel h) first last

pub record Requests (h : History) (a : Paper) : Type 0 where
  pub exactly_0 : (answered a 0 ≡ true) ↔ Due h
  pub exactly_14 : (answered a 14 ≡ true) ↔ Busy h
  pub exactly_15 : (answered a 15 ≡ true) ↔ Whole h
  pub gives : answered a 0 ≡ true → Gives h a
  pub no_other : Gives h a ⊎ ((a ≡ refusal 14) ⊎ (a ≡ refusal 15))

-- ======== One pending

-- "one request is pending for the whole table": what is pending in an open channel's ledger is the
-- request on the line, if it is this channel's
pub record OnePending (h : History) (t : Table) : Type 0 where
  pub pending_is : (channel : ℕ) → opened channel h ≡ true → (book_of t channel).pending ≡ pending_on channel (line h)
  pub own_calls : (channel : ℕ) → opened channel h ≡ true → pending (own_history channel h) ≡ pending_on channel (line h)
  pub only_open : (channel first last : ℕ) → line h ≡ asks channel first last → opened channel h ≡ true
  pub at_most_one : (i j : ℕ) → waits (t.place i) ≡ true → waits (t.place j) ≡ true → i ≡ j

-- ======== Whose turn

-- "The next one goes to the first channel with something missing, counted round from the place
-- after the last one asked": the place k steps on from there is (t.last + 1 + k) % 32
pub record Turn (h : History) (t : Table) (a : Paper) : Type 0 where
  pub steps : ℕ
  pub book : Book
  pub below_32 : steps < 32
  pub there : t.place ((t.last + 1 + steps) % 32) ≡ holds book
  pub channel_is : value_at a 0 ≡ book.channel
  pub misses_one : Misses book.channel h
  pub none_before : (k : ℕ) (b : Book) → k < steps → t.place ((t.last + 1 + k) % 32) ≡ holds b → Misses b.channel h → ⊥

-- the place last asked is that of the channel which the last granted request went to; nothing but a
-- grant moves it (`counts_from_first` of proofs/Fair.antt: at first counting begins at place 0)
pub record LastAsked (t : Table) (call : Call) : Type 0 where
  pub moves : call ≡ Request → answered (answer_to t call) 0 ≡ true → (next_of t call).last ≡ place_of t (value_at (answer_to t call) 0)
  pub stays : granted call (answer_to t call) ≡ 0 → (next_of t call).last ≡ t.last

-- "A channel that stays open and keeps something missing": so it is found by each of these calls
abbrev pub KeepsMissing : ℕ → Calls → List Call → Type 0
KeepsMissing channel calls [] = Unit
KeepsMissing channel calls (call ∷ more) = Misses channel (trace calls) × KeepsMissing channel (calls ▸ call) more

-- ".. is asked within 32 granted requests": among so many more that are granted, one goes to it
abbrev pub AskedWithin32 : Type 0
AskedWithin32 =
    (channel : ℕ) (calls : Calls) (more : List Call) → KeepsMissing channel calls more → grants (trace calls) + 32 ≤ grants (trace (followed calls more))
    → grants_on channel (trace calls) < grants_on channel (trace (followed calls more))

-- ======== A new session (request 12)

-- told from the calls: nothing is pending, each channel has seen a new session, and no other word
-- changes. (`NewSession` of Given.antt tells it of the table.)
pub record SessionTold (h next : History) : Type 0 where
  pub none_pending : line next ≡ quiet
  pub opened_same : (channel : ℕ) → opened channel next ≡ opened channel h
  pub since_has : (channel : ℕ) → since channel next ≡ ledger-trace.◌▸◌ (since channel h) ledger.Renew
  pub grants_same : grants next ≡ grants h
  pub grants_on_same : (channel : ℕ) → grants_on channel next ≡ grants_on channel h
