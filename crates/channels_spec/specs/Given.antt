-- Documents 01 and 02: when a call on a table is given each number. A record for each: the checks
-- before it in the documents' order pass, and its own fails. proofs/Given.antt proves each by a
-- theorem `given_N`, both ways, for every table that keeps its rules; told from the calls alone, 0,
-- 14 and 15 of a request stand in Demand.antt. (13 is `channels`'.)
use Rattle.std.specs.Prelude.{◌≡◌, true, false, ◌⊎◌, ℕ, ◌≤◌, ◌<◌, []}
use Rattle.terms.specs.Paper.{Paper, answer}
use Rattle.ledger_spec.specs.State.{Book, largest, nothing, range}
use Rattle.ledger_spec.specs.Calls.{fresh}
use Rattle.ledger_spec.specs.Words.{answered}
use Rattle.ledger_spec.specs.Given.{MissingAt, StatusRight}
use Rattle.ledger_spec.specs.Answers as ledger-answers
use Rattle.ledger_spec.specs.Answers.{OnlyTop}
use Rattle.channels_spec.specs.Table.{free, holds, Table}
use Rattle.channels_spec.specs.Calls.{Call, Open, Close, Request, To, Told, Renew, Tick}

-- a channel is open: its ledger stands at a place
pub record OpenIn (t : Table) (channel : ℕ) : Type 0 where
  pub place : ℕ
  pub book : Book
  pub is : t.place place ≡ holds book
  pub own : book.channel ≡ channel

-- ======== Opening: 10, 22, 21

pub record Given22 (t : Table) (channel : ℕ) : Type 0 where
  pub small : channel ≤ 9999
  pub twice : OpenIn t channel

pub record Given21 (t : Table) (channel : ℕ) : Type 0 where
  pub small : channel ≤ 9999
  pub new : OpenIn t channel → ⊥
  pub full : (i : ℕ) → i < 32 → t.place i ≡ free → ⊥

pub record FineOpening (t : Table) (channel : ℕ) : Type 0 where
  pub small : channel ≤ 9999
  pub new : OpenIn t channel → ⊥
  pub place : ℕ
  pub below_32 : place < 32
  pub is_free_holds : t.place place ≡ free

-- "Opening takes the lowest free place."
pub record Opens (t : Table) (channel : ℕ) (next : Table) : Type 0 where
  pub place : ℕ
  pub below_32 : place < 32
  pub was_free : t.place place ≡ free
  pub lowest : (i : ℕ) → i < place → t.place i ≡ free → ⊥
  pub fresh_there : next.place place ≡ holds (fresh channel)
  pub others : (i : ℕ) → (i ≡ place → ⊥) → next.place i ≡ t.place i
  pub last_same : next.last ≡ t.last

-- ======== Closing

-- "Closing frees its place": its pending request goes with the ledger, and another's stays
pub record Closes (t : Table) (channel : ℕ) (next : Table) : Type 0 where
  pub was : OpenIn t channel
  pub freed : next.place was.place ≡ free
  pub closed : OpenIn next channel → ⊥
  pub others : (i : ℕ) → (i ≡ was.place → ⊥) → next.place i ≡ t.place i
  pub last_same : next.last ≡ t.last

-- ======== A request: 14, 15

-- a request is pending: in some open channel's ledger
pub record SomePending (t : Table) : Type 0 where
  pub channel : ℕ
  pub at : OpenIn t channel
  pub first : ℕ
  pub last : ℕ
  pub busy : at.book.pending ≡ range first last

-- an open channel misses a number
pub record SomeMisses (t : Table) : Type 0 where
  pub channel : ℕ
  pub at : OpenIn t channel
  pub number : ℕ
  pub is_missing : MissingAt at.book number

pub record Given15 (t : Table) : Type 0 where
  pub none_pending : SomePending t → ⊥
  pub none_missing : SomeMisses t → ⊥

pub record FineRequest (t : Table) : Type 0 where
  pub none_pending : SomePending t → ⊥
  pub some : SomeMisses t

-- ======== 18: the call names a channel that is not open. An opening, a request and a new
-- session name none

abbrev pub Names : Call → ℕ → Type 0
Names (Open c) channel = ⊥
Names (Close c) channel = c ≡ channel
Names Request channel = ⊥
Names (To c said) channel = c ≡ channel
Names (Told c) channel = c ≡ channel
Names Renew channel = ⊥

pub record Given18 (t : Table) (call : Call) : Type 0 where
  pub channel : ℕ
  pub named : Names call channel
  pub not_open : OpenIn t channel → ⊥

-- ======== What is said to an open channel: the ledger's own checks

pub record Given10Tick (t : Table) (channel n : ℕ) : Type 0 where
  pub at : OpenIn t channel
  pub number : (n ≡ 0) ⊎ (largest < n)

pub record Given10Announcement (t : Table) (channel n : ℕ) : Type 0 where
  pub at : OpenIn t channel
  pub number : largest < n

pub record Given10Between (t : Table) (channel a z : ℕ) : Type 0 where
  pub at : OpenIn t channel
  pub number : ((a ≡ 0) ⊎ (largest < a)) ⊎ ((z ≡ 0) ⊎ (largest < z))

pub record Given17 (t : Table) (channel first status : ℕ) : Type 0 where
  pub at : OpenIn t channel
  pub wrong : StatusRight status → ⊥

-- 16: nothing is pending on this channel, or from another first number; so "also for a reply on an
-- open channel other than the one asked"
pub record Given16 (t : Table) (channel first status : ℕ) : Type 0 where
  pub at : OpenIn t channel
  pub right : StatusRight status
  pub unasked : (last : ℕ) → at.book.pending ≡ range first last → ⊥

-- ======== What a refusal leaves

-- 12 may raise the top of the channel that the tick names, and changes nothing else
pub record Raises (t : Table) (call : Call) (next : Table) : Type 0 where
  pub channel : ℕ
  pub n : ℕ
  pub is_tick_holds : call ≡ To channel (Tick n)
  pub at : OpenIn t channel
  pub book : Book
  pub there : next.place at.place ≡ holds book
  pub only_top : OnlyTop at.book book n
  pub others : (i : ℕ) → (i ≡ at.place → ⊥) → next.place i ≡ t.place i
  pub last_same : next.last ≡ t.last

pub record Keeps (t : Table) (call : Call) (next : Table) (a : Paper) : Type 0 where
  pub same : answered a 0 ≡ false → answered a 12 ≡ false → next ≡ t
  pub far : answered a 12 ≡ true → Raises t call next

-- ======== A new session (request 12)

-- it is answered 0; the ledger with a request pending is the same but for that request; every other
-- place, and the place last asked, are as they were
pub record NewSession (t : Table) (a : Paper) (next : Table) : Type 0 where
  pub answer_is : a ≡ answer 0 []
  pub last_same : next.last ≡ t.last
  pub free_same : (i : ℕ) → t.place i ≡ free → next.place i ≡ free
  pub others_same : (i : ℕ) (b : Book) → t.place i ≡ holds b → b.pending ≡ nothing → next.place i ≡ t.place i
  pub next_book : (i : ℕ) (b : Book) → t.place i ≡ holds b → Book
  pub there : (i : ℕ) (b : Book) (e : t.place i ≡ holds b) → next.place i ≡ holds (next_book i b e)
  pub only_cleared : (i : ℕ) (b : Book) (e : t.place i ≡ holds b) → ledger-answers.NewSession b (answer 0 []) (next_book i b e)
