-- When a call on a lent table is answered 13: the rules of the index and of a row, and which row a
-- call looks at, for every table that a host can hand in. docs/STATES.md tells the rules.
-- proofs/Broken.antt proves `given_13`, both ways. No definition of the promise stands here.
use Rattle.std.specs.Prelude.{◌≡◌, true, false, ◌⊎◌, ◌↔◌, ℕ, ◌+◌, ◌%◌, ◌^◌, ◌<◌}
use Rattle.tick_map.specs.Bits.{is_set}
use Rattle.ledger_spec.specs.State.{range, Book, StateRules}
use Rattle.channels_spec.specs.Calls.{Call, Open, Close, Request, To, Told, Renew}
use Rattle.channels.specs.declared.Channels.{Channels}
use Rattle.channels.specs.declared.Index.{Index}
use Rattle.channels_seam.specs.Lent.{is_used, name_at, book_at}

-- ======== The index

-- 32 places; a place that lacks something is open; `last` is a place; `asked` is an open place, or
-- 32
pub record IndexRules (x : Index) : Type 0 where
  pub places : x.used < 2 ^ 32
  pub lacking_open : (i : ℕ) → is_set x.lacking i ≡ true → is_set x.used i ≡ true
  pub last_in : x.last < 32
  pub asked_open : (x.asked ≡ 32) ⊎ ((x.asked < 32) × (is_set x.used x.asked ≡ true))

-- a channel stands at one open place, at most
abbrev pub NamedOnce : Channels → ℕ → Type 0
NamedOnce x channel = (i j : ℕ) → i < 32 → j < 32 → is_used x i → is_used x j → name_at x i ≡ channel → name_at x j ≡ channel → i ≡ j

-- ======== A row

pub record HasPending (b : Book) : Type 0 where
  pub first : ℕ
  pub last : ℕ
  pub is : b.pending ≡ range first last

-- a sound ledger, of the channel beside it; its bit says whether something is missing; its request
-- is pending exactly where `asked` says
pub record RowRules (x : Channels) (i : ℕ) : Type 0 where
  pub sound : StateRules (book_at x i)
  pub own : name_at x i ≡ (book_at x i).channel
  pub lacks : (is_set x.index.lacking i ≡ true) ↔ ((book_at x i).floor < (book_at x i).top)
  pub asks : (x.index.asked ≡ i) ↔ HasPending (book_at x i)

-- ======== Which row a call looks at

-- the channel that a call names, an opening too
abbrev pub Speaks : Call → ℕ → Type 0
Speaks (Open c) channel = c ≡ channel
Speaks (Close c) channel = c ≡ channel
Speaks Request channel = ⊥
Speaks (To c said) channel = c ≡ channel
Speaks (Told c) channel = c ≡ channel
Speaks Renew channel = ⊥

-- a request and a new session name none
abbrev pub NamesNone : Call → Type 0
NamesNone (Open c) = ⊥
NamesNone (Close c) = ⊥
NamesNone Request = Unit
NamesNone (To c said) = ⊥
NamesNone (Told c) = ⊥
NamesNone Renew = Unit

-- the open place of the channel named; the place whose request is pending; or, for a request where
-- none is, the first place that lacks something, counted round from the one after the last asked
pub data LooksAt (x : Channels) : Call → ℕ → Type 0 where
  at_channel : {call : Call} {channel i : ℕ} → Speaks call channel → i < 32 → is_used x i → name_at x i ≡ channel → LooksAt x call i
  at_asked : {call : Call} → NamesNone call → x.index.asked < 32 → LooksAt x call x.index.asked
  at_turn : (k : ℕ) → k < 32 → x.index.asked ≡ 32 → is_set x.index.lacking ((x.index.last + 1 + k) % 32) ≡ true
      → ((j : ℕ) → j < k → is_set x.index.lacking ((x.index.last + 1 + j) % 32) ≡ false) → LooksAt x Request ((x.index.last + 1 + k) % 32)

-- ======== 13: the index, or the row that the call looks at, breaks its rules

pub data Unsound (x : Channels) (call : Call) : Type 0 where
  bad_index : (IndexRules x.index → ⊥) → Unsound x call
  twice : {channel : ℕ} → Speaks call channel → (NamedOnce x channel → ⊥) → Unsound x call
  bad_row : {i : ℕ} → LooksAt x call i → (RowRules x i → ⊥) → Unsound x call
