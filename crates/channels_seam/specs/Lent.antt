-- Request 3 of a table that a host lends, sentence by sentence: over the history that the caller
-- has seen and the table that he finds. `Words.antt` of `channels_spec` tells the words (opened,
-- since, line, grants) from a history alone. proofs/Lent.antt proves each sentence for every row of
-- calls on the empty table, whatever meets their promise.
use Rattle.std.specs.Prelude.{◌≡◌, true, false, ◌↔◌, ℕ, ◌+◌, ◌%◌, ◌≤◌, ◌<◌, get_or}
use Rattle.terms.specs.Paper.{Paper, answer}
use Rattle.tick_map.specs.Bits.{is_set}
use Rattle.ledger_spec.specs.State.{Book}
use Rattle.ledger_spec.specs.Calls.{fresh}
use Rattle.ledger_spec.specs.Trace as ledger-trace
use Rattle.ledger_spec.specs.Words.{value_at, pending}
use Rattle.ledger_spec.specs.Answers.{TickAnswers, AnnounceAnswers, ReplyAnswers, OnlyTop}
use Rattle.ledger_spec.specs.Answers as ledger-answers
use Rattle.ledger_spec.specs.Between.{BetweenAnswers}
use Rattle.ledger_spec.specs.Demand3.{Demand3}
use Rattle.host_words.specs.Words.{book_in}
use Rattle.channels_spec.specs.Calls.{Call, To, Told, Tick, Announce, Reply, Between}
use Rattle.channels_spec.specs.Trace.{History, ◌▸◌⇒◌}
use Rattle.channels_spec.specs.Words.{opened, since, own_history, quiet, asks, line, pending_on}
use Rattle.channels_spec.specs.Demand.{Misses}
use Rattle.channels_spec.specs.Given.{Names}
use Rattle.channels_seam.specs.Table.{told_from}
use Rattle.channels.specs.declared.Channels.{Channels}
use Rattle.channels.specs.declared.ChannelCall.{ChannelCall}
use Rattle.channels.specs.declared.ChannelTold.{ChannelTold}
use Rattle.channels.specs.Answered.{row_of, blank}
use Rattle.channels.specs.Serves.{row_at, Serves}
use Rattle.channels_seam.specs.Kept.{call_of, seen}

-- what a place of a lent table is: whether it is open, the channel beside it, its ledger
abbrev pub is_used : Channels → ℕ → Type 0
is_used x i = is_set x.index.used i ≡ true

abbrev pub name_at : Channels → ℕ → ℕ
name_at x i = get_or x.names.channels i 0

abbrev pub book_at : Channels → ℕ → Book
book_at x i = book_in (row_at x i).words

-- ======== Each channel

-- "Demand 3 holds for each channel from its opening"
pub record LentChannel (h : History) (channel : ℕ) (x : Channels) : Type 0 where
  pub place : ℕ
  pub below_32 : place < 32
  pub used : is_used x place
  pub name_is : name_at x place ≡ channel
  pub row_is : row_at x place ≡ row_of (ledger-trace.after channel (since channel h))
  pub demand : Demand3 (own_history channel h) channel (book_at x place)
  pub no_other : (i : ℕ) → i < 32 → is_used x i → name_at x i ≡ channel → i ≡ place

-- and every open place is such a channel's
pub record LentPlace (h : History) (x : Channels) (i : ℕ) : Type 0 where
  pub is_open_holds : opened (name_at x i) h ≡ true
  pub small : name_at x i ≤ 9999

-- what is said to it is answered so
pub record LentAnswers (h : History) (channel : ℕ) (call : Call) (a : Paper) : Type 0 where
  pub tick : (n : ℕ) → call ≡ To channel (Tick n) → TickAnswers (own_history channel h) n a
  pub announcement : (n : ℕ) → call ≡ To channel (Announce n) → AnnounceAnswers n a
  pub reply : (first status : ℕ) → call ≡ To channel (Reply first status) → ReplyAnswers (own_history channel h) first status a
  pub between : (p z : ℕ) → call ≡ To channel (Between p z) → BetweenAnswers (own_history channel h) p z a
  pub told : call ≡ Told channel → a ≡ answer 0 (told_from (own_history channel h) (pending_on channel (line h)))

-- ======== One pending

-- `asked` names the place of the channel whose request is on the line, or is 32; and what is
-- pending in a ledger is that request
pub record LentPending (h : History) (x : Channels) : Type 0 where
  pub none_asked : line h ≡ quiet → x.index.asked ≡ 32
  pub asked_place : (channel first last : ℕ) → line h ≡ asks channel first last → x.index.asked < 32
  pub asked_used : (channel first last : ℕ) → line h ≡ asks channel first last → is_used x x.index.asked
  pub asked_name : (channel first last : ℕ) → line h ≡ asks channel first last → name_at x x.index.asked ≡ channel
  pub pending_is : (i : ℕ) → i < 32 → is_used x i → (book_at x i).pending ≡ pending_on (name_at x i) (line h)
  pub own_calls : (channel : ℕ) → opened channel h ≡ true → pending (own_history channel h) ≡ pending_on channel (line h)

-- ======== Whose turn

-- "The next one goes to the first channel with something missing, counted round from the place
-- after the last one asked", and that place is then the one last asked
pub record LentTurn (h : History) (x : Channels) (a : Paper) (next : Channels) : Type 0 where
  pub steps : ℕ
  pub below_32 : steps < 32
  pub used : is_used x ((x.index.last + 1 + steps) % 32)
  pub name_is : name_at x ((x.index.last + 1 + steps) % 32) ≡ value_at a 0
  pub misses_one : Misses (value_at a 0) h
  pub none_before : (k : ℕ) → k < steps → is_used x ((x.index.last + 1 + k) % 32) → Misses (name_at x ((x.index.last + 1 + k) % 32)) h → ⊥
  pub now_last : next.index.last ≡ (x.index.last + 1 + steps) % 32

-- "A channel that stays open and keeps something missing": calls that follow, each of which finds
-- it so
pub data LentThen (channel : ℕ) : History → Channels → History → Channels → Type 0 where
  no_more : {h : History} {x : Channels} → LentThen channel h x h x
  and_then : {h g : History} {x y z : Channels} {told : ChannelTold} (call : ChannelCall) → Misses channel h → Serves x call told y
      → LentThen channel (h ▸ call_of call ⇒ seen (call_of call) told) y g z → LentThen channel h x g z

-- ======== Opening and closing

-- the places, names and rows but one are as they were
pub record OtherPlaces (x next : Channels) (place : ℕ) : Type 0 where
  pub used_same : (i : ℕ) → i < 32 → (i ≡ place → ⊥) → is_set next.index.used i ≡ is_set x.index.used i
  pub name_same : (i : ℕ) → i < 32 → (i ≡ place → ⊥) → name_at next i ≡ name_at x i
  pub row_same : (i : ℕ) → i < 32 → (i ≡ place → ⊥) → row_at next i ≡ row_at x i
  pub last_same : next.index.last ≡ x.index.last

-- "Opening takes the lowest free place."
pub record LentOpens (x : Channels) (channel : ℕ) (next : Channels) : Type 0 where
  pub place : ℕ
  pub below_32 : place < 32
  pub was_free : is_set x.index.used place ≡ false
  pub lowest : (i : ℕ) → i < place → is_used x i
  pub used : is_used next place
  pub name_is : name_at next place ≡ channel
  pub row_is : row_at next place ≡ row_of (fresh channel)
  pub others : OtherPlaces x next place

-- a closing: its place is free, and nothing is pending for it
pub record LentCloses (x : Channels) (channel : ℕ) (next : Channels) : Type 0 where
  pub place : ℕ
  pub below_32 : place < 32
  pub was_used : is_used x place
  pub name_was : name_at x place ≡ channel
  pub freed : is_set next.index.used place ≡ false
  pub row_is : row_at next place ≡ blank
  pub not_asked : next.index.asked ≡ place → ⊥
  pub others : OtherPlaces x next place

-- a place is free
pub record LentFree (x : Channels) : Type 0 where
  pub place : ℕ
  pub below_32 : place < 32
  pub is_free_holds : is_set x.index.used place ≡ false

-- when an opening is answered which number: "10, then 22 already open, then 21 table full"
pub record LentOpening (h : History) (x : Channels) (channel : ℕ) (a : Paper) : Type 0 where
  pub exactly_10 : (a.number ≡ 10) ↔ (9999 < channel)
  pub exactly_22 : (a.number ≡ 22) ↔ ((channel ≤ 9999) × (opened channel h ≡ true))
  pub exactly_21 : (a.number ≡ 21) ↔ ((channel ≤ 9999) × ((opened channel h ≡ false) × ((i : ℕ) → i < 32 → is_used x i)))
  pub exactly_0 : (a.number ≡ 0) ↔ ((channel ≤ 9999) × ((opened channel h ≡ false) × LentFree x))

-- a closing: 0 for an open channel, whatever is pending, and else 18
pub record LentClosing (h : History) (channel : ℕ) (a : Paper) : Type 0 where
  pub exactly_0 : (a.number ≡ 0) ↔ (opened channel h ≡ true)
  pub exactly_18 : (a.number ≡ 18) ↔ (opened channel h ≡ false)

-- "18 for a channel not open"
pub record LentNotOpen (h : History) (call : Call) : Type 0 where
  pub channel : ℕ
  pub named : Names call channel
  pub not_open : opened channel h ≡ false

-- ======== 12 raises the top of the channel that the tick names, and changes nothing else

pub record LentRaises (x : Channels) (channel n : ℕ) (next : Channels) : Type 0 where
  pub place : ℕ
  pub below_32 : place < 32
  pub used : is_used x place
  pub name_is : name_at x place ≡ channel
  pub only_top : OnlyTop (book_at x place) (book_at next place) n
  pub others : OtherPlaces x next place

-- ======== A new session: nothing is pending, and all else stays, the turn too

pub record LentSession (x : Channels) (a : Paper) (next : Channels) : Type 0 where
  pub answer_0 : a.number ≡ 0
  pub none_asked : next.index.asked ≡ 32
  pub last_same : next.index.last ≡ x.index.last
  pub used_same : (i : ℕ) → i < 32 → is_set next.index.used i ≡ is_set x.index.used i
  pub name_same : (i : ℕ) → i < 32 → name_at next i ≡ name_at x i
  pub only_cleared : (i : ℕ) → i < 32 → is_used x i → ledger-answers.NewSession (book_at x i) a (book_at next i)
