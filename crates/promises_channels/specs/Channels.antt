-- Request 3, sentence by sentence: thirty-two channels, one line. `LentRan h x`: rows of calls on
-- the empty table, refusals among them, by whatever meets the promise of rk_channels (`Serves`);
-- the caller has seen the history h, and finds the table x. The words (opened, since, ownHistory,
-- line, grants) are told from the history alone: Words.antt of `channels_spec`.
use Rattle.std.specs.Prelude.{ℕ, ◌+◌, ◌%◌, ◌≤◌, ◌<◌, ◌≡◌, refl, true, false, ◌↔◌}
use Rattle.std.proofs.Common.{sym, subst}
use Rattle.terms.specs.Paper.{Paper}
use Rattle.ledger_spec.specs.Words.{answered}
use Rattle.ledger_spec.specs.Given.{StatusRight}
use Rattle.ledger_spec.specs.Answers.{refused_reply}
use Rattle.host_words.specs.Told.{Refuses}
use Rattle.channels_spec.specs.Table.{counted, empty}
use Rattle.channels_spec.specs.Calls.{Open, Close, Request, To, Renew, Tick, Reply}
use Rattle.channels_spec.specs.Trace.{History, start, ◌▸◌⇒◌}
use Rattle.channels_spec.specs.Words.{opened, asks, line, grants, grants_on}
use Rattle.channels_spec.specs.Demand.{Requests, SessionTold}
use Rattle.channels_spec.proofs.Fair as Fair
use Rattle.channels.specs.declared.Channels.{Channels}
use Rattle.channels.specs.declared.ChannelCall.{ChannelCall}
use Rattle.channels.specs.declared.ChannelTold.{ChannelTold}
use Rattle.channels.specs.Serves.{empty_channels, Serves}
use Rattle.host_channels.specs.declared.Exchange.{Exchange}
use Rattle.host_channels.specs.Exchanges.{Exchanges}
use Rattle.channels.proofs.Channels.none.Reads as none
use Rattle.channels.proofs.Channels.none.Kinds as none-kinds
use Rattle.channels_seam.specs.Kept.{call_of, seen, LentRan, opening}
use Rattle.channels_seam.specs.Lent.{is_used, LentChannel, LentPlace, LentAnswers, LentPending, LentTurn, LentThen, LentOpens, LentCloses, LentOpening, LentClosing, LentNotOpen, LentRaises, LentSession}
use Rattle.channels_seam.specs.Table.{TakesPlace}
use Rattle.channels_seam.specs.Stays.{LentStays, LentLast, LentRules}
use Rattle.channels_seam.specs.Seats.{LentSeats}
use Rattle.channels_seam.specs.Broken.{Unsound}
use Rattle.channels_seam.specs.Numbers.{table_number}
use Rattle.channels_seam.proofs.Lent as Lent
use Rattle.channels_seam.proofs.Stays as Stays
use Rattle.channels_seam.proofs.Seats as Seats
use Rattle.channels_seam.proofs.Broken as Broken
use Rattle.channels_seam.proofs.Numbers as Numbers
use Rattle.promises_words.specs.Words.{Promises}

-- what the promise of rk_channels allows, to a table and to the call and answer lent beside it, is
-- such a call
pub exchange_serves : (was : Channels) (lent : Exchange) (next : Channels) (told : Exchange) → Exchanges was lent next told → Serves was lent.call told.told next
exchange_serves was lent next told p = p.serves

-- the table that a program starts from: no channel is open, and no call was made
pub starts_empty : Promises _ none-kinds.ps none-kinds.r none.Post (λ κs a x s. LentRan start x)
starts_empty κs a x s p = subst (LentRan start) (sym p) opening

-- "Hold up to 32 ledgers in one table": each open place has a channel that was opened and not
-- closed since, and no channel stands at two
pub up_to_32 : {h : History} {x : Channels} → LentRan h x → (i : ℕ) → i < 32 → is_used x i → LentPlace h x i
up_to_32 = Lent.lent_place

-- "Demand 3 holds for each channel from its opening": of its ledger, and of each answer
pub each_channel : {h : History} {x : Channels} → LentRan h x → (channel : ℕ) → opened channel h ≡ true → LentChannel h channel x
each_channel = Lent.lent_channel

-- One request at a time is pending in a table, whichever channel it is on
pub one_pending : {h : History} {x : Channels} → LentRan h x → LentPending h x
one_pending = Lent.lent_pending

-- who stands at each place, and which place was asked last, are told from the history alone: the
-- turn below is counted from there
pub places_told : {h : History} {x : Channels} → LentRan h x → LentSeats h x
places_told = Seats.lent_seats

-- the rules of the index and of each open row hold after every call, and a free place is blank
pub rules_kept : {h : History} {x : Channels} → LentRan h x → LentRules x
rules_kept = Stays.lent_rules

-- "at first from the first place"
pub first_from_first : (k : ℕ) → k < 32 → counted empty k ≡ k
first_from_first = Fair.counts_from_first

pub first_last : empty_channels.index.last ≡ empty.last
first_last = refl

-- An open channel that goes on lacking a number has one of any 32 granted requests
pub asked_within_32 : {h g : History} {x y : Channels} (channel : ℕ) → LentRan h x → LentThen channel h x g y → grants h + 32 ≤ grants g → grants_on channel h < grants_on channel g
asked_within_32 = Lent.lent_within_32

-- and of one more call, of which the caller sees a:
module _ {h : History} {x : Channels} (ran : LentRan h x) {next : Channels} {told : ChannelTold} (call : ChannelCall) (serves : Serves x call told next) where
  abbrev a : Paper
  a = seen (call_of call) told

  -- what is said to an open channel is answered from what was said to it since its opening, and
  -- what it tells (floor, top, how many missing and held, the pending request) is told from that
  pub each_answer : (channel : ℕ) → opened channel h ≡ true → LentAnswers h channel (call_of call) a
  each_answer = Lent.lent_answers ran call serves

  -- "a request is given exactly when some open channel misses a number and none is pending in the
  -- table"; 14 exactly when one is; else 15. The range is that channel's lowest run
  pub given_request : call_of call ≡ Request → Requests h a
  given_request = Lent.lent_requests ran call serves

  -- "The next one goes to the first channel with something missing, counted round from the place
  -- after the last one asked"
  pub whose_turn : call_of call ≡ Request → answered a 0 ≡ true → LentTurn h x a next
  whose_turn = Lent.lent_turn ran call serves

  -- the place last asked: a granted request moves it to the place of the channel that it went to,
  -- and nothing else moves it
  pub last_asked : LentLast x (call_of call) a next
  last_asked = Stays.lent_last ran call serves

  -- every channel stays at its place, but by an opening or a closing
  pub places_stay : (TakesPlace (call_of call) → ⊥) → LentStays x next
  places_stay = Stays.lent_stays ran call serves

  -- "Opening takes the lowest free place."
  pub lowest_free : (channel : ℕ) → call_of call ≡ Open channel → answered a 0 ≡ true → LentOpens x channel next
  lowest_free = Lent.lent_opens ran call serves

  -- A channel that is closed gives back its place, and what was pending on it is gone
  pub closing_frees : (channel : ℕ) → call_of call ≡ Close channel → answered a 0 ≡ true → LentCloses x channel next
  closing_frees = Lent.lent_closes ran call serves

  -- a closing is answered 0 exactly for an open channel, its request pending or not
  pub closing_numbers : (channel : ℕ) → call_of call ≡ Close channel → LentClosing h channel a
  closing_numbers = Lent.lent_closing ran call serves

  -- "18 for a channel not open"
  pub given_18 : (a.number ≡ 18) ↔ LentNotOpen h (call_of call)
  given_18 = Lent.lent_18 ran call serves

  -- "16 also for a reply on an open channel other than the one asked"
  pub other_reply_16 : (channel first status other from to : ℕ) → call_of call ≡ To channel (Reply first status) → opened channel h ≡ true
      → line h ≡ asks other from to → (other ≡ channel → ⊥) → StatusRight status → a ≡ refused_reply 16
  other_reply_16 = Lent.lent_other_16 ran call serves

  -- "on opening, 10, then 22 already open, then 21 table full", and else 0
  pub opening_numbers : (channel : ℕ) → call_of call ≡ Open channel → LentOpening h x channel a
  opening_numbers = Lent.lent_opening ran call serves

  -- 12 raises the top of the channel that the tick names, and nothing else
  pub far_raises_top : (channel n : ℕ) → call_of call ≡ To channel (Tick n) → answered a 12 ≡ true → LentRaises x channel n next
  far_raises_top = Lent.lent_raises ran call serves

  -- request 12: a new session clears the pending request, whichever channel it is on, and keeps all
  -- else, the turn too
  pub new_session : call_of call ≡ Renew → LentSession x a next
  new_session = Lent.lent_session ran call serves

  -- the same told from the calls: nothing is pending, each channel has seen it, and no other word
  -- changes
  pub new_session_told : call_of call ≡ Renew → SessionTold h (h ▸ Renew ⇒ a)
  new_session_told = Stays.lent_session_told ran call serves

  -- 13 is never met by a table that calls have made
  pub never_13 : answered a 13 ≡ false
  never_13 = Lent.lent_never_13 ran call serves

-- OF EVERY TABLE that a host hands in, sound or not: 13 exactly where the index, or the row that
-- the call looks at, breaks its rules
pub given_13 : {x next : Channels} {told : ChannelTold} (call : ChannelCall) → Serves x call told next → (told.answer ≡ 13) ↔ Unsound x (call_of call)
given_13 = Broken.given_13

-- "each leaving the table as found": names, index and rows, byte for byte, save 12's top
pub refused_keeps : {was next : Channels} {told : ChannelTold} (call : ChannelCall) → Serves was call told next → Refuses told.answer → (told.answer ≡ 12 → ⊥) → next ≡ was
refused_keeps = Lent.served_refused

-- and every answer is 0, a number of the ledger's calls, 21 or 22 (`rk_channels_numbered` of
-- HostNumbers.antt: 0, or a number of the table)
pub channels_numbered : {x next : Channels} {told : ChannelTold} (call : ChannelCall) → Serves x call told next → table_number told.answer ≡ true
channels_numbered = Numbers.table_number_lem
