-- Document 01, "What each number says": when a call on any state, sound or not, is answered 0 or 10
-- to 18. A record for each number: the checks before it in the document's order pass, and its own
-- fails. proofs/Given.antt proves each by a theorem `given_N`, both ways.
use Rattle.std.specs.Prelude.{◌≡◌, ◌⊎◌, ℕ, ◌+◌, ◌-◌, ◌≤◌, ◌<◌}
use Rattle.tick_map.specs.Bits.{bit}
use Rattle.ledger_spec.specs.State.{nothing, range, Book, largest, StateRules}
use Rattle.ledger_spec.specs.Calls.{Call, Tick, Announce, Request, Reply, Ask, Missing, Held, Between, Renew}

-- the call names the ledger's own channel; the first two counts and a new session name none
abbrev pub Own : Book → Call → Type 0
Own b (Tick channel n) = channel ≡ b.channel
Own b (Announce channel n) = channel ≡ b.channel
Own b (Request channel) = channel ≡ b.channel
Own b (Reply channel first status) = channel ≡ b.channel
Own b (Ask Missing) = Unit
Own b (Ask Held) = Unit
Own b (Ask (Between channel a z)) = channel ≡ b.channel
Own b Renew = Unit

-- settled (received, or given up): up to the floor, or held above it
pub record HeldAt (b : Book) (n : ℕ) : Type 0 where
  pub above : b.floor < n
  pub set : bit b.bits (n - b.floor - 1) ≡ 1

abbrev pub SettledAt : Book → ℕ → Type 0
SettledAt b n = (n ≤ b.floor) ⊎ HeldAt b n

-- missing: up to the top, and not settled
pub record MissingAt (b : Book) (n : ℕ) : Type 0 where
  pub above : 1 ≤ n
  pub low : n ≤ b.top
  pub not_settled : SettledAt b n → ⊥

abbrev pub StatusRight : ℕ → Type 0
StatusRight s = ((1 ≤ s) × (s ≤ 5)) ⊎ (s ≡ 99)

-- 18: "call names another channel"
pub record Given18 (b : Book) (call : Call) : Type 0 where
  pub rules : StateRules b
  pub other : Own b call → ⊥

-- 10: "tick number 0 or above 18 digits; announced top above 18 digits"
pub record Given10Tick (b : Book) (channel n : ℕ) : Type 0 where
  pub rules : StateRules b
  pub own : channel ≡ b.channel
  pub number : (n ≡ 0) ⊎ (largest < n)

pub record Given10Announcement (b : Book) (channel n : ℕ) : Type 0 where
  pub rules : StateRules b
  pub own : channel ≡ b.channel
  pub number : largest < n

-- "10 for an a or b that is 0 or too long": either of them, and the span may lie anywhere
pub record Given10Between (b : Book) (channel a z : ℕ) : Type 0 where
  pub rules : StateRules b
  pub own : channel ≡ b.channel
  pub number : ((a ≡ 0) ⊎ (largest < a)) ⊎ ((z ≡ 0) ⊎ (largest < z))

-- 11: "tick already received", or given up
pub record Given11 (b : Book) (channel n : ℕ) : Type 0 where
  pub rules : StateRules b
  pub own : channel ≡ b.channel
  pub above : 1 ≤ n
  pub digits : n ≤ largest
  pub repeat : SettledAt b n

-- 12: "tick above floor + 256 and not a repeat"
pub record Given12 (b : Book) (channel n : ℕ) : Type 0 where
  pub rules : StateRules b
  pub own : channel ≡ b.channel
  pub above : 1 ≤ n
  pub digits : n ≤ largest
  pub no_repeat : SettledAt b n → ⊥
  pub far : b.floor + 256 < n

-- 14: "a request is pending"
pub record Given14 (b : Book) (channel : ℕ) : Type 0 where
  pub rules : StateRules b
  pub own : channel ≡ b.channel
  pub first : ℕ
  pub last : ℕ
  pub busy : b.pending ≡ range first last

-- 15: "nothing is missing"
pub record Given15 (b : Book) (channel : ℕ) : Type 0 where
  pub rules : StateRules b
  pub own : channel ≡ b.channel
  pub free : b.pending ≡ nothing
  pub whole : (n : ℕ) → MissingAt b n → ⊥

-- 17: "reply status not 1 to 5 or 99"
pub record Given17 (b : Book) (channel first status : ℕ) : Type 0 where
  pub rules : StateRules b
  pub own : channel ≡ b.channel
  pub wrong : StatusRight status → ⊥

-- 16: "reply with no request pending, or with another first number"
pub record Given16 (b : Book) (channel first status : ℕ) : Type 0 where
  pub rules : StateRules b
  pub own : channel ≡ b.channel
  pub right : StatusRight status
  pub unasked : (last : ℕ) → b.pending ≡ range first last → ⊥

-- 0: "none of the below", for each call
pub record FineTick (b : Book) (n : ℕ) : Type 0 where
  pub above : 1 ≤ n
  pub digits : n ≤ largest
  pub no_repeat : SettledAt b n → ⊥
  pub near : n ≤ b.floor + 256

pub record FineRequest (b : Book) : Type 0 where
  pub free : b.pending ≡ nothing
  pub number : ℕ
  pub is_missing : MissingAt b number

pub record FineReply (b : Book) (first status : ℕ) : Type 0 where
  pub right : StatusRight status
  pub last : ℕ
  pub own_request : b.pending ≡ range first last

pub record FineBetween (a z : ℕ) : Type 0 where
  pub from_above : 1 ≤ a
  pub from_digits : a ≤ largest
  pub to_above : 1 ≤ z
  pub to_digits : z ≤ largest

abbrev pub Fine : Book → Call → Type 0
Fine b (Tick channel n) = FineTick b n
Fine b (Announce channel n) = n ≤ largest
Fine b (Request channel) = FineRequest b
Fine b (Reply channel first status) = FineReply b first status
Fine b (Ask Missing) = Unit
Fine b (Ask Held) = Unit
Fine b (Ask (Between channel a z)) = FineBetween a z
Fine b Renew = Unit

pub record Given0 (b : Book) (call : Call) : Type 0 where
  pub rules : StateRules b
  pub own : Own b call
  pub fine : Fine b call
