-- The words of request 3, each told from a history alone: the calls and their answers, and no
-- table.
use Rattle.std.specs.Prelude.{Bool, false, ◌&&◌, ℕ, ◌+◌, eqb}
use Rattle.terms.specs.Paper.{Paper, pick}
use Rattle.ledger_spec.specs.State.{Asked, nothing, range, or_else}
use Rattle.ledger_spec.specs.Calls as ledger
use Rattle.ledger_spec.specs.Trace as ledger-trace
use Rattle.ledger_spec.specs.Words.{value_at, answered, one}
use Rattle.channels_spec.specs.Calls.{Call, Open, Close, Request, To, Told, Renew, Said, Tick, Announce, Reply, Between, called}
use Rattle.channels_spec.specs.Trace.{History, start, ◌▸◌⇒◌}

-- the channel is open: opened, and not closed since
unfoldable pub opened : ℕ → History → Bool
opened channel start = false
opened channel (before ▸ Open c ⇒ a) = or_else (eqb c channel && answered a 0) (opened channel before)
opened channel (before ▸ Close c ⇒ a) = pick (eqb c channel && answered a 0) false (opened channel before)
opened channel (before ▸ Request ⇒ a) = opened channel before
opened channel (before ▸ To c said ⇒ a) = opened channel before
opened channel (before ▸ Told c ⇒ a) = opened channel before
opened channel (before ▸ Renew ⇒ a) = opened channel before

-- a request that was granted to the channel
abbrev pub granted_to : ℕ → Paper → Bool
granted_to channel a = answered a 0 && eqb (value_at a 0) channel

-- the calls on this channel since its opening, a granted request and a new session among them:
-- those that its ledger has seen
unfoldable pub since : ℕ → History → ledger-trace.Calls
since channel start = ledger-trace.none
since channel (before ▸ Open c ⇒ a) = pick (eqb c channel && answered a 0) ledger-trace.none (since channel before)
since channel (before ▸ Close c ⇒ a) = since channel before
since channel (before ▸ Request ⇒ a) = pick (granted_to channel a) (ledger-trace.◌▸◌ (since channel before) (ledger.Request channel)) (since channel before)
since channel (before ▸ To c said ⇒ a) = pick (eqb c channel) (ledger-trace.◌▸◌ (since channel before) (called channel said)) (since channel before)
since channel (before ▸ Told c ⇒ a) = since channel before
since channel (before ▸ Renew ⇒ a) = pick (answered a 0) (ledger-trace.◌▸◌ (since channel before) ledger.Renew) (since channel before)

-- what the channel's caller has seen since its opening
abbrev pub own_history : ℕ → History → ledger-trace.History
own_history channel h = ledger-trace.trace channel (since channel h)

-- the request on the line: from its grant until a reply answered 0, until its channel is closed, or
-- until a new session
pub data Line : Type 0 where
  quiet : Line
  asks : (channel first last : ℕ) → Line

-- a reply answered 0
abbrev pub replied : Said → Paper → Bool
replied (Tick n) a = false
replied (Announce n) a = false
replied (Reply first status) a = answered a 0
replied (Between x z) a = false

abbrev pub asks_for : ℕ → Line → Bool
asks_for channel quiet = false
asks_for channel (asks c first last) = eqb c channel

unfoldable pub line : History → Line
line start = quiet
line (before ▸ Open c ⇒ a) = line before
line (before ▸ Close c ⇒ a) = pick (answered a 0 && asks_for c (line before)) quiet (line before)
line (before ▸ Request ⇒ a) = pick (answered a 0) (asks (value_at a 0) (value_at a 1) (value_at a 2)) (line before)
line (before ▸ To c said ⇒ a) = pick (replied said a) quiet (line before)
line (before ▸ Told c ⇒ a) = line before
line (before ▸ Renew ⇒ a) = pick (answered a 0) quiet (line before)

-- what is pending on one channel
abbrev pub pending_on : ℕ → Line → Asked
pending_on channel quiet = nothing
pending_on channel (asks c first last) = pick (eqb c channel) (range first last) nothing

-- how many requests were granted, and how many of them to this channel: counted call by call
abbrev pub granted : Call → Paper → ℕ
granted (Open c) a = 0
granted (Close c) a = 0
granted Request a = one (answered a 0)
granted (To c said) a = 0
granted (Told c) a = 0
granted Renew a = 0

abbrev pub granted_on : ℕ → Call → Paper → ℕ
granted_on channel (Open c) a = 0
granted_on channel (Close c) a = 0
granted_on channel Request a = one (granted_to channel a)
granted_on channel (To c said) a = 0
granted_on channel (Told c) a = 0
granted_on channel Renew a = 0

unfoldable pub grants : History → ℕ
grants start = 0
grants (before ▸ call ⇒ a) = granted call a + grants before

unfoldable pub grants_on : ℕ → History → ℕ
grants_on channel start = 0
grants_on channel (before ▸ call ⇒ a) = granted_on channel call a + grants_on channel before
