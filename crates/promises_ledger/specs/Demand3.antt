-- Demand 3, of every row of calls of the code on a ledger that it opened. `Ran channel calls l h`
-- says that the ledger l and the history h come of the calls, each meeting its promise; h has the
-- calls and their answers alone. Words.antt of `ledger_spec` tells each word from h.
--
-- "A number is received once its tick is answered 0; it is given up once a reply answered 0 names
-- it so." These are `received` and `given_up` there.
use Rattle.std.specs.Prelude.{ℕ, ◌≤◌, List, [], ◌∷◌, ◌≡◌}
use Rattle.std.proofs.Common.{◌∙◌}
use Rattle.ledger_spec.specs.State.{StateRules}
use Rattle.ledger.specs.State.{book_of}
use Rattle.terms.specs.Paper.{Paper, answer}
use Rattle.ledger_spec.specs.Calls.{Call, Tick, Announce, Request, Reply, Ask, Missing, Held, Renew, answer_to}
use Rattle.ledger_spec.specs.Words.{settled, known_top, held, missing, count}
use Rattle.ledger_spec.specs.Trace.{Calls, ◌▸◌, after, History, ◌▸◌⇒◌, trace}
use Rattle.ledger.specs.Trace.{Promise, Ran}
use Rattle.ledger_spec.specs.Answers.{TickAnswers, AnnounceAnswers, ReplyAnswers, OnlyCleared, Answers}
use Rattle.ledger_spec.specs.Demand3.{Demand3, Deliveries, MissingNumbers, SomeMissing, Gives, Requests, Counts, Shown}
use Rattle.ledger.specs.declared.Ledger.{Ledger}
use Rattle.ledger_spec.proofs.Answers as Answered
use Rattle.ledger_spec.proofs.Demand3.{demand_3}
use Rattle.ledger.proofs.Promised as Promised
use Rattle.ledger.proofs.Promised.{ran_demand_3}
use Rattle.ledger.proofs.RanAnswers as Ran
use Rattle.host_words.specs.Words.{book_in}
use Rattle.host_ledger.specs.Called.{Called, HostRan}
use Rattle.host_ledger.proofs.Promised as Hosted

module _ (channel : ℕ) (opens : channel ≤ 9999) {calls : Calls} {l : Ledger} {h : History} (ran : Ran channel calls l h) where
  all : Demand3 h channel (book_of l)
  all = ran_demand_3 channel opens ran

  -- "For every sequence of calls on a fresh ledger, refusals included: the numbers handed out rise,
  -- each once; every number up to the floor was either received and delivered, or given up, never
  -- both; the floor stands just below the first number neither received nor given up."
  pub handed_out_holds : Deliveries h (book_of l)
  handed_out_holds = all.deliveries

  -- "The missing are exactly those up to the known top that are neither."
  pub the_missing : MissingNumbers h (book_of l)
  the_missing = all.missing_numbers

  -- "Asked on its own channel, the ledger gives a resend request exactly when one is missing and
  -- none is pending: the lowest unbroken run of missing numbers, cut to its first 200." Of whatever
  -- the code may answer
  pub resend_request : (next : Ledger) (paper : Paper) → Promise l (Request channel) next paper → Requests h paper
  resend_request = Ran.ran_request channel opens ran

  -- "Delivered, held, missing and given up, each counted from the calls, add up to the top."
  pub counted : Counts h (book_of l)
  counted = all.counts

  -- what the ledger shows of itself is told by the calls, and its state rules hold
  pub shown : Shown h channel (book_of l)
  shown = all.shown

  pub state_rules : StateRules (book_of l)
  state_rules = all.state_rules

  -- "A number is received once its tick is answered 0": and what the code answers to a further call
  -- is told by the calls and answers before it, so that a ledger which answers 12 to every tick, or
  -- nods after the first, does not meet it
  pub tick_answers : (n : ℕ) (next : Ledger) (paper : Paper) → Promise l (Tick channel n) next paper → TickAnswers h n paper
  tick_answers = Ran.ran_tick channel opens ran

  pub announce_answers : (n : ℕ) (next : Ledger) (paper : Paper) → Promise l (Announce channel n) next paper → AnnounceAnswers n paper
  announce_answers = Ran.ran_announce channel opens ran

  pub reply_answers : (first status : ℕ) (next : Ledger) (paper : Paper) → Promise l (Reply channel first status) next paper → ReplyAnswers h first status paper
  reply_answers = Ran.ran_reply channel opens ran

  pub missing_answer : (next : Ledger) (paper : Paper) → Promise l (Ask Missing) next paper → paper ≡ answer 0 (count (missing h) (known_top h) ∷ [])
  missing_answer = Ran.ran_missing channel opens ran

  pub held_answer : (next : Ledger) (paper : Paper) → Promise l (Ask Held) next paper → paper ≡ answer 0 (count (held h) (known_top h) ∷ [])
  held_answer = Ran.ran_held channel opens ran

  -- CR 12: a new session is answered 0, and of what the calls and answers tell the pending request
  -- alone changes
  pub renewal_answer : (next : Ledger) (paper : Paper) → Promise l Renew next paper → (paper ≡ answer 0 []) × OnlyCleared h (h ▸ Renew ⇒ paper)
  renewal_answer = Ran.ran_renewal channel opens ran

  -- whatever a further call of the code is answered is what the ledger after the calls
  -- before it answers
  pub code_answers : (call : Call) (next : Ledger) (paper : Paper) → Promise l call next paper → paper ≡ answer_to (after channel calls) call
  code_answers = Ran.ran_paper channel opens ran

-- and of the definitions, a call on another channel among them
pub each_answer : (channel : ℕ) → channel ≤ 9999 → (calls : Calls) → Answers channel calls
each_answer = Answered.answers

-- CR 12: after a new session what is missing is asked for again, whatever was pending before it
same_missing : (h next : History) → OnlyCleared h next → (n : ℕ) → missing next n ≡ missing h n
unfolding missing settled
same_missing h next o n = rw (o.top_same, o.received_same n, o.given_up_same n)

pub asked_again : (channel : ℕ) → channel ≤ 9999 → (calls : Calls) → SomeMissing (trace channel calls)
    → Gives (trace channel (calls ▸ Renew)) (answer_to (after channel (calls ▸ Renew)) (Request channel))
asked_again channel opens calls m =
    let o = Answered.new_session_told channel opens calls in
    (demand_3 channel opens (calls ▸ Renew)).requests.when_due (record { number = m.number; is_missing = same_missing _ _ o m.number ∙ m.is_missing }) o.cleared

-- The same through the host, on the nine words that rk_ledger_open wrote: `HostRan channel calls w
-- h` says that the words w and the history h come of such calls. What rk_ledger_told then tells are
-- the numbers of h (`host_told` of `host_ledger`).
pub through_the_host : (channel : ℕ) → channel ≤ 9999 → {calls : Calls} {w : List ℕ} {h : History} → HostRan channel calls w h → Demand3 h channel (book_in w)
through_the_host = Hosted.host_ran_demand_3

-- and each of them is answered what the ledger after the calls before it answers
pub host_answers : (channel : ℕ) → channel ≤ 9999 → {calls : Calls} {w : List ℕ} {h : History} → HostRan channel calls w h
    → (call : Call) (w' : List ℕ) (a : Paper) → Called w call w' a → a ≡ answer_to (after channel calls) call
host_answers = Hosted.host_answers

-- told from the calls and answers before it
module _ (channel : ℕ) (opens : channel ≤ 9999) {calls : Calls} {w : List ℕ} {h : History} (ran : HostRan channel calls w h) where
  pub host_tick : (n : ℕ) (w' : List ℕ) (a : Paper) → Called w (Tick channel n) w' a → TickAnswers h n a
  host_tick = Hosted.host_tick channel opens ran

  pub host_announce : (n : ℕ) (w' : List ℕ) (a : Paper) → Called w (Announce channel n) w' a → AnnounceAnswers n a
  host_announce = Hosted.host_announce channel opens ran

  pub host_request : (w' : List ℕ) (a : Paper) → Called w (Request channel) w' a → Requests h a
  host_request = Hosted.host_request channel opens ran

  pub host_reply : (first status : ℕ) (w' : List ℕ) (a : Paper) → Called w (Reply channel first status) w' a → ReplyAnswers h first status a
  host_reply = Hosted.host_reply channel opens ran

  pub host_renewal : (w' : List ℕ) (a : Paper) → Called w Renew w' a → (a ≡ answer 0 []) × OnlyCleared h (h ▸ Renew ⇒ a)
  host_renewal = Hosted.host_renewal channel opens ran

-- that opening and each call of the code, by the checker's promise of its `ensures`, are the start
-- and the steps that `Ran` and `HostRan` are made of
data Named : Type 0 where
  named : Named

ties : Named
ties =
    let opened_is_fresh = Promised.opened_is_fresh in
    let tick_is_step = Promised.tick_is_step in
    let announce_is_step = Promised.announce_is_step in
    let request_is_step = Promised.request_is_step in
    let reply_is_step = Promised.reply_is_step in
    let renewed_is_step = Promised.renewed_is_step in
    let missing_is_step = Promised.missing_is_step in
    let held_is_step = Promised.held_is_step in
    let between_is_step = Promised.between_is_step in
    let open_is_opening = Hosted.open_is_opening in
    let tick_is_call = Hosted.tick_is_call in
    let announce_is_call = Hosted.announce_is_call in
    let request_is_call = Hosted.request_is_call in
    let reply_is_call = Hosted.reply_is_call in
    let renew_is_call = Hosted.renew_is_call in
    let told_is_missing = Hosted.told_is_missing in
    let told_is_held = Hosted.told_is_held in
    let between_is_call = Hosted.between_is_call in
    named
