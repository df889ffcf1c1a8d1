-- The code's promises are the steps that `trace` uses: a lemma for each call, over the promise that
-- the checker makes of its `ensures`; and so what the code gives, call by call from opening on, is
-- the row of books and answers that the theorems speak of. Assumes nothing.
use mathlib.Core.Path.{◌≡◌, refl, sym, ap, ap₂, ◌∙◌}
use mathlib.Core.List.{[]}
use mathlib.Core.Bool.{true, false}
use Prim.Native.Nat.{ℕ, ◌^◌, ◌≤◌, ◌<◌, max}
use borrow.Fn.Kinds.{Dens, ended_of, res_t}
use borrow.Author.Tests.{eqb-true, le-ltb, lt-ltb}
use contract.Lifetimes.{Lfts}
use denote.Triple.Clauses.{AtExit}
use Rattle.terms.specs.Paper.{Paper, answer}
use Rattle.tick_map.specs.Bits.{Words}
use Rattle.ledger_spec.specs.State.{Book, StateRules}
use Rattle.ledger.specs.State.{book_of, ledger_of, topped, cleared, next_by}
use Rattle.ledger_spec.specs.Calls.{Call, Tick, Announce, Request, Reply, Ask, Missing, Held, Between, Renew, raised, answer_to, fresh, open_of}
use Rattle.ledger.specs.Papers.{tick_paper, request_paper, reply_paper, paper_of, count_paper}
use Rattle.ledger_spec.specs.Trace.{Calls, ◌▸◌, after, History, ◌▸◌⇒◌, trace}
use Rattle.ledger.specs.Trace.{Promise, RanBy, Ran, opening, one_more}
use Rattle.ledger_spec.specs.Words.{answered}
use Rattle.ledger_spec.specs.Demand3.{Demand3}
use Rattle.ledger.specs.declared.Ledger.{Ledger}
use Rattle.std.specs.Prelude.{None}
use Rattle.ledger.proofs.Seam.{book_of_lem, topped_of, waiting_of, far_by, same_by, next_of_lem, next_keeps}
use Rattle.ledger_spec.proofs.Agree.{agrees}
use Rattle.ledger_spec.proofs.Answers.{renew_answer, renew_next}
use Rattle.ledger_spec.proofs.Demand3.{demand_3}
use Rattle.ledger.proofs.Ledger.opened.Reads as opened
use Rattle.ledger.proofs.Ledger.opened.Kinds as opened-kinds
use Rattle.ledger.proofs.Ledger.tick.Reads as tick
use Rattle.ledger.proofs.Ledger.tick.Kinds as tick-kinds
use Rattle.ledger.proofs.Ledger.held.Reads as held
use Rattle.ledger.proofs.Ledger.held.Kinds as held-kinds
use Rattle.ledger.proofs.Ledger.missing.Reads as missing
use Rattle.ledger.proofs.Ledger.missing.Kinds as missing-kinds
use Rattle.ledger.proofs.Ledger.missing_between.Reads as missing-between
use Rattle.ledger.proofs.Ledger.missing_between.Kinds as missing-between-kinds
use Rattle.ledger.proofs.Ledger.renewed.Reads as renewed
use Rattle.ledger.proofs.Ledger.renewed.Kinds as renewed-kinds
use Rattle.ledger.proofs.Ledger.reply.Reads as reply
use Rattle.ledger.proofs.Ledger.reply.Kinds as reply-kinds
use Rattle.ledger.proofs.Ledger.request.Reads as request
use Rattle.ledger.proofs.Ledger.request.Kinds as request-kinds
use Rattle.ledger.proofs.Ledger.announce.Reads as announce
use Rattle.ledger.proofs.Ledger.announce.Kinds as announce-kinds

pub tick_is_step : (κs : Lfts 0) (a : Dens κs tick-kinds.ps) (x : (res_t tick-kinds.r κs).Denot) (s : AtExit (ended_of 0 tick-kinds.ps tick-kinds.r) κs)
    → tick.Post κs a x s → Promise a.0 (Tick a.1.0.0 a.1.1.0.0) x.next (tick_paper x.answer)
tick_is_step κs a x s p = record { paper_is = p.0; next_is = p.1 }

pub announce_is_step : (κs : Lfts 0) (a : Dens κs announce-kinds.ps) (x : (res_t announce-kinds.r κs).Denot) (s : AtExit (ended_of 0 announce-kinds.ps announce-kinds.r) κs)
    → announce.Post κs a x s → Promise a.0 (Announce a.1.0.0 a.1.1.0.0) x.next (paper_of x.answer)
announce_is_step κs a x s p = record { paper_is = p.0; next_is = p.1 }

pub request_is_step : (κs : Lfts 0) (a : Dens κs request-kinds.ps) (x : (res_t request-kinds.r κs).Denot) (s : AtExit (ended_of 0 request-kinds.ps request-kinds.r) κs)
    → request.Post κs a x s → Promise a.0 (Request a.1.0.0) x.next (request_paper x.answer)
request_is_step κs a x s p = record { paper_is = p.0; next_is = p.1 }

pub reply_is_step : (κs : Lfts 0) (a : Dens κs reply-kinds.ps) (x : (res_t reply-kinds.r κs).Denot) (s : AtExit (ended_of 0 reply-kinds.ps reply-kinds.r) κs)
    → reply.Post κs a x s → Promise a.0 (Reply a.1.0.0 a.1.1.0.0 a.1.1.1.0) x.next (reply_paper x.answer)
reply_is_step κs a x s p = record { paper_is = p.0; next_is = p.1 }

pub renewed_is_step : (κs : Lfts 0) (a : Dens κs renewed-kinds.ps) (x : (res_t renewed-kinds.r κs).Denot) (s : AtExit (ended_of 0 renewed-kinds.ps renewed-kinds.r) κs)
    → renewed.Post κs a x s → Promise a.0 Renew x.next (paper_of x.answer)
renewed_is_step κs a x s p = record { paper_is = p.0; next_is = p.1 }

pub missing_is_step : (κs : Lfts 0) (a : Dens κs missing-kinds.ps) (x : (res_t missing-kinds.r κs).Denot) (s : AtExit (ended_of 0 missing-kinds.ps missing-kinds.r) κs)
    → missing.Post κs a x s → Promise a.0 (Ask Missing) x.next (count_paper x.answer)
missing_is_step κs a x s p = record { paper_is = p.0; next_is = p.1 }

pub held_is_step : (κs : Lfts 0) (a : Dens κs held-kinds.ps) (x : (res_t held-kinds.r κs).Denot) (s : AtExit (ended_of 0 held-kinds.ps held-kinds.r) κs)
    → held.Post κs a x s → Promise a.0 (Ask Held) x.next (count_paper x.answer)
held_is_step κs a x s p = record { paper_is = p.0; next_is = p.1 }

pub between_is_step : (κs : Lfts 0) (a : Dens κs missing-between-kinds.ps) (x : (res_t missing-between-kinds.r κs).Denot) (s : AtExit (ended_of 0 missing-between-kinds.ps missing-between-kinds.r) κs)
    → missing-between.Post κs a x s → Promise a.0 (Ask (Between a.1.0.0 a.1.1.0.0 a.1.1.1.0.0)) x.next (count_paper x.answer)
between_is_step κs a x s p = record { paper_is = p.0; next_is = p.1 }

-- opening a channel gives the fresh ledger that every row of calls starts from, and 0
pub opened_is_fresh : (κs : Lfts 0) (a : Dens κs opened-kinds.ps) (x : (res_t opened-kinds.r κs).Denot) (s : AtExit (ended_of 0 opened-kinds.ps opened-kinds.r) κs)
    → a.0.0 ≤ 9999 → opened.Post κs a x s → (paper_of x.answer ≡ answer 0 []) × (x.next ≡ ledger_of (fresh a.0.0))
unfolding open_of
opened_is_fresh κs a x s h p = (p.0 ∙ simp (le-ltb _ _ h), p.1 ∙ simp (le-ltb _ _ h))

-- opening any other gives 10, and a fresh ledger for channel 0
pub opened_refused : (κs : Lfts 0) (a : Dens κs opened-kinds.ps) (x : (res_t opened-kinds.r κs).Denot) (s : AtExit (ended_of 0 opened-kinds.ps opened-kinds.r) κs)
    → 9999 < a.0.0 → opened.Post κs a x s → (paper_of x.answer ≡ answer 10 []) × (x.next ≡ ledger_of (fresh 0))
unfolding open_of
opened_refused κs a x s h p = (p.0 ∙ simp (lt-ltb _ _ h), p.1 ∙ simp (lt-ltb _ _ h))

-- a refusal other than 12 gives back the very ledger that was passed in, sound or not
pub refused_gives_back : (l next : Ledger) (call : Call) (paper : Paper) → Promise l call next paper
    → answered paper 0 ≡ false → answered paper 12 ≡ false → next ≡ l
unfolding answer_to
refused_gives_back l next call paper p e f =
    p.next_is ∙ same_by book_of ledger_of l call (ap (λ (a : Paper). answered a 0) (sym p.paper_is) ∙ e) (ap (λ (a : Paper). answered a 12) (sym p.paper_is) ∙ f)

-- a tick answered 12 gives back the ledger that was passed in, its top raised to the tick if
-- it was lower
pub far_raises_top : (l next : Ledger) (channel n : ℕ) (paper : Paper) → Promise l (Tick channel n) next paper
    → answered paper 12 ≡ true → next ≡ topped l (max l.top.0 n)
unfolding answer_to
far_raises_top l next channel n paper p e = p.next_is ∙ far_by book_of ledger_of l (Tick channel n) (eqb-true _ 12 (ap (λ (a : Paper). answered a 12) (sym p.paper_is) ∙ e))

-- a new session on a sound ledger: 0, and the very ledger that was passed in with nothing pending
pub new_session : (l next : Ledger) (paper : Paper) → Words l.map.words → Promise l Renew next paper → StateRules (book_of l)
    → (paper ≡ answer 0 []) × (next ≡ cleared l)
new_session l next paper w p r = (
  p.paper_is ∙ renew_answer (book_of l) r,
  p.next_is ∙ next_of_lem l w Renew ∙ ap ledger_of (renew_next (book_of l) r) ∙ sym (waiting_of l w None),
)

-- ---- a whole row of calls

-- however a ledger keeps a book, if the book can be read again and its top stands for itself
pub ran_by_is_trace : (read : Ledger → Book) (keep : Book → Ledger) → ((b : Book) → b.bits < 2 ^ 256 → read (keep b) ≡ b)
    → ((b : Book) (n : ℕ) → topped (keep b) (max (keep b).top.0 n) ≡ keep (raised b n))
    → (channel : ℕ) → channel ≤ 9999 → {calls : Calls} {l : Ledger} {h : History} → RanBy read keep channel calls l h
    → (l ≡ keep (after channel calls)) × (h ≡ trace channel calls)
unfolding trace
ran_by_is_trace read keep back up channel small (opening e) = (e, refl)
ran_by_is_trace read keep back up channel small (one_more {calls} {l} {next} {h} {paper} call r p) =
    let q = ran_by_is_trace read keep back up channel small r in
    let b = after channel calls in
    let k : read (keep b) ≡ b = back b (agrees channel small calls).rules.places in
    let e : read l ≡ b = ap read q.0 ∙ k in (
      p.next_is ∙ ap (λ (x : Ledger). next_by read keep x call) q.0 ∙ next_keeps read keep b k (up b) call,
      ap₂ (λ (x : History) (y : Paper). x ▸ call ⇒ y) q.1 (p.paper_is ∙ ap (λ (b : Book). answer_to b call) e),
    )

pub ran_is_trace : (channel : ℕ) → channel ≤ 9999 → {calls : Calls} {l : Ledger} {h : History} → Ran channel calls l h
    → (l ≡ ledger_of (after channel calls)) × (h ≡ trace channel calls)
ran_is_trace channel small r = ran_by_is_trace book_of ledger_of book_of_lem topped_of channel small r

-- For every row of calls of the code on a ledger that it opened, refusals included, demand 3 holds
-- of the calls and answers and of the ledger.
pub ran_demand_3 : (channel : ℕ) → channel ≤ 9999 → {calls : Calls} {l : Ledger} {h : History} → Ran channel calls l h → Demand3 h channel (book_of l)
ran_demand_3 channel small {calls} {l} {h} r =
    let q = ran_is_trace channel small r in
    let e : book_of l ≡ after channel calls = ap book_of q.0 ∙ book_of_lem (after channel calls) (agrees channel small calls).rules.places in
    rw (q.1, e) (demand_3 channel small calls)
