-- A call through the host, from the promises that the checker makes of the `ensures`, opens or goes
-- on a row of calls; it is answered 13 exactly where what is lent breaks the rules, and opening is
-- answered 0. Assumes nothing.
use mathlib.Core.Path.{◌≡◌}
use mathlib.Core.Logic.{◌↔◌}
use native.Mathlib.Omega.{arith}
use contract.Lifetimes.{Lfts}
use borrow.Fn.Kinds.{Dens, ended_of, res_t}
use denote.Triple.Clauses.{AtExit}
use lib.ListN.{length}
use Rattle.stream_spec.specs.Calls.{Feed, Close}
use Rattle.stream_spec.specs.Trace.{Calls, none, ◌▸◌}
use Rattle.host_stream_spec.specs.Lent.{lent}
use Rattle.host_stream_spec.specs.Calls.{Called}
use Rattle.host_stream_spec.specs.Rows.{Followed, opening, one_more}
use Rattle.host_stream_spec.specs.Washes.{WashCalled, Washes}
use Rattle.host_stream_spec.specs.Washes as washing
use Rattle.host_stream_spec.specs.Rules.{LentRules}
use Rattle.host_stream_spec.proofs.Given.{lent_given_13}
use Rattle.host_stream.proofs.rk_stream_open.Reads as opens
use Rattle.host_stream.proofs.rk_stream_open.Kinds as opens-kinds
use Rattle.host_stream.proofs.rk_stream_feed.Reads as feed
use Rattle.host_stream.proofs.rk_stream_feed.Kinds as feed-kinds
use Rattle.host_stream.proofs.rk_stream_close.Reads as close
use Rattle.host_stream.proofs.rk_stream_close.Kinds as close-kinds
use Rattle.host_stream.proofs.rk_stream_clean.Reads as clean
use Rattle.host_stream.proofs.rk_stream_clean.Kinds as clean-kinds
use Rattle.host_stream.proofs.rk_stream_clean_close.Reads as Clean-close
use Rattle.host_stream.proofs.rk_stream_clean_close.Kinds as clean-close-kinds

pub open_is_opening : (κs : Lfts 3) (a : Dens κs opens-kinds.ps) (x : (res_t opens-kinds.r κs).Denot) (s : AtExit (ended_of 3 opens-kinds.ps opens-kinds.r) κs) → opens.Post κs a x s
    → Followed none (lent s.0.now s.1.0.now s.1.1.0.now)
open_is_opening κs a x s p = opening p.1

pub open_is_wash_opening : (κs : Lfts 3) (a : Dens κs opens-kinds.ps) (x : (res_t opens-kinds.r κs).Denot) (s : AtExit (ended_of 3 opens-kinds.ps opens-kinds.r) κs) → opens.Post κs a x s
    → Washes none (lent s.0.now s.1.0.now s.1.1.0.now)
open_is_wash_opening κs a x s p = washing.opening p.1

pub rk_stream_open_answers_0 : (κs : Lfts 3) (a : Dens κs opens-kinds.ps) (x : (res_t opens-kinds.r κs).Denot) (s : AtExit (ended_of 3 opens-kinds.ps opens-kinds.r) κs) → opens.Post κs a x s
    → x ≡ 0
rk_stream_open_answers_0 κs a x s p = p.0

pub feed_is_call : (κs : Lfts 6) (a : Dens κs feed-kinds.ps) (x : (res_t feed-kinds.r κs).Denot) (s : AtExit (ended_of 6 feed-kinds.ps feed-kinds.r) κs) → feed.Post κs a x s
    → Called (lent a.0.now a.1.0.now a.1.1.0.now) (Feed a.1.1.1.0.now) a.1.1.1.1.1.0.now a.1.1.1.1.0.now x
    (lent s.0.now s.1.0.now s.1.1.0.now) s.1.1.1.1.1.0.now s.1.1.1.1.0.now
feed_is_call κs a x s p = p.0

pub close_is_call : (κs : Lfts 5) (a : Dens κs close-kinds.ps) (x : (res_t close-kinds.r κs).Denot) (s : AtExit (ended_of 5 close-kinds.ps close-kinds.r) κs) → close.Post κs a x s
    → Called (lent a.0.now a.1.0.now a.1.1.0.now) Close a.1.1.1.1.0.now a.1.1.1.0.now x
    (lent s.0.now s.1.0.now s.1.1.0.now) s.1.1.1.1.0.now s.1.1.1.0.now
close_is_call κs a x s p = p

-- which lengthens a row of calls
pub feed_goes_on : {calls : Calls} (κs : Lfts 6) (a : Dens κs feed-kinds.ps) (x : (res_t feed-kinds.r κs).Denot) (s : AtExit (ended_of 6 feed-kinds.ps feed-kinds.r) κs) → Followed calls (lent a.0.now a.1.0.now a.1.1.0.now) → feed.Post κs a x s
    → Followed (calls ▸ record { call = Feed a.1.1.1.0.now; room = length a.1.1.1.1.0.now }) (lent s.0.now s.1.0.now s.1.1.0.now)
feed_goes_on κs a x s row p = one_more _ _ a.1.1.1.1.0.now _ _ _ _ row p.1 (feed_is_call κs a x s p)

pub close_goes_on : {calls : Calls} (κs : Lfts 5) (a : Dens κs close-kinds.ps) (x : (res_t close-kinds.r κs).Denot) (s : AtExit (ended_of 5 close-kinds.ps close-kinds.r) κs) → Followed calls (lent a.0.now a.1.0.now a.1.1.0.now) → close.Post κs a x s
    → Followed (calls ▸ record { call = Close; room = length a.1.1.1.0.now }) (lent s.0.now s.1.0.now s.1.1.0.now)
close_goes_on κs a x s row p = one_more Close _ a.1.1.1.0.now _ _ _ _ row (λ i. omega arith) (close_is_call κs a x s p)

pub feed_given_13 : (κs : Lfts 6) (a : Dens κs feed-kinds.ps) (x : (res_t feed-kinds.r κs).Denot) (s : AtExit (ended_of 6 feed-kinds.ps feed-kinds.r) κs) → feed.Post κs a x s
    → (x ≡ 13) ↔ (LentRules (lent a.0.now a.1.0.now a.1.1.0.now) → ⊥)
feed_given_13 κs a x s p = lent_given_13 _ (Feed a.1.1.1.0.now) _ _ _ _ _ _ (feed_is_call κs a x s p)

pub close_given_13 : (κs : Lfts 5) (a : Dens κs close-kinds.ps) (x : (res_t close-kinds.r κs).Denot) (s : AtExit (ended_of 5 close-kinds.ps close-kinds.r) κs) → close.Post κs a x s
    → (x ≡ 13) ↔ (LentRules (lent a.0.now a.1.0.now a.1.1.0.now) → ⊥)
close_given_13 κs a x s p = lent_given_13 _ Close _ _ _ _ _ _ (close_is_call κs a x s p)

-- the calls that clean lengthen a row of their own
pub clean_is_call : (κs : Lfts 6) (a : Dens κs clean-kinds.ps) (x : (res_t clean-kinds.r κs).Denot) (s : AtExit (ended_of 6 clean-kinds.ps clean-kinds.r) κs) → clean.Post κs a x s
    → WashCalled (lent a.0.now a.1.0.now a.1.1.0.now) (Feed a.1.1.1.0.now) a.1.1.1.1.1.0.now a.1.1.1.1.0.now x
    (lent s.0.now s.1.0.now s.1.1.0.now) s.1.1.1.1.1.0.now s.1.1.1.1.0.now
clean_is_call κs a x s p = p.0

pub clean_close_is_call : (κs : Lfts 5) (a : Dens κs clean-close-kinds.ps) (x : (res_t clean-close-kinds.r κs).Denot) (s : AtExit (ended_of 5 clean-close-kinds.ps clean-close-kinds.r) κs) → Clean-close.Post κs a x s
    → WashCalled (lent a.0.now a.1.0.now a.1.1.0.now) Close a.1.1.1.1.0.now a.1.1.1.0.now x
    (lent s.0.now s.1.0.now s.1.1.0.now) s.1.1.1.1.0.now s.1.1.1.0.now
clean_close_is_call κs a x s p = p

pub clean_goes_on : {calls : Calls} (κs : Lfts 6) (a : Dens κs clean-kinds.ps) (x : (res_t clean-kinds.r κs).Denot) (s : AtExit (ended_of 6 clean-kinds.ps clean-kinds.r) κs) → Washes calls (lent a.0.now a.1.0.now a.1.1.0.now) → clean.Post κs a x s
    → Washes (calls ▸ record { call = Feed a.1.1.1.0.now; room = length a.1.1.1.1.0.now }) (lent s.0.now s.1.0.now s.1.1.0.now)
clean_goes_on κs a x s row p = washing.one_more _ _ a.1.1.1.1.0.now _ _ _ _ row p.1 (clean_is_call κs a x s p)

pub clean_close_goes_on : {calls : Calls} (κs : Lfts 5) (a : Dens κs clean-close-kinds.ps) (x : (res_t clean-close-kinds.r κs).Denot) (s : AtExit (ended_of 5 clean-close-kinds.ps clean-close-kinds.r) κs) → Washes calls (lent a.0.now a.1.0.now a.1.1.0.now) → Clean-close.Post κs a x s
    → Washes (calls ▸ record { call = Close; room = length a.1.1.1.0.now }) (lent s.0.now s.1.0.now s.1.1.0.now)
clean_close_goes_on κs a x s row p = washing.one_more Close _ a.1.1.1.0.now _ _ _ _ row (λ i. omega arith) (clean_close_is_call κs a x s p)
