-- For each function: two answers that its promise allows are equal; so are two later contents of
-- all that it is lent, and a refusal leaves them as they were. What a function is lent is put in
-- one list, told row first, then words, bytes and records. Assumes nothing.
use mathlib.Core.Path.{sym, ap, ap₂, ◌∙◌}
use mathlib.Core.List.{[]}
use Rattle.terms.specs.OneAnswer.{OneAnswer}
use Rattle.terms.specs.OneBuffer.{OneBuffer, RefusedKeeps}
use Rattle.stream_spec.specs.Calls.{Feed, Close}
use Rattle.host_words.specs.Told.{both, Refuses}
use Rattle.host_stream_spec.specs.Lent.{Lent, lent, as_one}
use Rattle.host_stream_spec.specs.Calls.{refused_keeps}
use Rattle.host_stream_spec.specs.Washes.{wash_refused_keeps}
use Rattle.host_stream.proofs.rk_stream_open.Reads as rk-stream-open
use Rattle.host_stream.proofs.rk_stream_open.Kinds as rk-stream-open-kinds
use Rattle.host_stream.proofs.rk_stream_feed.Reads as rk-stream-feed
use Rattle.host_stream.proofs.rk_stream_feed.Kinds as rk-stream-feed-kinds
use Rattle.host_stream.proofs.rk_stream_close.Reads as rk-stream-close
use Rattle.host_stream.proofs.rk_stream_close.Kinds as rk-stream-close-kinds
use Rattle.host_stream.proofs.rk_stream_clean.Reads as rk-stream-clean
use Rattle.host_stream.proofs.rk_stream_clean.Kinds as rk-stream-clean-kinds
use Rattle.host_stream.proofs.rk_stream_clean_close.Reads as rk-stream-clean-close
use Rattle.host_stream.proofs.rk_stream_clean_close.Kinds as rk-stream-clean-close-kinds

pub rk_stream_open_one_answer : OneAnswer _ rk-stream-open-kinds.ps rk-stream-open-kinds.r rk-stream-open.Post
rk_stream_open_one_answer κs a x y s t p q = p.0 ∙ sym q.0

pub rk_stream_open_one_buffer : OneBuffer _ rk-stream-open-kinds.ps rk-stream-open-kinds.r rk-stream-open.Post (λ κs s. as_one (lent s.0.now s.1.0.now s.1.1.0.now) [])
rk_stream_open_one_buffer κs a x y s t p q = ap (λ (k : Lent). as_one k []) (p.1 ∙ sym q.1)

pub rk_stream_open_refused_keeps : RefusedKeeps _ rk-stream-open-kinds.ps rk-stream-open-kinds.r rk-stream-open.Post (λ κs x. Refuses x) (λ κs a. as_one (lent a.0.now a.1.0.now a.1.1.0.now) []) (λ κs s. as_one (lent s.0.now s.1.0.now s.1.1.0.now) [])
rk_stream_open_refused_keeps κs a x s p w = absurd (w p.0)

pub rk_stream_feed_one_answer : OneAnswer _ rk-stream-feed-kinds.ps rk-stream-feed-kinds.r rk-stream-feed.Post
rk_stream_feed_one_answer κs a x y s t p q = p.0.0.answered ∙ sym q.0.0.answered

pub rk_stream_feed_one_buffer : OneBuffer _ rk-stream-feed-kinds.ps rk-stream-feed-kinds.r rk-stream-feed.Post (λ κs s. both s.1.1.1.1.1.0.now (as_one (lent s.0.now s.1.0.now s.1.1.0.now) s.1.1.1.1.0.now))
rk_stream_feed_one_buffer κs a x y s t p q = ap₂ both (p.0.0.told ∙ sym q.0.0.told) (ap₂ as_one (p.0.1.0 ∙ sym q.0.1.0) (p.0.1.1 ∙ sym q.0.1.1))

pub rk_stream_feed_refused_keeps : RefusedKeeps _ rk-stream-feed-kinds.ps rk-stream-feed-kinds.r rk-stream-feed.Post (λ κs x. Refuses x) (λ κs a. both a.1.1.1.1.1.0.now (as_one (lent a.0.now a.1.0.now a.1.1.0.now) a.1.1.1.1.0.now)) (λ κs s. both s.1.1.1.1.1.0.now (as_one (lent s.0.now s.1.0.now s.1.1.0.now) s.1.1.1.1.0.now))
rk_stream_feed_refused_keeps κs a x s p w = refused_keeps (lent a.0.now a.1.0.now a.1.1.0.now) (Feed a.1.1.1.0.now) _ a.1.1.1.1.0.now x _ _ _ p.0 w

pub rk_stream_close_one_answer : OneAnswer _ rk-stream-close-kinds.ps rk-stream-close-kinds.r rk-stream-close.Post
rk_stream_close_one_answer κs a x y s t p q = p.0.answered ∙ sym q.0.answered

pub rk_stream_close_one_buffer : OneBuffer _ rk-stream-close-kinds.ps rk-stream-close-kinds.r rk-stream-close.Post (λ κs s. both s.1.1.1.1.0.now (as_one (lent s.0.now s.1.0.now s.1.1.0.now) s.1.1.1.0.now))
rk_stream_close_one_buffer κs a x y s t p q = ap₂ both (p.0.told ∙ sym q.0.told) (ap₂ as_one (p.1.0 ∙ sym q.1.0) (p.1.1 ∙ sym q.1.1))

pub rk_stream_close_refused_keeps : RefusedKeeps _ rk-stream-close-kinds.ps rk-stream-close-kinds.r rk-stream-close.Post (λ κs x. Refuses x) (λ κs a. both a.1.1.1.1.0.now (as_one (lent a.0.now a.1.0.now a.1.1.0.now) a.1.1.1.0.now)) (λ κs s. both s.1.1.1.1.0.now (as_one (lent s.0.now s.1.0.now s.1.1.0.now) s.1.1.1.0.now))
rk_stream_close_refused_keeps κs a x s p w = refused_keeps (lent a.0.now a.1.0.now a.1.1.0.now) Close _ a.1.1.1.0.now x _ _ _ p w

pub rk_stream_clean_one_answer : OneAnswer _ rk-stream-clean-kinds.ps rk-stream-clean-kinds.r rk-stream-clean.Post
rk_stream_clean_one_answer κs a x y s t p q = p.0.0.answered ∙ sym q.0.0.answered

pub rk_stream_clean_one_buffer : OneBuffer _ rk-stream-clean-kinds.ps rk-stream-clean-kinds.r rk-stream-clean.Post (λ κs s. both s.1.1.1.1.1.0.now (as_one (lent s.0.now s.1.0.now s.1.1.0.now) s.1.1.1.1.0.now))
rk_stream_clean_one_buffer κs a x y s t p q = ap₂ both (p.0.0.told ∙ sym q.0.0.told) (ap₂ as_one (p.0.1.0 ∙ sym q.0.1.0) (p.0.1.1 ∙ sym q.0.1.1))

pub rk_stream_clean_refused_keeps : RefusedKeeps _ rk-stream-clean-kinds.ps rk-stream-clean-kinds.r rk-stream-clean.Post (λ κs x. Refuses x) (λ κs a. both a.1.1.1.1.1.0.now (as_one (lent a.0.now a.1.0.now a.1.1.0.now) a.1.1.1.1.0.now)) (λ κs s. both s.1.1.1.1.1.0.now (as_one (lent s.0.now s.1.0.now s.1.1.0.now) s.1.1.1.1.0.now))
rk_stream_clean_refused_keeps κs a x s p w = wash_refused_keeps (lent a.0.now a.1.0.now a.1.1.0.now) (Feed a.1.1.1.0.now) _ a.1.1.1.1.0.now x _ _ _ p.0 w

pub rk_stream_clean_close_one_answer : OneAnswer _ rk-stream-clean-close-kinds.ps rk-stream-clean-close-kinds.r rk-stream-clean-close.Post
rk_stream_clean_close_one_answer κs a x y s t p q = p.0.answered ∙ sym q.0.answered

pub rk_stream_clean_close_one_buffer : OneBuffer _ rk-stream-clean-close-kinds.ps rk-stream-clean-close-kinds.r rk-stream-clean-close.Post (λ κs s. both s.1.1.1.1.0.now (as_one (lent s.0.now s.1.0.now s.1.1.0.now) s.1.1.1.0.now))
rk_stream_clean_close_one_buffer κs a x y s t p q = ap₂ both (p.0.told ∙ sym q.0.told) (ap₂ as_one (p.1.0 ∙ sym q.1.0) (p.1.1 ∙ sym q.1.1))

pub rk_stream_clean_close_refused_keeps : RefusedKeeps _ rk-stream-clean-close-kinds.ps rk-stream-clean-close-kinds.r rk-stream-clean-close.Post (λ κs x. Refuses x) (λ κs a. both a.1.1.1.1.0.now (as_one (lent a.0.now a.1.0.now a.1.1.0.now) a.1.1.1.0.now)) (λ κs s. both s.1.1.1.1.0.now (as_one (lent s.0.now s.1.0.now s.1.1.0.now) s.1.1.1.0.now))
rk_stream_clean_close_refused_keeps κs a x s p w = wash_refused_keeps (lent a.0.now a.1.0.now a.1.1.0.now) Close _ a.1.1.1.0.now x _ _ _ p w
