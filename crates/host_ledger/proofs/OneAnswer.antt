-- For each function: two answers that its promise allows are equal; so are two later contents of
-- all that it is lent, and a refusal leaves them as they were. What a function is lent is put in
-- one list, told row first, then words. Assumes nothing.
use mathlib.Core.Path.{◌≡◌, sym, ap₂, ◌∙◌}
use mathlib.Core.List.{[], ◌∷◌}
use Rattle.terms.specs.OneAnswer.{OneAnswer}
use Rattle.terms.specs.OneBuffer.{OneBuffer, RefusedKeeps}
use Rattle.host_words.specs.Told.{both, Refuses, tells_kept}
use Rattle.host_ledger.proofs.Kept.{call_kept, announce_kept, request_kept, reply_kept, renew_kept, open_kept}
use Rattle.host_ledger.proofs.settled_row.Reads as settled-row
use Rattle.host_ledger.proofs.settled_row.Kinds as settled-row-kinds
use Rattle.host_ledger.proofs.rk_ledger_open.Reads as rk-ledger-open
use Rattle.host_ledger.proofs.rk_ledger_open.Kinds as rk-ledger-open-kinds
use Rattle.host_ledger.proofs.rk_ledger_tick.Reads as rk-ledger-tick
use Rattle.host_ledger.proofs.rk_ledger_tick.Kinds as rk-ledger-tick-kinds
use Rattle.host_ledger.proofs.rk_ledger_announce.Reads as rk-ledger-announce
use Rattle.host_ledger.proofs.rk_ledger_announce.Kinds as rk-ledger-announce-kinds
use Rattle.host_ledger.proofs.rk_ledger_request.Reads as rk-ledger-request
use Rattle.host_ledger.proofs.rk_ledger_request.Kinds as rk-ledger-request-kinds
use Rattle.host_ledger.proofs.rk_ledger_reply.Reads as rk-ledger-reply
use Rattle.host_ledger.proofs.rk_ledger_reply.Kinds as rk-ledger-reply-kinds
use Rattle.host_ledger.proofs.rk_ledger_renew.Reads as rk-ledger-renew
use Rattle.host_ledger.proofs.rk_ledger_renew.Kinds as rk-ledger-renew-kinds
use Rattle.host_ledger.proofs.rk_ledger_missing.Reads as rk-ledger-missing
use Rattle.host_ledger.proofs.rk_ledger_missing.Kinds as rk-ledger-missing-kinds
use Rattle.host_ledger.proofs.rk_ledger_told.Reads as rk-ledger-told
use Rattle.host_ledger.proofs.rk_ledger_told.Kinds as rk-ledger-told-kinds

pub rk_ledger_open_one_answer : OneAnswer _ rk-ledger-open-kinds.ps rk-ledger-open-kinds.r rk-ledger-open.Post
rk_ledger_open_one_answer κs a x y s t p q = p.0 ∙ sym q.0

pub rk_ledger_open_one_buffer : OneBuffer _ rk-ledger-open-kinds.ps rk-ledger-open-kinds.r rk-ledger-open.Post (λ κs s. s.1.0.now)
rk_ledger_open_one_buffer κs a x y s t p q = p.1 ∙ sym q.1

pub rk_ledger_open_refused_keeps : RefusedKeeps _ rk-ledger-open-kinds.ps rk-ledger-open-kinds.r rk-ledger-open.Post (λ κs x. Refuses x) (λ κs a. a.1.0.now) (λ κs s. s.1.0.now)
rk_ledger_open_refused_keeps κs a x s p w = p.1 ∙ open_kept _ _ (λ z. w (p.0 ∙ z))

pub rk_ledger_tick_one_answer : OneAnswer _ rk-ledger-tick-kinds.ps rk-ledger-tick-kinds.r rk-ledger-tick.Post
rk_ledger_tick_one_answer κs a x y s t p q = p.0.answered ∙ sym q.0.answered

pub rk_ledger_tick_one_buffer : OneBuffer _ rk-ledger-tick-kinds.ps rk-ledger-tick-kinds.r rk-ledger-tick.Post (λ κs s. both s.1.1.1.0.now s.0.now)
rk_ledger_tick_one_buffer κs a x y s t p q = ap₂ both (p.0.told ∙ sym q.0.told) (p.1 ∙ sym q.1)

pub rk_ledger_tick_refused_keeps : RefusedKeeps _ rk-ledger-tick-kinds.ps rk-ledger-tick-kinds.r rk-ledger-tick.Post (λ κs x. Refuses x × (x ≡ 12 → ⊥)) (λ κs a. both a.1.1.1.0.now a.0.now) (λ κs s. both s.1.1.1.0.now s.0.now)
rk_ledger_tick_refused_keeps κs a x s p w = ap₂ both (tells_kept p.0 w.0) (p.1 ∙ call_kept _ _ (λ z. w.0 (p.0.answered ∙ z)) (λ e. w.1 (p.0.answered ∙ e)))

pub rk_ledger_tick_refused_tells_nothing : RefusedKeeps _ rk-ledger-tick-kinds.ps rk-ledger-tick-kinds.r rk-ledger-tick.Post (λ κs x. Refuses x) (λ κs a. a.1.1.1.0.now) (λ κs s. s.1.1.1.0.now)
rk_ledger_tick_refused_tells_nothing κs a x s p w = tells_kept p.0 w

pub rk_ledger_announce_one_answer : OneAnswer _ rk-ledger-announce-kinds.ps rk-ledger-announce-kinds.r rk-ledger-announce.Post
rk_ledger_announce_one_answer κs a x y s t p q = p.0 ∙ sym q.0

pub rk_ledger_announce_one_buffer : OneBuffer _ rk-ledger-announce-kinds.ps rk-ledger-announce-kinds.r rk-ledger-announce.Post (λ κs s. s.0.now)
rk_ledger_announce_one_buffer κs a x y s t p q = p.1 ∙ sym q.1

pub rk_ledger_announce_refused_keeps : RefusedKeeps _ rk-ledger-announce-kinds.ps rk-ledger-announce-kinds.r rk-ledger-announce.Post (λ κs x. Refuses x) (λ κs a. a.0.now) (λ κs s. s.0.now)
rk_ledger_announce_refused_keeps κs a x s p w = p.1 ∙ announce_kept _ _ _ (λ z. w (p.0 ∙ z))

pub rk_ledger_request_one_answer : OneAnswer _ rk-ledger-request-kinds.ps rk-ledger-request-kinds.r rk-ledger-request.Post
rk_ledger_request_one_answer κs a x y s t p q = p.0.answered ∙ sym q.0.answered

pub rk_ledger_request_one_buffer : OneBuffer _ rk-ledger-request-kinds.ps rk-ledger-request-kinds.r rk-ledger-request.Post (λ κs s. both s.1.1.0.now s.0.now)
rk_ledger_request_one_buffer κs a x y s t p q = ap₂ both (p.0.told ∙ sym q.0.told) (p.1 ∙ sym q.1)

pub rk_ledger_request_refused_keeps : RefusedKeeps _ rk-ledger-request-kinds.ps rk-ledger-request-kinds.r rk-ledger-request.Post (λ κs x. Refuses x) (λ κs a. both a.1.1.0.now a.0.now) (λ κs s. both s.1.1.0.now s.0.now)
rk_ledger_request_refused_keeps κs a x s p w = ap₂ both (tells_kept p.0 w) (p.1 ∙ request_kept _ _ (λ z. w (p.0.answered ∙ z)))

pub rk_ledger_reply_one_answer : OneAnswer _ rk-ledger-reply-kinds.ps rk-ledger-reply-kinds.r rk-ledger-reply.Post
rk_ledger_reply_one_answer κs a x y s t p q = p.0.answered ∙ sym q.0.answered

pub rk_ledger_reply_one_buffer : OneBuffer _ rk-ledger-reply-kinds.ps rk-ledger-reply-kinds.r rk-ledger-reply.Post (λ κs s. both s.1.1.1.1.0.now s.0.now)
rk_ledger_reply_one_buffer κs a x y s t p q = ap₂ both (p.0.told ∙ sym q.0.told) (p.1 ∙ sym q.1)

pub rk_ledger_reply_refused_keeps : RefusedKeeps _ rk-ledger-reply-kinds.ps rk-ledger-reply-kinds.r rk-ledger-reply.Post (λ κs x. Refuses x) (λ κs a. both a.1.1.1.1.0.now a.0.now) (λ κs s. both s.1.1.1.1.0.now s.0.now)
rk_ledger_reply_refused_keeps κs a x s p w = ap₂ both (tells_kept p.0 w) (p.1 ∙ reply_kept _ _ _ _ (λ z. w (p.0.answered ∙ z)))

pub settled_row_one_answer : OneAnswer _ settled-row-kinds.ps settled-row-kinds.r settled-row.Post
settled_row_one_answer κs a x y s t p q = p ∙ sym q

pub rk_ledger_renew_one_answer : OneAnswer _ rk-ledger-renew-kinds.ps rk-ledger-renew-kinds.r rk-ledger-renew.Post
rk_ledger_renew_one_answer κs a x y s t p q = p.0 ∙ sym q.0

pub rk_ledger_renew_one_buffer : OneBuffer _ rk-ledger-renew-kinds.ps rk-ledger-renew-kinds.r rk-ledger-renew.Post (λ κs s. s.0.now)
rk_ledger_renew_one_buffer κs a x y s t p q = p.1 ∙ sym q.1

pub rk_ledger_renew_refused_keeps : RefusedKeeps _ rk-ledger-renew-kinds.ps rk-ledger-renew-kinds.r rk-ledger-renew.Post (λ κs x. Refuses x) (λ κs a. a.0.now) (λ κs s. s.0.now)
rk_ledger_renew_refused_keeps κs a x s p w = p.1 ∙ renew_kept _ (λ z. w (p.0 ∙ z))

pub rk_ledger_missing_one_answer : OneAnswer _ rk-ledger-missing-kinds.ps rk-ledger-missing-kinds.r rk-ledger-missing.Post
rk_ledger_missing_one_answer κs a x y s t p q = p.answered ∙ sym q.answered

pub rk_ledger_missing_one_buffer : OneBuffer _ rk-ledger-missing-kinds.ps rk-ledger-missing-kinds.r rk-ledger-missing.Post (λ κs s. s.1.1.1.1.0.now ∷ [])
rk_ledger_missing_one_buffer κs a x y s t p q = p.told ∙ sym q.told

pub rk_ledger_missing_refused_keeps : RefusedKeeps _ rk-ledger-missing-kinds.ps rk-ledger-missing-kinds.r rk-ledger-missing.Post (λ κs x. Refuses x) (λ κs a. a.1.1.1.1.0.now ∷ []) (λ κs s. s.1.1.1.1.0.now ∷ [])
rk_ledger_missing_refused_keeps κs a x s p w = tells_kept p w

pub rk_ledger_told_one_answer : OneAnswer _ rk-ledger-told-kinds.ps rk-ledger-told-kinds.r rk-ledger-told.Post
rk_ledger_told_one_answer κs a x y s t p q = p.answered ∙ sym q.answered

pub rk_ledger_told_one_buffer : OneBuffer _ rk-ledger-told-kinds.ps rk-ledger-told-kinds.r rk-ledger-told.Post (λ κs s. s.1.0.now)
rk_ledger_told_one_buffer κs a x y s t p q = p.told ∙ sym q.told

pub rk_ledger_told_refused_keeps : RefusedKeeps _ rk-ledger-told-kinds.ps rk-ledger-told-kinds.r rk-ledger-told.Post (λ κs x. Refuses x) (λ κs a. a.1.0.now) (λ κs s. s.1.0.now)
rk_ledger_told_refused_keeps κs a x s p w = tells_kept p w
