-- For each function: two answers that its promise allows are equal; so are two later contents of
-- all that it is lent, and a refusal leaves them as they were. What a function is lent is put in
-- one list, told row first, then words. Assumes nothing.
use mathlib.Core.Path.{sym, ap₂, ◌∙◌}
use Rattle.terms.specs.OneAnswer.{OneAnswer}
use Rattle.terms.specs.OneBuffer.{OneBuffer, RefusedKeeps}
use Rattle.host_words.specs.Told.{both, Refuses, tells_kept}
use Rattle.host_session.proofs.Kept.{call_kept, arrival_kept}
use Rattle.host_session.proofs.rk_session_open.Reads as rk-session-open
use Rattle.host_session.proofs.rk_session_open.Kinds as rk-session-open-kinds
use Rattle.host_session.proofs.rk_session_begin.Reads as rk-session-begin
use Rattle.host_session.proofs.rk_session_begin.Kinds as rk-session-begin-kinds
use Rattle.host_session.proofs.rk_session_time.Reads as rk-session-time
use Rattle.host_session.proofs.rk_session_time.Kinds as rk-session-time-kinds
use Rattle.host_session.proofs.rk_session_leave.Reads as rk-session-leave
use Rattle.host_session.proofs.rk_session_leave.Kinds as rk-session-leave-kinds
use Rattle.host_session.proofs.rk_session_ask.Reads as rk-session-ask
use Rattle.host_session.proofs.rk_session_ask.Kinds as rk-session-ask-kinds
use Rattle.host_session.proofs.rk_session_receive.Reads as rk-session-receive
use Rattle.host_session.proofs.rk_session_receive.Kinds as rk-session-receive-kinds
use Rattle.host_session.proofs.rk_session_may_send.Reads as rk-session-may-send
use Rattle.host_session.proofs.rk_session_may_send.Kinds as rk-session-may-send-kinds

pub rk_session_open_one_answer : OneAnswer _ rk-session-open-kinds.ps rk-session-open-kinds.r rk-session-open.Post
rk_session_open_one_answer κs a x y s t p q = p.0 ∙ sym q.0

pub rk_session_open_one_buffer : OneBuffer _ rk-session-open-kinds.ps rk-session-open-kinds.r rk-session-open.Post (λ κs s. s.0.now)
rk_session_open_one_buffer κs a x y s t p q = p.1 ∙ sym q.1

-- opening is never refused
pub rk_session_open_refused_keeps : RefusedKeeps _ rk-session-open-kinds.ps rk-session-open-kinds.r rk-session-open.Post (λ κs x. Refuses x) (λ κs a. a.0.now) (λ κs s. s.0.now)
rk_session_open_refused_keeps κs a x s p w = absurd (w p.0)

pub rk_session_begin_one_answer : OneAnswer _ rk-session-begin-kinds.ps rk-session-begin-kinds.r rk-session-begin.Post
rk_session_begin_one_answer κs a x y s t p q = p.0.answered ∙ sym q.0.answered

pub rk_session_begin_one_buffer : OneBuffer _ rk-session-begin-kinds.ps rk-session-begin-kinds.r rk-session-begin.Post (λ κs s. both s.1.1.0.now s.0.now)
rk_session_begin_one_buffer κs a x y s t p q = ap₂ both (p.0.told ∙ sym q.0.told) (p.1 ∙ sym q.1)

pub rk_session_begin_refused_keeps : RefusedKeeps _ rk-session-begin-kinds.ps rk-session-begin-kinds.r rk-session-begin.Post (λ κs x. Refuses x) (λ κs a. both a.1.1.0.now a.0.now) (λ κs s. both s.1.1.0.now s.0.now)
rk_session_begin_refused_keeps κs a x s p w = ap₂ both (tells_kept p.0 w) (p.1 ∙ call_kept _ _ _ (λ z. w (p.0.answered ∙ z)))

pub rk_session_time_one_answer : OneAnswer _ rk-session-time-kinds.ps rk-session-time-kinds.r rk-session-time.Post
rk_session_time_one_answer κs a x y s t p q = p.0.answered ∙ sym q.0.answered

pub rk_session_time_one_buffer : OneBuffer _ rk-session-time-kinds.ps rk-session-time-kinds.r rk-session-time.Post (λ κs s. both s.1.1.0.now s.0.now)
rk_session_time_one_buffer κs a x y s t p q = ap₂ both (p.0.told ∙ sym q.0.told) (p.1 ∙ sym q.1)

pub rk_session_time_refused_keeps : RefusedKeeps _ rk-session-time-kinds.ps rk-session-time-kinds.r rk-session-time.Post (λ κs x. Refuses x) (λ κs a. both a.1.1.0.now a.0.now) (λ κs s. both s.1.1.0.now s.0.now)
rk_session_time_refused_keeps κs a x s p w = ap₂ both (tells_kept p.0 w) (p.1 ∙ call_kept _ _ _ (λ z. w (p.0.answered ∙ z)))

pub rk_session_leave_one_answer : OneAnswer _ rk-session-leave-kinds.ps rk-session-leave-kinds.r rk-session-leave.Post
rk_session_leave_one_answer κs a x y s t p q = p.0.answered ∙ sym q.0.answered

pub rk_session_leave_one_buffer : OneBuffer _ rk-session-leave-kinds.ps rk-session-leave-kinds.r rk-session-leave.Post (λ κs s. both s.1.1.0.now s.0.now)
rk_session_leave_one_buffer κs a x y s t p q = ap₂ both (p.0.told ∙ sym q.0.told) (p.1 ∙ sym q.1)

pub rk_session_leave_refused_keeps : RefusedKeeps _ rk-session-leave-kinds.ps rk-session-leave-kinds.r rk-session-leave.Post (λ κs x. Refuses x) (λ κs a. both a.1.1.0.now a.0.now) (λ κs s. both s.1.1.0.now s.0.now)
rk_session_leave_refused_keeps κs a x s p w = ap₂ both (tells_kept p.0 w) (p.1 ∙ call_kept _ _ _ (λ z. w (p.0.answered ∙ z)))

pub rk_session_ask_one_answer : OneAnswer _ rk-session-ask-kinds.ps rk-session-ask-kinds.r rk-session-ask.Post
rk_session_ask_one_answer κs a x y s t p q = p.0.answered ∙ sym q.0.answered

pub rk_session_ask_one_buffer : OneBuffer _ rk-session-ask-kinds.ps rk-session-ask-kinds.r rk-session-ask.Post (λ κs s. both s.1.1.0.now s.0.now)
rk_session_ask_one_buffer κs a x y s t p q = ap₂ both (p.0.told ∙ sym q.0.told) (p.1 ∙ sym q.1)

pub rk_session_ask_refused_keeps : RefusedKeeps _ rk-session-ask-kinds.ps rk-session-ask-kinds.r rk-session-ask.Post (λ κs x. Refuses x) (λ κs a. both a.1.1.0.now a.0.now) (λ κs s. both s.1.1.0.now s.0.now)
rk_session_ask_refused_keeps κs a x s p w = ap₂ both (tells_kept p.0 w) (p.1 ∙ call_kept _ _ _ (λ z. w (p.0.answered ∙ z)))

pub rk_session_receive_one_answer : OneAnswer _ rk-session-receive-kinds.ps rk-session-receive-kinds.r rk-session-receive.Post
rk_session_receive_one_answer κs a x y s t p q = p.0.answered ∙ sym q.0.answered

pub rk_session_receive_one_buffer : OneBuffer _ rk-session-receive-kinds.ps rk-session-receive-kinds.r rk-session-receive.Post (λ κs s. both s.1.1.1.0.now s.0.now)
rk_session_receive_one_buffer κs a x y s t p q = ap₂ both (p.0.told ∙ sym q.0.told) (p.1 ∙ sym q.1)

pub rk_session_receive_refused_keeps : RefusedKeeps _ rk-session-receive-kinds.ps rk-session-receive-kinds.r rk-session-receive.Post (λ κs x. Refuses x) (λ κs a. both a.1.1.1.0.now a.0.now) (λ κs s. both s.1.1.1.0.now s.0.now)
rk_session_receive_refused_keeps κs a x s p w = ap₂ both (tells_kept p.0 w) (p.1 ∙ arrival_kept _ _ _ (λ z. w (p.0.answered ∙ z)))

pub rk_session_may_send_one_answer : OneAnswer _ rk-session-may-send-kinds.ps rk-session-may-send-kinds.r rk-session-may-send.Post
rk_session_may_send_one_answer κs a x y s t p q = p ∙ sym q
