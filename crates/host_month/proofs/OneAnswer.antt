-- For each function: two answers that its promise allows are equal; so are two later contents of
-- all that it is lent, and a refusal leaves them as they were. What a function is lent is put in
-- one list, told row first, then words. Assumes nothing.
use mathlib.Core.Path.{sym, ap₂, ◌∙◌}
use Rattle.terms.specs.OneAnswer.{OneAnswer}
use Rattle.terms.specs.OneBuffer.{OneBuffer, RefusedKeeps}
use Rattle.host_words.specs.Told.{both, Refuses, tells_kept}
use Rattle.host_month.proofs.Kept.{start_kept, add_kept}
use Rattle.host_month.proofs.rk_month_start.Reads as rk-month-start
use Rattle.host_month.proofs.rk_month_start.Kinds as rk-month-start-kinds
use Rattle.host_month.proofs.rk_month_add.Reads as rk-month-add
use Rattle.host_month.proofs.rk_month_add.Kinds as rk-month-add-kinds

pub rk_month_start_one_answer : OneAnswer _ rk-month-start-kinds.ps rk-month-start-kinds.r rk-month-start.Post
rk_month_start_one_answer κs a x y s t p q = p.0 ∙ sym q.0

pub rk_month_start_one_buffer : OneBuffer _ rk-month-start-kinds.ps rk-month-start-kinds.r rk-month-start.Post (λ κs s. s.1.0.now)
rk_month_start_one_buffer κs a x y s t p q = p.1 ∙ sym q.1

pub rk_month_start_refused_keeps : RefusedKeeps _ rk-month-start-kinds.ps rk-month-start-kinds.r rk-month-start.Post (λ κs x. Refuses x) (λ κs a. a.1.0.now) (λ κs s. s.1.0.now)
rk_month_start_refused_keeps κs a x s p w = p.1 ∙ start_kept _ _ (λ z. w (p.0 ∙ z))

pub rk_month_add_one_answer : OneAnswer _ rk-month-add-kinds.ps rk-month-add-kinds.r rk-month-add.Post
rk_month_add_one_answer κs a x y s t p q = p.0.answered ∙ sym q.0.answered

pub rk_month_add_one_buffer : OneBuffer _ rk-month-add-kinds.ps rk-month-add-kinds.r rk-month-add.Post (λ κs s. both s.1.1.0.now s.0.now)
rk_month_add_one_buffer κs a x y s t p q = ap₂ both (p.0.told ∙ sym q.0.told) (p.1 ∙ sym q.1)

pub rk_month_add_refused_keeps : RefusedKeeps _ rk-month-add-kinds.ps rk-month-add-kinds.r rk-month-add.Post (λ κs x. Refuses x) (λ κs a. both a.1.1.0.now a.0.now) (λ κs s. both s.1.1.0.now s.0.now)
rk_month_add_refused_keeps κs a x s p w = ap₂ both (tells_kept p.0 w) (p.1 ∙ add_kept _ _ (λ z. w (p.0.answered ∙ z)))
