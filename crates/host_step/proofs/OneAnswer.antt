-- For each function: two answers that its promise allows are equal; so are two later contents of
-- all that it is lent, and a refusal leaves them as they were. What a function is lent is put in
-- one list, told row first, then buffer. Assumes nothing.
use mathlib.Core.Path.{sym, ap₂, ◌∙◌}
use mathlib.Core.List.{[], ◌∷◌}
use Rattle.terms.specs.OneAnswer.{OneAnswer}
use Rattle.terms.specs.OneBuffer.{OneBuffer, RefusedKeeps}
use Rattle.step_spec.specs.WriteLaws.{left_unless}
use Rattle.step_scrub.specs.ScrubLaws.{scrub_unless}
use Rattle.host_words.specs.Told.{both, Refuses, tells_kept}
use Rattle.host_step.proofs.rk_step_read.Reads as read
use Rattle.host_step.proofs.rk_step_read.Kinds as read-kinds
use Rattle.host_step.proofs.rk_step_field.Reads as field
use Rattle.host_step.proofs.rk_step_field.Kinds as field-kinds
use Rattle.host_step.proofs.rk_step_write.Reads as write
use Rattle.host_step.proofs.rk_step_write.Kinds as write-kinds
use Rattle.host_step.proofs.rk_step_scrub.Reads as scrub
use Rattle.host_step.proofs.rk_step_scrub.Kinds as scrub-kinds

pub rk_step_read_one_answer : OneAnswer _ read-kinds.ps read-kinds.r read.Post
rk_step_read_one_answer κs a x y s t p q = p.answered ∙ sym q.answered

pub rk_step_read_one_buffer : OneBuffer _ read-kinds.ps read-kinds.r read.Post (λ κs s. s.1.1.0.now)
rk_step_read_one_buffer κs a x y s t p q = p.told ∙ sym q.told

pub rk_step_read_refused_keeps : RefusedKeeps _ read-kinds.ps read-kinds.r read.Post (λ κs x. Refuses x) (λ κs a. a.1.1.0.now) (λ κs s. s.1.1.0.now)
rk_step_read_refused_keeps κs a x s p w = tells_kept p w

pub rk_step_field_one_answer : OneAnswer _ field-kinds.ps field-kinds.r field.Post
rk_step_field_one_answer κs a x y s t p q = p.answered ∙ sym q.answered

pub rk_step_field_one_buffer : OneBuffer _ field-kinds.ps field-kinds.r field.Post (λ κs s. s.1.1.0.now)
rk_step_field_one_buffer κs a x y s t p q = p.told ∙ sym q.told

pub rk_step_field_refused_keeps : RefusedKeeps _ field-kinds.ps field-kinds.r field.Post (λ κs x. Refuses x) (λ κs a. a.1.1.0.now) (λ κs s. s.1.1.0.now)
rk_step_field_refused_keeps κs a x s p w = tells_kept p w

pub rk_step_write_one_answer : OneAnswer _ write-kinds.ps write-kinds.r write.Post
rk_step_write_one_answer κs a x y s t p q = p.0.answered ∙ sym q.0.answered

pub rk_step_write_one_buffer : OneBuffer _ write-kinds.ps write-kinds.r write.Post (λ κs s. both (s.1.1.1.0.now ∷ []) s.1.1.0.now)
rk_step_write_one_buffer κs a x y s t p q = ap₂ both (p.0.told ∙ sym q.0.told) (p.1 ∙ sym q.1)

pub rk_step_write_refused_keeps : RefusedKeeps _ write-kinds.ps write-kinds.r write.Post (λ κs x. Refuses x) (λ κs a. both (a.1.1.1.0.now ∷ []) a.1.1.0.now) (λ κs s. both (s.1.1.1.0.now ∷ []) s.1.1.0.now)
rk_step_write_refused_keeps κs a x s p w = ap₂ both (tells_kept p.0 w) (p.1 ∙ left_unless _ _ _ (λ z. w (p.0.answered ∙ z)))

pub rk_step_scrub_one_answer : OneAnswer _ scrub-kinds.ps scrub-kinds.r scrub.Post
rk_step_scrub_one_answer κs a x y s t p q = p.0.answered ∙ sym q.0.answered

pub rk_step_scrub_one_buffer : OneBuffer _ scrub-kinds.ps scrub-kinds.r scrub.Post (λ κs s. both (s.1.0.now ∷ []) s.0.now)
rk_step_scrub_one_buffer κs a x y s t p q = ap₂ both (p.0.told ∙ sym q.0.told) (p.1 ∙ sym q.1)

pub rk_step_scrub_refused_keeps : RefusedKeeps _ scrub-kinds.ps scrub-kinds.r scrub.Post (λ κs x. Refuses x) (λ κs a. both (a.1.0.now ∷ []) a.0.now) (λ κs s. both (s.1.0.now ∷ []) s.0.now)
rk_step_scrub_refused_keeps κs a x s p w = ap₂ both (tells_kept p.0 w) (p.1 ∙ scrub_unless _ (λ z. w (p.0.answered ∙ z)))
