-- For each public function: two answers that its promise allows are equal; where it is lent a
-- buffer, so are two later contents of it, and a refusal leaves it as it was. Assumes nothing.
use mathlib.Core.Path.{sym, ap, ◌∙◌}
use Rattle.terms.specs.OneAnswer.{OneAnswer}
use Rattle.terms.specs.OneBuffer.{OneBuffer, RefusedKeeps}
use Rattle.step_spec.specs.WriteLaws.{left_kept}
use Rattle.step_frame.specs.Papers.{field_one, read_one, step_written_one, step_written_paper, StepRefuses, step_pos}
use Rattle.step_frame.proofs.U32FromStepRefusal.from.Reads as number
use Rattle.step_frame.proofs.U32FromStepRefusal.from.Kinds as number-kinds
use Rattle.step_frame.proofs.field_at.Reads as field_at
use Rattle.step_frame.proofs.field_at.Kinds as field-at-kinds
use Rattle.step_frame.proofs.read_at.Reads as read_at
use Rattle.step_frame.proofs.read_at.Kinds as read-at-kinds
use Rattle.step_frame.proofs.write.Reads as write
use Rattle.step_frame.proofs.write.Kinds as write-kinds

pub U32FromStepRefusal_from_one_answer : OneAnswer _ number-kinds.ps number-kinds.r number.Post
U32FromStepRefusal_from_one_answer κs a x y s t p q = p ∙ sym q

pub field_at_one_answer : OneAnswer _ field-at-kinds.ps field-at-kinds.r field_at.Post
field_at_one_answer κs a x y s t p q = field_one x y (p ∙ sym q)

pub read_at_one_answer : OneAnswer _ read-at-kinds.ps read-at-kinds.r read_at.Post
read_at_one_answer κs a x y s t p q = read_one x y (p ∙ sym q)

pub write_one_answer : OneAnswer _ write-kinds.ps write-kinds.r write.Post
write_one_answer κs a x y s t p q = step_written_one x y (p.0 ∙ sym q.0)

pub write_one_buffer : OneBuffer _ write-kinds.ps write-kinds.r write.Post (λ κs s. s.1.1.0.now)
write_one_buffer κs a x y s t p q = p.1 ∙ sym q.1

pub write_refused_keeps : RefusedKeeps _ write-kinds.ps write-kinds.r write.Post (λ κs x. StepRefuses x) (λ κs a. a.1.1.0.now) (λ κs s. s.1.1.0.now)
write_refused_keeps κs a x s p w = p.1 ∙ left_kept _ _ _ _ (sym (ap step_written_paper (sym w.1) ∙ p.0)) (step_pos w.0)
