-- For each public function: two answers that its promise allows are equal; where it is lent a
-- buffer, so are two later contents of it, and a refusal leaves it as it was. Assumes nothing.
use mathlib.Core.Path.{sym, ◌∙◌}
use Rattle.terms.specs.OneAnswer.{OneAnswer}
use Rattle.terms.specs.OneBuffer.{OneBuffer, RefusedKeeps}
use Rattle.octets.specs.Papers.{Refuses, written_one, refused_kept}
use Rattle.record.specs.RecordLaws.{length_record}
use Rattle.record.proofs.put.Reads as put
use Rattle.record.proofs.put.Kinds as put-kinds
use Rattle.record.proofs.record_at.Reads as record-at
use Rattle.record.proofs.record_at.Kinds as record-at-kinds

pub put_one_answer : OneAnswer _ put-kinds.ps put-kinds.r put.Post
put_one_answer κs a x y s t p q = written_one x y (p.0 ∙ sym q.0)

pub put_one_buffer : OneBuffer _ put-kinds.ps put-kinds.r put.Post (λ κs s. s.0.now)
put_one_buffer κs a x y s t p q = p.1 ∙ sym q.1

pub put_refused_keeps : RefusedKeeps _ put-kinds.ps put-kinds.r put.Post (λ κs x. Refuses x) (λ κs a. a.0.now) (λ κs s. s.0.now)
put_refused_keeps κs a x s p w = refused_kept _ _ _ _ _ x (length_record _) w p.0 p.1

pub record_at_one_answer : OneAnswer _ record-at-kinds.ps record-at-kinds.r record-at.Post
record_at_one_answer κs a x y s t p q = p ∙ sym q
