-- For each public function: two answers that its promise allows are equal; the lent buffer's later
-- contents too, and a refusal leaves it as it was. Assumes nothing.
use mathlib.Core.Path.{sym, ◌∙◌}
use Rattle.terms.specs.OneAnswer.{OneAnswer}
use Rattle.terms.specs.OneBuffer.{OneBuffer, RefusedKeeps}
use Rattle.octets.specs.Papers.{Refuses, written_one}
use Rattle.private.proofs.IntoLaws.{into_refused_keeps}
use Rattle.private.proofs.Laws.{refused_kept}
use Rattle.scrub.proofs.scrub_into.Reads as scrub-into
use Rattle.scrub.proofs.scrub_into.Kinds as scrub-into-kinds
use Rattle.scrub.proofs.scrub.Reads as scrub
use Rattle.scrub.proofs.scrub.Kinds as scrub-kinds

pub scrub_into_one_answer : OneAnswer _ scrub-into-kinds.ps scrub-into-kinds.r scrub-into.Post
scrub_into_one_answer κs a x y s t p q = written_one x y (p.0 ∙ sym q.0)

pub scrub_into_one_buffer : OneBuffer _ scrub-into-kinds.ps scrub-into-kinds.r scrub-into.Post (λ κs s. s.1.1.0.now)
scrub_into_one_buffer κs a x y s t p q = p.1 ∙ sym q.1

pub scrub_into_refused_keeps : RefusedKeeps _ scrub-into-kinds.ps scrub-into-kinds.r scrub-into.Post (λ κs x. Refuses x) (λ κs a. a.1.1.0.now) (λ κs s. s.1.1.0.now)
scrub_into_refused_keeps κs a x s p w = into_refused_keeps _ _ _ _ x w p.0 p.1

pub scrub_one_answer : OneAnswer _ scrub-kinds.ps scrub-kinds.r scrub.Post
scrub_one_answer κs a x y s t p q = written_one x y (p.0 ∙ sym q.0)

pub scrub_one_buffer : OneBuffer _ scrub-kinds.ps scrub-kinds.r scrub.Post (λ κs s. s.0.now)
scrub_one_buffer κs a x y s t p q = p.1 ∙ sym q.1

pub scrub_refused_keeps : RefusedKeeps _ scrub-kinds.ps scrub-kinds.r scrub.Post (λ κs x. Refuses x) (λ κs a. a.0.now) (λ κs s. s.0.now)
scrub_refused_keeps κs a x s p w = refused_kept _ _ x w p.0 p.1
