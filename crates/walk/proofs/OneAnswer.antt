-- Two answers that the promise of `walk` allows are equal, and so are two later contents of the
-- buffer; a refusal leaves it as it was. Assumes nothing.
use mathlib.Core.Path.{sym, ◌∙◌}
use Rattle.terms.specs.OneAnswer.{OneAnswer}
use Rattle.terms.specs.OneBuffer.{OneBuffer, RefusedKeeps}
use Rattle.walk.specs.Answers.{walked_one, Refuses, refused_leaves}
use Rattle.walk.proofs.walk.Reads as walk
use Rattle.walk.proofs.walk.Kinds as walk-kinds

pub walk_one_answer : OneAnswer _ walk-kinds.ps walk-kinds.r walk.Post
walk_one_answer κs a x y s t p q = walked_one x y (p.0 ∙ sym q.0) (p.1.0 ∙ sym q.1.0)

pub walk_one_buffer : OneBuffer _ walk-kinds.ps walk-kinds.r walk.Post (λ κs s. s.1.0.now)
walk_one_buffer κs a x y s t p q = p.1.1 ∙ sym q.1.1

pub walk_refused_keeps : RefusedKeeps _ walk-kinds.ps walk-kinds.r walk.Post (λ κs x. Refuses x) (λ κs a. a.1.0.now) (λ κs s. s.1.0.now)
walk_refused_keeps κs a x s p w = refused_leaves _ _ _ x w p.0 p.1.1
