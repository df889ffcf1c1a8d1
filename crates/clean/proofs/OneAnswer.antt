-- For each public function: two answers that its promise allows are equal; where it is lent a
-- buffer, so are two later contents of it, and a refusal leaves it as it was. Assumes nothing.
use mathlib.Core.Path.{sym, ◌∙◌}
use Rattle.terms.specs.OneAnswer.{OneAnswer}
use Rattle.terms.specs.OneBuffer.{OneBuffer, RefusedKeeps}
use Rattle.clean.specs.Answers.{cleaned_one, check_one, Refuses, refused_leaves}
use Rattle.clean.proofs.clean.Reads as clean
use Rattle.clean.proofs.clean.Kinds as clean-kinds
use Rattle.clean.proofs.is_clean.Reads as is-clean
use Rattle.clean.proofs.is_clean.Kinds as is-clean-kinds

pub clean_one_answer : OneAnswer _ clean-kinds.ps clean-kinds.r clean.Post
clean_one_answer κs a x y s t p q = cleaned_one x y (p.0 ∙ sym q.0)

pub clean_one_buffer : OneBuffer _ clean-kinds.ps clean-kinds.r clean.Post (λ κs s. s.1.0.now)
clean_one_buffer κs a x y s t p q = p.1 ∙ sym q.1

pub clean_refused_keeps : RefusedKeeps _ clean-kinds.ps clean-kinds.r clean.Post (λ κs x. Refuses x) (λ κs a. a.1.0.now) (λ κs s. s.1.0.now)
clean_refused_keeps κs a x s p w = refused_leaves _ _ _ x w p.0 p.1

pub is_clean_one_answer : OneAnswer _ is-clean-kinds.ps is-clean-kinds.r is-clean.Post
is_clean_one_answer κs a x y s t p q = check_one x y (p ∙ sym q)
