-- Two answers that the promise allows are equal. Assumes nothing.
use mathlib.Core.Path.{sym, ◌∙◌}
use Rattle.terms.specs.OneAnswer.{OneAnswer}
use Rattle.frame_view.proofs.view_of.Reads as view_of
use Rattle.frame_view.proofs.view_of.Kinds as view-of-kinds

pub view_of_one_answer : OneAnswer _ view-of-kinds.ps view-of-kinds.r view_of.Post
view_of_one_answer κs a x y s t p q = p ∙ sym q
