-- For each public function: two answers that its promise allows are equal. Assumes nothing.
use mathlib.Core.Path.{sym, ◌∙◌}
use Rattle.terms.specs.OneAnswer.{OneAnswer}
use Rattle.reading.proofs.blank.Reads as blank
use Rattle.reading.proofs.blank.Kinds as blank-kinds
use Rattle.reading.proofs.see.Reads as see
use Rattle.reading.proofs.see.Kinds as see-kinds

pub blank_one_answer : OneAnswer _ blank-kinds.ps blank-kinds.r blank.Post
blank_one_answer κs a x y s t p q = p ∙ sym q

pub see_one_answer : OneAnswer _ see-kinds.ps see-kinds.r see.Post
see_one_answer κs a x y s t p q = p ∙ sym q
