-- For the public function: two answers that its promise allows are equal. Assumes nothing.
use mathlib.Core.Path.{sym, ◌∙◌}
use Rattle.terms.specs.OneAnswer.{OneAnswer}
use Rattle.broken.proofs.broken_field.Reads as broken-field
use Rattle.broken.proofs.broken_field.Kinds as broken-field-kinds

pub broken_field_one_answer : OneAnswer _ broken-field-kinds.ps broken-field-kinds.r broken-field.Post
broken_field_one_answer κs a x y s t p q = p ∙ sym q
