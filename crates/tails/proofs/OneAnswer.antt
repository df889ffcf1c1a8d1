-- For the public function: two answers that its promise allows are equal. Assumes nothing.
use mathlib.Core.Path.{sym, ◌∙◌}
use Rattle.terms.specs.OneAnswer.{OneAnswer}
use Rattle.tails.proofs.tail_field.Reads as tail-field
use Rattle.tails.proofs.tail_field.Kinds as tail-field-kinds

pub tail_field_one_answer : OneAnswer _ tail-field-kinds.ps tail-field-kinds.r tail-field.Post
tail_field_one_answer κs a x y s t p q = p ∙ sym q
