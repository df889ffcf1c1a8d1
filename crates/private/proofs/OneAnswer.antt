-- For each public function: two answers that its promise allows are equal. Assumes nothing.
use mathlib.Core.Path.{sym, ◌∙◌}
use Rattle.terms.specs.OneAnswer.{OneAnswer}
use Rattle.private.specs.PartsLaws.{parts_one, told_one}
use Rattle.private.proofs.parts_in.Reads as Parts-in
use Rattle.private.proofs.parts_in.Kinds as parts-in-kinds
use Rattle.private.proofs.private_span.Reads as private-span
use Rattle.private.proofs.private_span.Kinds as private-span-kinds

pub parts_in_one_answer : OneAnswer _ parts-in-kinds.ps parts-in-kinds.r Parts-in.Post
parts_in_one_answer κs a x y s t p q = parts_one x y (p ∙ sym q)

pub private_span_one_answer : OneAnswer _ private-span-kinds.ps private-span-kinds.r private-span.Post
private_span_one_answer κs a x y s t p q = told_one x y (p ∙ sym q)
