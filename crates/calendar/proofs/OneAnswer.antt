-- For the public function: two answers that its promise allows are equal. Assumes nothing.
use mathlib.Core.Path.{sym, ◌∙◌}
use Rattle.terms.specs.OneAnswer.{OneAnswer}
use Rattle.calendar.proofs.is_real.Reads as is_real
use Rattle.calendar.proofs.is_real.Kinds as is-real-kinds

pub is_real_one_answer : OneAnswer _ is-real-kinds.ps is-real-kinds.r is_real.Post
is_real_one_answer κs a x y s t p q = p ∙ sym q
