-- Two answers that the promise of `see` allows are equal. Assumes nothing.
use Rattle.std.proofs.Common.{sym, ◌∙◌}
use Rattle.terms.specs.OneAnswer.{OneAnswer}
use Rattle.reading_parts.proofs.see.Reads as see
use Rattle.reading_parts.proofs.see.Kinds as see-kinds

pub see_one_answer : OneAnswer _ see-kinds.ps see-kinds.r see.Post
see_one_answer κs a x y s t p q = p ∙ sym q
