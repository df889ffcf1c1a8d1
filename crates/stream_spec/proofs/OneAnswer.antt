-- For the public function: two answers that its promise allows are equal. Assumes nothing.
use mathlib.Core.Path.{sym, ◌∙◌}
use Rattle.terms.specs.OneAnswer.{OneAnswer}
use Rattle.stream_spec.proofs.Stream.opened.Reads as opened
use Rattle.stream_spec.proofs.Stream.opened.Kinds as opened-kinds

pub Stream-opened-one-answer : OneAnswer _ opened-kinds.ps opened-kinds.r opened.Post
Stream-opened-one-answer κs a x y s t p q = p ∙ sym q
