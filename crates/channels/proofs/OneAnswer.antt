-- For each public function: two answers that its promise allows are equal. Assumes nothing.
use mathlib.Core.Path.{sym, ◌∙◌}
use Rattle.terms.specs.OneAnswer.{OneAnswer}
use Rattle.channels.proofs.Index.turn_to.Reads as turn-to
use Rattle.channels.proofs.Index.turn_to.Kinds as turn-to-kinds
use Rattle.channels.proofs.Row.answered.Reads as answered
use Rattle.channels.proofs.Row.answered.Kinds as answered-kinds
use Rattle.channels.proofs.Channels.none.Reads as none
use Rattle.channels.proofs.Channels.none.Kinds as none-kinds

pub Index-turn-to-one-answer : OneAnswer _ turn-to-kinds.ps turn-to-kinds.r turn-to.Post
Index-turn-to-one-answer κs a x y s t p q = p.0 ∙ sym q.0

pub Row-answered-one-answer : OneAnswer _ answered-kinds.ps answered-kinds.r answered.Post
Row-answered-one-answer κs a x y s t p q = p ∙ sym q

pub Channels-none-one-answer : OneAnswer _ none-kinds.ps none-kinds.r none.Post
Channels-none-one-answer κs a x y s t p q = p ∙ sym q
