-- For each public function: two answers that its promise allows are equal. Assumes nothing.
use mathlib.Core.Path.{sym, ◌∙◌}
use denote.RattleType.{RattleType}
use denote.Param.Laws.{Laws}
use mir.Syntax.{Dict}
use Rattle.terms.specs.OneAnswer.{OneAnswer}
use Rattle.terms.proofs.SessionNumber.new.Reads as session-new
use Rattle.terms.proofs.SessionNumber.new.Kinds as session-new-kinds
use Rattle.terms.proofs.SessionNumber.value.Reads as session-value
use Rattle.terms.proofs.SessionNumber.value.Kinds as session-value-kinds
use Rattle.terms.proofs.TickNumber.new.Reads as tick-new
use Rattle.terms.proofs.TickNumber.new.Kinds as tick-new-kinds
use Rattle.terms.proofs.TickNumber.value.Reads as tick-value
use Rattle.terms.proofs.TickNumber.value.Kinds as tick-value-kinds
use Rattle.terms.proofs.ChannelNumber.new.Reads as channel-new
use Rattle.terms.proofs.ChannelNumber.new.Kinds as channel-new-kinds
use Rattle.terms.proofs.ChannelNumber.value.Reads as channel-value
use Rattle.terms.proofs.ChannelNumber.value.Kinds as channel-value-kinds
use Rattle.terms.proofs.U32FromRefusal.from.Reads as number
use Rattle.terms.proofs.U32FromRefusal.from.Kinds as number-kinds
use Rattle.terms.proofs.number_of.Reads as answer-number
use Rattle.terms.proofs.number_of.Kinds as answer-number-kinds

pub SessionNumber-new-one-answer : OneAnswer _ session-new-kinds.ps session-new-kinds.r session-new.Post
SessionNumber-new-one-answer κs a x y s t p q = p ∙ sym q

pub SessionNumber-value-one-answer : OneAnswer _ session-value-kinds.ps session-value-kinds.r session-value.Post
SessionNumber-value-one-answer κs a x y s t p q = p ∙ sym q

pub TickNumber-new-one-answer : OneAnswer _ tick-new-kinds.ps tick-new-kinds.r tick-new.Post
TickNumber-new-one-answer κs a x y s t p q = p ∙ sym q

pub TickNumber-value-one-answer : OneAnswer _ tick-value-kinds.ps tick-value-kinds.r tick-value.Post
TickNumber-value-one-answer κs a x y s t p q = p ∙ sym q

pub ChannelNumber-new-one-answer : OneAnswer _ channel-new-kinds.ps channel-new-kinds.r channel-new.Post
ChannelNumber-new-one-answer κs a x y s t p q = p ∙ sym q

pub ChannelNumber-value-one-answer : OneAnswer _ channel-value-kinds.ps channel-value-kinds.r channel-value.Post
ChannelNumber-value-one-answer κs a x y s t p q = p ∙ sym q

pub U32FromRefusal_from_one_answer : OneAnswer _ number-kinds.ps number-kinds.r number.Post
U32FromRefusal_from_one_answer κs a x y s t p q = p ∙ sym q

-- whatever the answer holds
module _ (T : RattleType) (laws : Laws T) (drops : Dict) where
  pub number_of_one_answer : OneAnswer _ (answer-number-kinds.ps T laws) (answer-number-kinds.r T laws) (answer-number.Post T laws drops)
  number_of_one_answer κs a x y s t p q = p ∙ sym q
