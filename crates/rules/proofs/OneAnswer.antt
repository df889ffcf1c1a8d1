-- For each public function: two answers that its promise allows are equal. Assumes nothing.
use mathlib.Core.Path.{sym, ◌∙◌}
use Rattle.terms.specs.OneAnswer.{OneAnswer}
use Rattle.rules.specs.Table.{kind_one}
use Rattle.terms.proofs.Verdicts.{verdict_one}
use Rattle.rules.proofs.KindFromU32.from.Reads as kind-of
use Rattle.rules.proofs.KindFromU32.from.Kinds as kind-of-kinds
use Rattle.rules.proofs.is_known.Reads as is_Known
use Rattle.rules.proofs.is_known.Kinds as is-known-kinds
use Rattle.rules.proofs.measure.Reads as measure
use Rattle.rules.proofs.measure.Kinds as measure-kinds
use Rattle.rules.proofs.layout_of.Reads as layout_of
use Rattle.rules.proofs.layout_of.Kinds as layout-of-kinds
use Rattle.rules.proofs.suits_tail.Reads as suits-tail
use Rattle.rules.proofs.suits_tail.Kinds as suits-tail-kinds
use Rattle.rules.proofs.fields_ok.Reads as fields-ok
use Rattle.rules.proofs.fields_ok.Kinds as fields-ok-kinds
use Rattle.rules.proofs.pair_ok.Reads as pair-ok
use Rattle.rules.proofs.pair_ok.Kinds as pair-ok-kinds
use Rattle.rules.proofs.m102_fixed_ok.Reads as m102-fixed-ok
use Rattle.rules.proofs.m102_fixed_ok.Kinds as m102-fixed-ok-kinds
use Rattle.rules.proofs.entry_ok.Reads as entry-ok
use Rattle.rules.proofs.entry_ok.Kinds as entry-ok-kinds
use Rattle.rules.proofs.entry_size.Reads as entry-size
use Rattle.rules.proofs.entry_size.Kinds as entry-size-kinds
use Rattle.rules.proofs.judge.Reads as judge
use Rattle.rules.proofs.judge.Kinds as judge-kinds

pub KindFromU32_from_one_answer : OneAnswer _ kind-of-kinds.ps kind-of-kinds.r kind-of.Post
KindFromU32_from_one_answer κs a x y s t p q = kind_one x y (p ∙ sym q)

pub is_known_one_answer : OneAnswer _ is-known-kinds.ps is-known-kinds.r is_Known.Post
is_known_one_answer κs a x y s t p q = p ∙ sym q

pub measure_one_answer : OneAnswer _ measure-kinds.ps measure-kinds.r measure.Post
measure_one_answer κs a x y s t p q = verdict_one x y (p ∙ sym q)

pub layout_of_one_answer : OneAnswer _ layout-of-kinds.ps layout-of-kinds.r layout_of.Post
layout_of_one_answer κs a x y s t p q = p ∙ sym q

pub suits_tail_one_answer : OneAnswer _ suits-tail-kinds.ps suits-tail-kinds.r suits-tail.Post
suits_tail_one_answer κs a x y s t p q = p ∙ sym q

pub judge_one_answer : OneAnswer _ judge-kinds.ps judge-kinds.r judge.Post
judge_one_answer κs a x y s t p q = verdict_one x y (p ∙ sym q)

pub fields_ok_one_answer : OneAnswer _ fields-ok-kinds.ps fields-ok-kinds.r fields-ok.Post
fields_ok_one_answer κs a x y s t p q = p ∙ sym q

pub entry_size_one_answer : OneAnswer _ entry-size-kinds.ps entry-size-kinds.r entry-size.Post
entry_size_one_answer κs a x y s t p q = p ∙ sym q

pub pair_ok_one_answer : OneAnswer _ pair-ok-kinds.ps pair-ok-kinds.r pair-ok.Post
pair_ok_one_answer κs a x y s t p q = p ∙ sym q

pub m102_fixed_ok_one_answer : OneAnswer _ m102-fixed-ok-kinds.ps m102-fixed-ok-kinds.r m102-fixed-ok.Post
m102_fixed_ok_one_answer κs a x y s t p q = p ∙ sym q

pub entry_ok_one_answer : OneAnswer _ entry-ok-kinds.ps entry-ok-kinds.r entry-ok.Post
entry_ok_one_answer κs a x y s t p q = p ∙ sym q
