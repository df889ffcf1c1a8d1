-- `offer`: the reading's answer and its type tell the calls, and each arm gives what they come to.
-- Assumes nothing.
use Rattle.std.proofs.Common.{◌≡◌, [], refl, sym, ◌∙◌, rules, ℕ, ap}
use Rattle.terms.specs.Verdicts.{verdict_number}
use Rattle.terms.specs.Paper.{one_number}
use Rattle.tick_map.specs.Bits.{Words}
use Rattle.ledger_spec.specs.Calls.{answer_to}
use Rattle.rules.specs.Table.{kind_is}
use Rattle.rules.specs.declared.Kind.{Kind}
use Rattle.rules.specs.declared.Kind.TheVariants.{S001, S002, S003, P001, P002, M101, M102, M201, Unknown}
use Rattle.terms.specs.Refusals.{number_of, refusal_pos}
use Rattle.reading.specs.Seen.{seen_number}
use Rattle.walk_spec.specs.Offers.{calls_for, calls_by}
use Rattle.walk_spec.specs.OfferLaws.{calls_refused, calls_of_lem}
use Rattle.walk_step.specs.OfferedLaws.{verdict_paper, verdict_mapped, offers_none, offers_one}
use Rattle.walk_step.proofs.offer.Goals as goal
use Rattle.walk_step.proofs.offer.Goals.{Start, After-from}

words : (c : goal.Start) → Words c.args.ledger.map.words
words c = record { four = search rules; low = λ i. search rules }

-- behind the test of the answer: it is 0; and an arm knows the type, and so the calls
zero : (c : goal.After-from) → seen_number c.args.seen ≡ 0
zero c = ap verdict_number c.in_default.is

calls : (c : goal.After-from) (k : Kind) → c.from.result ≡ k → calls_by c.args.seen ≡ calls_for k c.args.seen.channel.0 c.args.seen.tick.0
calls c k e = calls_of_lem _ k (zero c) (sym e ∙ kind_is _ _ c.from.ensures)

-- no other type makes one
calls_other : (k : Kind) (channel n : ℕ) → (k ≡ P001 → ⊥) → (k ≡ M201 → ⊥) → calls_for k channel n ≡ []
calls_other S001 channel n f g = refl
calls_other S002 channel n f g = refl
calls_other S003 channel n f g = refl
calls_other P001 channel n f g = absurd (f refl)
calls_other P002 channel n f g = refl
calls_other M101 channel n f g = refl
calls_other M102 channel n f g = refl
calls_other M201 channel n f g = absurd (g refl)
calls_other Unknown channel n f g = refl

pub returns-in-Err : goal.returns-in-Err
returns-in-Err c =
    let e : seen_number c.args.seen ≡ number_of c.in-Err.why = ap verdict_number c.in-Err.is in
    offers_none _ (words (goal.at.returns-in-Err c).Start) c.args.seen _ (calls_refused _ (λ z. refusal_pos c.in-Err.why (sym e ∙ z))) (sym e)

pub returns-in-P001 : goal.returns-in-P001
unfolding answer_to
returns-in-P001 c =
    offers_one _ (words (goal.at.returns-in-P001 c).Start) c.args.seen _ _ _ (calls (goal.at.returns-in-P001 c).After-from _ c.in-P001.is)
    (verdict_paper c.announce.result.answer ∙ one_number c.announce.ensures.0) c.announce.ensures.1

pub returns-in-M201 : goal.returns-in-M201
unfolding answer_to
returns-in-M201 c =
    offers_one _ (words (goal.at.returns-in-M201 c).Start) c.args.seen _ _ _ (calls (goal.at.returns-in-M201 c).After-from _ c.in-M201.is)
    (verdict_mapped _ _ _ c.map.ensures.cases ∙ one_number c.tick-ticked.ensures.0) c.tick-ticked.ensures.1

pub returns-in_default-from : goal.returns-in_default-from
returns-in_default-from c =
    let d = (goal.at.returns-in_default-from c).After-from in
    offers_none _ (words (goal.at.returns-in_default-from c).Start) c.args.seen _
    (calls d _ refl ∙ calls_other _ _ _ c.in_default-from.not-P001 c.in_default-from.not-M201) (sym (zero d))
