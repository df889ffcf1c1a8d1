-- `may_write`: each return cites the outcome of writing for the tests that led there.
-- Assumes nothing.
use Rattle.std.proofs.Common.{◌≡◌, length, sym, refl, ◌∙◌}
use Rattle.std.proofs.lemmas.Result.{err_from_is_err_and}
use Rattle.frame_spec.specs.WriteLaws.{measure_in, judgement_in, write_measured, write_judged, write_room, write_done}
use Rattle.frame_spec.specs.Write.{Message}
use Rattle.frame.specs.Papers.{text_of}
use Rattle.rules.specs.Fields.{judge_of}
use Rattle.rules.specs.Outcomes.{measure_same, judge_same}
use Rattle.rules.specs.Table.{kind_of, kind_is, measure_of}
use Rattle.terms.specs.Refusals.{refusal_pos}
use Rattle.frame.proofs.may_write.Goals as goal
use Rattle.frame.proofs.may_write.Goals.{After-from-kind, In_ok-measure, In_ok-judge}

-- the message, as the function was called
abbrev text : goal.After-from-kind → Message
text c = text_of c.args.message

kind : (c : goal.After-from-kind) → kind_of c.args.message.msg_type ≡ c.from-kind.result
kind c = sym (kind_is _ _ c.from-kind.ensures)

measured : (c : goal.After-from-kind) → measure_in (text c) ≡ measure_of c.from-kind.result (length c.args.message.body.now)
measured c = measure_same _ _ _ _ (kind c) refl

judged : (c : goal.After-from-kind) → judgement_in (text c) ≡ judge_of c.from-kind.result c.args.message.sending_time c.args.message.body.now
judged c = judge_same _ _ _ _ _ _ (kind c) refl refl

fine : (c : goal.In_ok-measure) → measure_in (text (goal.at.In_ok-measure c).After-from-kind) ≡ 0
fine c = measured (goal.at.In_ok-measure c).After-from-kind ∙ sym c.in_ok-measure.ensures

fine2 : (c : goal.In_ok-judge) → judgement_in (text (goal.at.In_ok-judge c).After-from-kind) ≡ 0
fine2 c = judged (goal.at.In_ok-judge c).After-from-kind ∙ sym c.in_ok-judge.ensures

pub returns-in_err-measure : goal.returns-in_err-measure
returns-in_err-measure c =
    let p = err_from_is_err_and c.from_residual.result c.from_residual.ensures.1 in
    rw (p.1, p.2) (sym (write_measured _ _ _ (measured (goal.at.returns-in_err-measure c).After-from-kind ∙ sym c.in_err-measure.ensures) (refusal_pos _)))

pub returns-in_err-judge : goal.returns-in_err-judge
returns-in_err-judge c =
    let p = err_from_is_err_and c.from_residual-in_err-judge.result c.from_residual-in_err-judge.ensures.1 in
    rw (p.1, p.2) (sym (write_judged _ _ (fine (goal.at.returns-in_err-judge c).In_ok-measure) _ (judged (goal.at.returns-in_err-judge c).After-from-kind ∙ sym c.in_err-judge.ensures) (refusal_pos _)))

pub returns-then-room-size : goal.returns-then-room-size
returns-then-room-size c = sym (write_room _ _ (fine (goal.at.returns-then-room-size c).In_ok-measure) (fine2 (goal.at.returns-then-room-size c).In_ok-judge) c.if-room-size.true)

pub returns : goal.returns
returns c = sym (write_done _ _ (fine (goal.at.returns c).In_ok-measure) (fine2 (goal.at.returns c).In_ok-judge) c.if-room-size.false)
