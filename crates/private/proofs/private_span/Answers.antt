-- `private_span`: a refusal of reading's checks of type and length, or the span. Assumes nothing.
use Rattle.std.proofs.Common.{◌≡◌, List, length, sym, ap, ◌∙◌}
use Rattle.std.proofs.lemmas.Result.{err_from_is_err_and}
use Rattle.terms.specs.Paper.{answer}
use Rattle.terms.specs.Refusals.{refusal_pos}
use Rattle.rules.specs.declared.Kind.{Kind}
use Rattle.rules.specs.Table.{kind_of, kind_is, measure_of}
use Rattle.frame_spec.specs.Measures.{fits}
use Rattle.private.specs.declared.Span.{Span}
use Rattle.private.specs.Private.{private_of, span_at}
use Rattle.private.specs.Parts.{span_numbers, parts_spans, suited_spans}
use Rattle.private.specs.PartsLaws.{suited_is, span_told_lem, span_refused}
use Rattle.private.proofs.private_span.Goals as goal
use Rattle.private.proofs.private_span.Goals.{After-measure}

kind : (c : goal.After-measure) → c.from-kind.result ≡ kind_of c.args.msg_type
kind c = kind_is _ _ c.from-kind.ensures

measured : (c : goal.After-measure) → measure_of (kind_of c.args.msg_type) (length c.args.body.now) ≡ measure_of c.from-kind.result (length c.args.body.now)
measured c = ap (λ (k : Kind). measure_of k (length c.args.body.now)) (sym (kind c))

pub returns-in_err-measure : goal.returns-in_err-measure
returns-in_err-measure c =
    let p = err_from_is_err_and c.from_residual.result c.from_residual.ensures.1 in
    let e = measured (goal.at.returns-in_err-measure c).After-measure ∙ sym c.in_err-measure.ensures in
    rw (p.1, p.2, ← e) (sym (span_refused _ _ _ (λ z. refusal_pos _ (sym e ∙ z))))

pub returns : goal.returns
returns c =
    let a = c.args in
    let k = kind_of a.msg_type in
    let fine : measure_of k (length a.body.now) ≡ 0 = measured (goal.at.returns c).After-measure ∙ sym c.in_ok-measure.ensures in
    let all : parts_spans c.parts_in.result ≡ private_of k a.body.now = c.parts_in.ensures ∙ ap (λ (x : Kind). suited_spans x a.body.now) (kind (goal.at.returns c).After-measure) ∙ suited_is k a.body.now (fits k (length a.body.now) fine).suit in
    ap (λ (p : Span). answer 0 (span_numbers p)) (c.span_at.ensures ∙ ap (λ (ps : List Span). span_at a.i ps) all) ∙ sym (span_told_lem a.msg_type a.body.now a.i fine)
