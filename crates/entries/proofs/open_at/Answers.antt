-- `open_at`: each return by its outcome. Assumes nothing.
use Rattle.std.proofs.Common.{◌≤◌, length, sym, ◌∙◌}
use Rattle.std.proofs.lemmas.Result.{err_from_is_err_and}
use Rattle.terms.specs.Refusals.{refusal_pos}
use Rattle.entries.specs.Outcomes.{open_measured, suited_length, open_field, open_fine}
use Rattle.entries.proofs.open_at.Goals as goal
use Rattle.entries.proofs.open_at.Goals.{In_ok-measure}

-- in the arm of a length that suits
suits : (c : goal.In_ok-measure) → (length c.args.body.now ≤ 8164) × (73 ≤ length c.args.body.now)
suits c = suited_length _ (sym c.in_ok-measure.ensures)

pub returns-in_err-measure : goal.returns-in_err-measure
returns-in_err-measure c =
    let p = err_from_is_err_and c.from_residual.result c.from_residual.ensures.1 in
    rw (p.1, p.2) (open_measured _ _ c.in_err-measure.ensures (refusal_pos _))

pub returns-then-fields_ok : goal.returns-then-fields_ok
returns-then-fields_ok c = let s = suits (goal.at.returns-then-fields_ok c).In_ok-measure in sym (open_fine _ s.0 s.1 (sym c.fields_ok.ensures ∙ c.if-fields_ok.true))

pub returns-else-fields_ok : goal.returns-else-fields_ok
returns-else-fields_ok c = let s = suits (goal.at.returns-else-fields_ok c).In_ok-measure in sym (open_field _ s.0 s.1 (sym c.fields_ok.ensures ∙ c.if-fields_ok.false))
