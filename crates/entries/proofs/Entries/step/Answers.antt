-- `step`: a refusal is 20, beside which the reader stays. Assumes nothing.
use Rattle.std.proofs.Common.{refl, sym, ◌∙◌}
use Rattle.std.proofs.lemmas.Result.{err_from_is_err_and}
use Rattle.terms.specs.Paper.{one_number}
use Rattle.terms.specs.Refusals.{refusal_pos}
use Rattle.entries.specs.Outcomes.{stays}
use Rattle.entries.proofs.Entries.step.Goals as goal

pub returns-in_err-found : goal.returns-in_err-found
returns-in_err-found c =
    let p = err_from_is_err_and c.from_residual.result c.from_residual.ensures.1 in
    let e = c.in_err-found.ensures.answered in
    rw (p.1, p.2) (record { answered = e; body = refl; place = sym (stays _ _ (λ z. refusal_pos _ (one_number e ∙ z))) })
