-- Refused, nothing is written; else the started page's words. Assumes nothing.
use Rattle.std.proofs.Common.{sym, ap, ◌∙◌}
use Rattle.terms.specs.Refusals.{refusal_pos}
use Rattle.terms.specs.Verdicts.{verdict_number}
use Rattle.host_month.proofs.Kept.{start_kept, start_done}
use Rattle.host_month.proofs.rk_month_start.Goals as goal

pub returns-in-Ok : goal.returns-in-Ok
returns-in-Ok c =
    let e = ap verdict_number (sym c.in-Ok.is) ∙ c.started-started.ensures.0 in
    (e, start_done _ _ _ _ (sym e) c.started-started.ensures.1 c.words_of.ensures)

pub returns-in-Err : goal.returns-in-Err
returns-in-Err c =
    let e = ap verdict_number (sym c.in-Err.is) ∙ c.started-started.ensures.0 in
    (c.from.ensures ∙ e, sym (start_kept _ _ (λ z. refusal_pos c.in-Err.why (e ∙ z))))
