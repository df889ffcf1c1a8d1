-- The call's paper is told, and the words are those after it. Assumes nothing.
use mathlib.Core.Path.{sym, ap, ◌∙◌}
use Rattle.terms.specs.Verdicts.{verdict_number}
use Rattle.terms.specs.declared.ChannelNumber.{ChannelNumber}
use Rattle.ledger_spec.specs.Calls.{Request}
use Rattle.ledger.specs.Papers.{request_paper}
use Rattle.host_ledger.proofs.Calls.{refuses, tells}
use Rattle.host_ledger.proofs.rk_ledger_request.Goals as goal

pub returns-in-Ok : goal.returns-in-Ok
returns-in-Ok c =
    let e = ap (λ (k : ChannelNumber). Request k.0) c.new.ensures in
    let a = c.request-asked.ensures in
    rw (c.value.ensures, c.value-in-Ok.ensures) (tells _ c.ledger_in.ensures e a.1 _ _ (sym (ap request_paper c.in-Ok.is) ∙ a.0) (c.number_of.ensures ∙ ap verdict_number c.in-Ok.is) c.keep.ensures)

pub returns-in-Err : goal.returns-in-Err
returns-in-Err c =
    let e = ap (λ (k : ChannelNumber). Request k.0) c.new.ensures in
    let a = c.request-asked.ensures in
    refuses _ c.ledger_in.ensures e a.1 c.in-Err.why _ (sym (ap request_paper c.in-Err.is) ∙ a.0) c.from.ensures (c.number_of.ensures ∙ ap verdict_number c.in-Err.is) c.keep.ensures
