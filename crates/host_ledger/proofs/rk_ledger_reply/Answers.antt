-- The call's paper is told, its sets as words, and the words are those after it. Assumes nothing.
use mathlib.Core.Path.{sym, ap, ap₂, ◌∙◌}
use Rattle.terms.specs.Verdicts.{verdict_number}
use Rattle.terms.specs.declared.ChannelNumber.{ChannelNumber}
use Rattle.terms.specs.declared.TickNumber.{TickNumber}
use Rattle.ledger_spec.specs.Calls.{Reply}
use Rattle.ledger.specs.Papers.{reply_paper, laid_reply}
use Rattle.host_ledger.proofs.Calls.{reply_refuses, reply_tells}
use Rattle.host_ledger.proofs.rk_ledger_reply.Goals as goal

pub returns-in-Ok : goal.returns-in-Ok
returns-in-Ok c =
    let e = ap₂ (λ (x : ChannelNumber) (n : TickNumber). Reply x.0 n.0 c.args.status) c.new.ensures c.new-2.ensures in
    let a = c.reply-replied.ensures in
    reply_tells _ c.ledger_in.ensures e a.1 c.in-Ok.settled _ (sym (ap reply_paper c.in-Ok.is) ∙ a.0) (sym c.in-Ok.is ∙ a.2 ∙ ap laid_reply c.in-Ok.is) c.settled_row.ensures
    (c.number_of.ensures ∙ ap verdict_number c.in-Ok.is) c.keep.ensures

pub returns-in-Err : goal.returns-in-Err
returns-in-Err c =
    let e = ap₂ (λ (x : ChannelNumber) (n : TickNumber). Reply x.0 n.0 c.args.status) c.new.ensures c.new-2.ensures in
    let a = c.reply-replied.ensures in
    reply_refuses _ c.ledger_in.ensures e a.1 c.in-Err.why _ (sym (ap reply_paper c.in-Err.is) ∙ a.0) c.from.ensures (c.number_of.ensures ∙ ap verdict_number c.in-Err.is) c.keep.ensures
