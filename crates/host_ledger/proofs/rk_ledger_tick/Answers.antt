-- The call's paper is told, and the words are those after it. Assumes nothing.
use mathlib.Core.Path.{refl, sym, ap, ap₂, ◌∙◌}
use Rattle.terms.specs.declared.ChannelNumber.{ChannelNumber}
use Rattle.terms.specs.declared.TickNumber.{TickNumber}
use Rattle.ledger_spec.specs.Calls.{Tick}
use Rattle.ledger.specs.Papers.{tick_paper}
use Rattle.host_ledger.proofs.Calls.{refuses, tells}
use Rattle.host_ledger.proofs.rk_ledger_tick.Goals as goal

pub returns-in-Ok : goal.returns-in-Ok
returns-in-Ok c =
    let e = ap₂ (λ (k : ChannelNumber) (n : TickNumber). Tick k.0 n.0) c.new.ensures c.new-2.ensures in
    let a = c.tick-ticked.ensures in
    rw c.value.ensures (tells _ c.ledger_in.ensures e a.1 _ _ (sym (ap tick_paper c.in-Ok.is) ∙ a.0) refl c.keep.ensures)

pub returns-in-Err : goal.returns-in-Err
returns-in-Err c =
    let e = ap₂ (λ (k : ChannelNumber) (n : TickNumber). Tick k.0 n.0) c.new.ensures c.new-2.ensures in
    let a = c.tick-ticked.ensures in
    refuses _ c.ledger_in.ensures e a.1 c.in-Err.why _ (sym (ap tick_paper c.in-Err.is) ∙ a.0) c.from-answer.ensures c.from-answer.ensures c.keep-in-Err.ensures
