-- `rk_ledger_announce`: the number of the call's paper, and the words after it. Assumes nothing.
use mathlib.Core.Path.{ap₂, ◌∙◌}
use Rattle.terms.specs.declared.ChannelNumber.{ChannelNumber}
use Rattle.terms.specs.declared.TickNumber.{TickNumber}
use Rattle.ledger_spec.specs.Calls.{Announce}
use Rattle.host_ledger.proofs.Calls.{answers, plain_number}
use Rattle.host_ledger.proofs.rk_ledger_announce.Goals as goal

pub returns : goal.returns
returns c =
    let e = ap₂ (λ (k : ChannelNumber) (n : TickNumber). Announce k.0 n.0) c.new.ensures c.new-2.ensures in
    let a = c.announce-noted.ensures in
    answers _ c.ledger_in.ensures e a.1 a.0 (c.number_of-answer.ensures ∙ plain_number _) c.keep.ensures
