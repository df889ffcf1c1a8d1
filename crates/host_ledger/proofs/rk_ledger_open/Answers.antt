-- `rk_ledger_open`: the number of opening; the fresh ledger is kept beside 0. Assumes nothing.
use mathlib.Core.Path.{ap, ◌∙◌}
use Rattle.terms.specs.Paper.{one_number}
use Rattle.terms.specs.declared.ChannelNumber.{ChannelNumber}
use Rattle.ledger_spec.specs.Calls.{open_number}
use Rattle.host_ledger.proofs.Calls.{opened_words, plain_number}
use Rattle.host_ledger.proofs.rk_ledger_open.Goals as goal

pub returns : goal.returns
returns c =
    let k = c.new.ensures in
    let n = c.number_of-answer.ensures ∙ plain_number _ ∙ one_number c.opened-opened.ensures.0 ∙ ap (λ (x : ChannelNumber). open_number x.0) k in
    (n, opened_words _ k n c.opened-opened.ensures.1 c.keep.ensures)
