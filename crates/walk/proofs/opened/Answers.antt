-- `opened`: channel 100 has a fresh ledger. Assumes nothing.
use Rattle.std.proofs.Common.{ap, ◌∙◌}
use Rattle.terms.specs.declared.ChannelNumber.{ChannelNumber}
use Rattle.ledger.specs.State.{ledger_of}
use Rattle.ledger_spec.specs.Calls.{open_of}
use Rattle.walk.proofs.opened.Goals as goal

pub returns : goal.returns
unfolding open_of
returns c = c.opened.ensures.1 ∙ ap (λ (k : ChannelNumber). ledger_of (open_of k.0)) c.new.ensures
