-- `opened`: the ledger is opened for channel 100. Assumes nothing.
use mathlib.Core.Path.{refl, ap, ◌∙◌}
use Rattle.terms.specs.declared.ChannelNumber.{ChannelNumber}
use Rattle.ledger.specs.State.{ledger_of}
use Rattle.ledger_spec.specs.Calls.{open_of}
use Rattle.stream_spec.specs.StateLaws.{opened_is}
use Rattle.stream_spec.proofs.Stream.opened.Goals as goal

pub returns : goal.returns
unfolding open_of
returns c = opened_is _ _ (c.opened.ensures.1 ∙ ap (λ (k : ChannelNumber). ledger_of (open_of k.0)) c.new.ensures) refl
