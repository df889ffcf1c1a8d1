-- A channel of four digits opens a fresh ledger. Assumes nothing.
use Rattle.std.proofs.Common.{ap, ◌∙◌, rules}
use Rattle.terms.specs.declared.ChannelNumber.{ChannelNumber}
use Rattle.ledger.specs.State.{ledger_of}
use Rattle.ledger_spec.specs.Calls.{open_of}
use Rattle.month.proofs.RowLaws.{row_fresh}
use Rattle.month.proofs.Row.fresh.Goals as goal

pub returns : goal.returns
returns c = row_fresh _ _ (search rules) (c.opened.ensures.1 ∙ ap (λ (k : ChannelNumber). ledger_of (open_of k.0)) c.new.ensures)
