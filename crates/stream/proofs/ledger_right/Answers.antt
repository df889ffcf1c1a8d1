-- `ledger_right`: the channel, and then whether the ledger counts. Assumes nothing.
use mathlib.Core.Path.{sym, ◌∙◌}
use borrow.Author.Tests.{ne_eqb}
use Rattle.stream_spec.specs.StateLaws.{held_ok, ledger_other, ledger_own}
use Rattle.stream.proofs.ledger_right.Goals as goal

pub returns-then-value-eq100 : goal.returns-then-value-eq100
returns-then-value-eq100 c = c.is_ok.ensures.value ∙ ledger_own _ _ (sym c.value.ensures ∙ c.if-value-eq100.true) (sym (held_ok _ _ c.held.ensures.0))

pub returns-else-value-eq100 : goal.returns-else-value-eq100
returns-else-value-eq100 c = ne_eqb _ 100 c.if-value-eq100.false ∙ ledger_other _ (λ e. c.if-value-eq100.false (c.value.ensures ∙ e))
