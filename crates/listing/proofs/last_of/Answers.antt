-- `last_of`: the ledger's count, floor and top beside the walk's counts. Assumes nothing.
use Rattle.std.proofs.Common.{ap, ◌∙◌}
use Rattle.terms.specs.Paper.{Paper}
use Rattle.ledger.specs.State.{book_of}
use Rattle.ledger_spec.specs.Words.{value_at}
use Rattle.listing.specs.LastLine.{last_by, told_count}
use Rattle.listing.proofs.last_of.Goals as goal

pub returns : goal.returns
unfolding last_by book_of
returns c = cc (c.unwrap_or.ensures ∙ told_count c.missing.result.answer ∙ ap (λ (p : Paper). value_at p 0) c.missing.ensures.0)
