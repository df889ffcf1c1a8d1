-- The verdict has the call's number. Assumes nothing.
use mathlib.Core.Path.{◌∙◌}
use borrow.Author.Rules.{rules}
use Rattle.tick_map.specs.Bits.{Words}
use Rattle.ledger.proofs.Seam.{announce_done_call, announce_refused_call}
use Rattle.ledger.proofs.Ledger.announce.Goals as goal
use Rattle.ledger.proofs.Ledger.announce.Goals.{Start}

words : (c : goal.Start) → Words c.args.self.map.words
words c = record { four = search rules; low = λ i. search rules }

pub returns-in-Ok : goal.returns-in-Ok
returns-in-Ok c =
    let p = announce_done_call c.args.self _ _ (words (goal.at.returns-in-Ok c).Start) c.in-Ok.ensures in
    (p.0, c.raised.ensures ∙ p.1)

pub returns-in-Err : goal.returns-in-Err
returns-in-Err c = rw c.refused.ensures (announce_refused_call c.args.self _ _ _ c.in-Err.ensures)
