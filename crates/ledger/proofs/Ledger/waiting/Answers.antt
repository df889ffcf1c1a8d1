-- Only the pending request differs from the ledger of the book. Assumes nothing.
use borrow.Author.Rules.{rules}
use Rattle.tick_map.specs.Bits.{Words}
use Rattle.ledger.proofs.Seam.{waiting_of}
use Rattle.ledger.proofs.Ledger.waiting.Goals as goal
use Rattle.ledger.proofs.Ledger.waiting.Goals.{Start}

words : (c : goal.Start) → Words c.args.self.map.words
words c = record { four = search rules; low = λ i. search rules }

pub returns : goal.returns
returns c = waiting_of c.args.self (words (goal.at.returns c).Start) c.args.pending
