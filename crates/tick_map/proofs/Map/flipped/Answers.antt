-- The complement of each word makes the complement of the number. Assumes nothing.
use borrow.Author.Rules.{rules}
use Rattle.tick_map.specs.Bits.{Words}
use Rattle.tick_map.proofs.Words.{list_not}
use Rattle.tick_map.proofs.Map.flipped.Goals as goal
use Rattle.tick_map.proofs.Map.flipped.Goals.{Start}

words : (c : goal.Start) → Words c.args.self.words
words c = record { four = search rules; low = λ i. search rules }

pub returns : goal.returns
returns c = list_not _ (words (goal.at.returns c).Start)
