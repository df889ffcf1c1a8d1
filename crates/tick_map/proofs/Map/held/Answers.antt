-- The count of four words is the sum of their counts. Assumes nothing.
use native.Mathlib.Omega.{arith}
use borrow.Author.Rules.{rules}
use lib.ListN.{get_or}
use Rattle.tick_map.specs.Bits.{Words}
use Rattle.tick_map.proofs.Words.{value_ones}
use Rattle.tick_map.proofs.Map.held.Goals as goal
use Rattle.tick_map.proofs.Map.held.Goals.{Start}

words : (c : goal.Start) → Words c.args.self.words
words c = record { four = search rules; low = λ i. search rules }

pub returns : goal.returns
returns c =
    let s = c in
    let w = words (goal.at.returns c).Start in
    omega (arith, value_ones (get_or s.args.self.words 0 0) (get_or s.args.self.words 1 0) (get_or s.args.self.words 2 0) (get_or s.args.self.words 3 0) (w.low 0).fits (w.low 1).fits (w.low 2).fits)
