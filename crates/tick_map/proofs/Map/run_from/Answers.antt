-- The places before the first one not held are the clear ones before the complement's first one.
-- Assumes nothing.
use mathlib.Core.Path.{◌∙◌, ap}
use Prim.Native.Nat.{ℕ}
use borrow.Author.Rules.{rules}
use lib.Count.{count_trailing_zeros}
use Rattle.tick_map.specs.Bits.{Words}
use Rattle.tick_map.specs.Ring.{rotated}
use Rattle.tick_map.proofs.Rotated.{rotated_run}
use Rattle.tick_map.proofs.Words.{list_lt}
use Rattle.tick_map.proofs.Map.run_from.Goals as goal
use Rattle.tick_map.proofs.Map.run_from.Goals.{Start}

words : (c : goal.Start) → Words c.args.self.words
words c = record { four = search rules; low = λ i. search rules }

pub returns : goal.returns
returns c =
    let s = c in
    c.first_from.ensures ∙ ap (λ (x : ℕ). count_trailing_zeros 256 (rotated s.args.s x)) c.flipped.ensures
    ∙ rotated_run s.args.s _ (list_lt _ (words (goal.at.returns c).Start))
