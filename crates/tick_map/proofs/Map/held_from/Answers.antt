-- As many as the stretch alone holds, wherever it is read from: here from its place in the first
-- word of the map turned. Assumes nothing.
use mathlib.Core.Path.{ap, ◌∙◌}
use lib.Count.{ones}
use Rattle.tick_map.specs.Bits.{Words, bits_in}
use Rattle.tick_map.specs.declared.Map.{Map}
use Rattle.tick_map.proofs.Turned.{front_ones}
use Rattle.tick_map.proofs.Words.{list_lt}
use borrow.Author.Rules.{rules}
use Rattle.tick_map.proofs.Map.held_from.Goals as goal
use Rattle.tick_map.proofs.Map.held_from.Goals.{Start}

words : (c : goal.Start) → Words c.args.self.words
words c = record { four = search rules; low = λ i. search rules }

pub returns : goal.returns
returns c =
    let s = c in
    c.held.ensures ∙ ap (λ (x : Map). ones (bits_in x)) c.front.ensures
    ∙ front_ones s.args.s s.args.k _ (bits_in s.args.self) _ (list_lt _ (words (goal.at.returns c).Start)) c.min.ensures c.turned.ensures
