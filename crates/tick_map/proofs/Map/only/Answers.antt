-- Word by word, the digits of the stretch alone. Assumes nothing.
use Prim.Native.Nat.{◌+◌, ◌-◌, ◌*◌, ◌%◌}
use lib.Dec.{ltb}
use Rattle.terms.specs.Paper.{pick}
use Rattle.tick_map.specs.Bits.{Words}
use Rattle.tick_map.proofs.Places.{and_words, and_each, only_words}
use Rattle.tick_map.proofs.Words.{map_at}
use borrow.Author.Rules.{rules}
use Rattle.tick_map.proofs.Map.only.Goals as goal
use Rattle.tick_map.proofs.Map.only.Goals.{Start}

words : (c : goal.Start) → Words c.args.self.words
words c = record { four = search rules; low = λ i. search rules }

pub returns : goal.returns
returns c =
    let t = c in
    let s = c in
    let w = s.args.self.words in
    let n = t.min-n.result in
    let new = and_words w (words (goal.at.returns c).Start) c.span.result c.span-2.result c.span-3.result c.span-4.result in
    map_at _ _ new
    (only_words w _ (words (goal.at.returns c).Start) new s.args.s s.args.k n t.min-n.ensures
    (and_each w _ _ _ _ (λ j q. pick (ltb ((64 * j + q + (256 - s.args.s % 256)) % 256) n) 1 0)
    c.span.ensures c.span-2.ensures c.span-3.ensures c.span-4.ensures))
