-- Word by word, the digits that differ from those of the stretch alone. Assumes nothing.
use mathlib.Core.Path.{sym, ap, ◌∙◌, subst}
use Rattle.tick_map.specs.Bits.{Words, bits_in}
use Rattle.tick_map.specs.declared.Map.{Map}
use Rattle.tick_map.proofs.Places.{xor_words, xor_each, cleared_words}
use Rattle.tick_map.proofs.Stretch.{only_lt}
use Rattle.tick_map.proofs.Words.{list_lt, value_of_lem, map_at, map_words}
use borrow.Author.Rules.{rules}
use Rattle.tick_map.proofs.Map.cleared.Goals as goal
use Rattle.tick_map.proofs.Map.cleared.Goals.{After-only, Start}

words : (c : goal.Start) → Words c.args.self.words
words c = record { four = search rules; low = λ i. search rules }

pub returns : goal.returns
returns c =
    let t = c in
    let s = (goal.at.returns c).After-only in
    let w = s.args.self.words in
    let e = t.only.ensures in
    let o : Words t.only.result.words = subst (λ (m : Map). Words m.words) (sym e) (map_words _) in
    let new = xor_words w (words (goal.at.returns c).Start) t.only.result.words o in
    map_at _ _ new
    (cleared_words w t.only.result.words _ (words (goal.at.returns c).Start) o new s.args.s s.args.k
    (ap bits_in e ∙ value_of_lem _ (only_lt s.args.s s.args.k (bits_in s.args.self) (list_lt w (words (goal.at.returns c).Start))))
    (xor_each w t.only.result.words))
