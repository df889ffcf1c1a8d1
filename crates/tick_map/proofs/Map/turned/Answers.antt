-- Each word is chosen by two tests of j. Assumes nothing.
use mathlib.Core.Path.{◌≡◌, ap, ap₂, ◌∙◌}
use mathlib.Core.List.{List, [], ◌∷◌}
use Prim.Native.Nat.{ℕ}
use lib.Dec.{ltb}
use Rattle.terms.specs.Paper.{pick}
use Rattle.tick_map.specs.Bits.{Words, value_of_list}
use Rattle.tick_map.proofs.Turned.{round_chosen, round_value}
use borrow.Author.Rules.{rules}
use Rattle.tick_map.proofs.Map.turned.Goals as goal
use Rattle.tick_map.proofs.Map.turned.Goals.{After-either-a, After-either-b, After-either-c, After-either-d, Start}

words : (c : goal.Start) → Words c.args.self.words
words c = record { four = search rules; low = λ i. search rules }

pub returns : goal.returns
returns c =
    let e4 = c in
    let e3 = (goal.at.returns c).After-either-d in
    let e2 = (goal.at.returns c).After-either-c in
    let e1 = (goal.at.returns c).After-either-b in
    let s = (goal.at.returns c).After-either-a in
    let w = s.args.self.words in
    let either_of : ℕ → ℕ → ℕ = λ x y. pick (ltb s.args.j 2) x y in
    let is : ◌≡◌ {A = List ℕ} _ _ =
    ap₂ ◌∷◌ (c.either.ensures ∙ ap₂ either_of e1.either-a.ensures e3.either-c.ensures)
    (ap₂ ◌∷◌ (c.either-2.ensures ∙ ap₂ either_of e2.either-b.ensures e4.either-d.ensures)
    (ap₂ ◌∷◌ (c.either-3.ensures ∙ ap₂ either_of e3.either-c.ensures e1.either-a.ensures)
    (ap (λ (x : ℕ). x ∷ []) (c.either-4.ensures ∙ ap₂ either_of e4.either-d.ensures e2.either-b.ensures)))) in
    ap value_of_list (is ∙ round_chosen w s.args.j s.requires) ∙ round_value w (words (goal.at.returns c).Start) s.args.j
