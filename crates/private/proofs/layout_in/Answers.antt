-- `layout_in`: the layout named, where the length suits it. Assumes nothing.
use Prim.Native.Nat.{ℕ}
use mathlib.Core.Path.{◌≡◌, sym, ap, ap₂, ◌∙◌}
use mathlib.Core.List.{List}
use lib.ListN.{length}
use Rattle.rules.specs.declared.Layout.{Layout}
use Rattle.rules.specs.Fields.{layout_of, suits_tail, named_in, tail_ok}
use Rattle.private.specs.PrivateLaws.{tail_named, tail_not}
use Rattle.private.proofs.layout_in.Goals as goal
use Rattle.private.proofs.layout_in.Goals.{After-layout_of-named, After-suits_tail}

abbrev text : goal.After-layout_of-named → List ℕ
text c = c.args.body.now

named : (c : goal.After-layout_of-named) → c.layout_of-named.result ≡ named_in (text c)
named c = c.layout_of-named.ensures ∙ ap₂ layout_of c.letters_at.ensures c.at.ensures

suits : (c : goal.After-suits_tail) → c.suits_tail.result ≡ tail_ok (text (goal.at.After-suits_tail c).After-layout_of-named)
unfolding tail_ok
suits c = c.suits_tail.ensures ∙ ap (λ (l : Layout). suits_tail l (length (text (goal.at.After-suits_tail c).After-layout_of-named))) (named (goal.at.After-suits_tail c).After-layout_of-named)

pub returns-then-suits_tail : goal.returns-then-suits_tail
returns-then-suits_tail c = named (goal.at.returns-then-suits_tail c).After-layout_of-named ∙ sym (tail_named _ (sym (suits (goal.at.returns-then-suits_tail c).After-suits_tail) ∙ c.if-suits_tail.true))

pub returns : goal.returns
returns c = sym (tail_not _ (sym (suits (goal.at.returns c).After-suits_tail) ∙ c.if-suits_tail.false))
