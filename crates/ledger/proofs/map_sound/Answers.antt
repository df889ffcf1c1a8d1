-- With 256 numbers known the first place alone decides. Else an empty map is sound; where nothing
-- is known nothing else is; and else only the known places after the first may be held. Assumes
-- nothing.
use mathlib.Core.Path.{sym, ap, ◌∙◌}
use mathlib.Core.Bool.{not}
use Prim.Native.Nat.{◌<◌}
use native.Mathlib.Omega.{arith}
use borrow.Author.Tests.{eq-eqb, eqb-true, eqb-false}
use Rattle.tick_map.specs.Bits.{Words}
use Rattle.tick_map.proofs.Words.{list_lt}
use Rattle.ledger.proofs.Seam.{rules_empty, rules_none, rules_all, rules_few}
use borrow.Author.Rules.{rules}
use Rattle.ledger.proofs.map_sound.Goals as goal
use Rattle.ledger.proofs.map_sound.Goals.{Start}

words : (c : goal.Start) → Words c.args.map.words
words c = record { four = search rules; low = λ i. search rules }

pub returns-then-known-ge256 : goal.returns-then-known-ge256
returns-then-known-ge256 c =
    let s = c in
    ap not c.holds.ensures ∙ rules_all s.args.from s.args.known _ (list_lt _ (words (goal.at.returns-then-known-ge256 c).Start)) c.if-known-ge256.true

pub returns-then-empty : goal.returns-then-empty
returns-then-empty c =
    let s = c in
    c.if-empty.true ∙ rules_empty s.args.from s.args.known _ (list_lt _ (words (goal.at.returns-then-empty c).Start)) (eqb-true _ _ (sym c.empty.ensures ∙ c.if-empty.true))

pub returns-then-known-ne0 : goal.returns-then-known-ne0
returns-then-known-ne0 c =
    let s = c in
    let some : 0 < s.args.known = omega arith in
    let few : s.args.known < 256 = omega arith in
    c.none_but.ensures ∙ rules_few s.args.from s.args.known _ (list_lt _ (words (goal.at.returns-then-known-ne0 c).Start)) some few

pub returns-else-known-ne0 : goal.returns-else-known-ne0
returns-else-known-ne0 c =
    let s = c in
    ap not (eq-eqb _ _ c.if-known-ne0.false)
    ∙ rules_none s.args.from s.args.known _ (list_lt _ (words (goal.at.returns-else-known-ne0 c).Start)) (eqb-false _ _ (sym c.empty.ensures ∙ c.if-empty.false)) c.if-known-ne0.false
