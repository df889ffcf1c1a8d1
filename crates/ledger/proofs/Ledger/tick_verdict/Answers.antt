-- The outer checks pass; each return has then the tick's own number. Assumes nothing.
use mathlib.Core.Path.{sym, ◌∙◌}
use native.Mathlib.Omega.{arith}
use borrow.Author.Rules.{rules}
use Rattle.tick_map.specs.Bits.{Words}
use Rattle.ledger.proofs.Seam.{own_call, own_range, own_below, own_far, own_held, own_none}
use Rattle.ledger.proofs.Ledger.tick_verdict.Goals as goal
use Rattle.ledger.proofs.Ledger.tick_verdict.Goals.{Start}

words : (c : goal.Start) → Words c.args.self.map.words
words c = record { four = search rules; low = λ i. search rules }

pub returns-then-not-tick_number : goal.returns-then-not-tick_number
returns-then-not-tick_number c =
    let l = c.args.self in
    own_call l _ _ _ 10 c.value-n.ensures c.in_ok-checked.ensures (own_range l (words (goal.at.returns-then-not-tick_number c).Start) c.value-n.result (sym c.tick_number.ensures ∙ c.if-not-tick_number.true))

pub returns-then-n-floor : goal.returns-then-n-floor
returns-then-n-floor c =
    let l = c.args.self in
    own_call l _ _ _ 11 c.value-n.ensures c.in_ok-checked.ensures (own_below l (words (goal.at.returns-then-n-floor c).Start) c.value-n.result (sym c.tick_number.ensures ∙ c.if-not-tick_number.false) (omega arith))

pub returns-then-n-floor-gt256 : goal.returns-then-n-floor-gt256
returns-then-n-floor-gt256 c =
    let l = c.args.self in
    own_call l _ _ _ 12 c.value-n.ensures c.in_ok-checked.ensures (own_far l (words (goal.at.returns-then-n-floor-gt256 c).Start) c.value-n.result (sym c.tick_number.ensures ∙ c.if-not-tick_number.false) (omega arith))

pub returns-then-holds : goal.returns-then-holds
returns-then-holds c =
    let l = c.args.self in
    own_call l _ _ _ 11 c.value-n.ensures c.in_ok-checked.ensures
    (own_held l (words (goal.at.returns-then-holds c).Start) c.value-n.result (sym c.tick_number.ensures ∙ c.if-not-tick_number.false) (omega arith) (omega arith) (sym c.holds.ensures ∙ c.if-holds.true))

pub returns : goal.returns
returns c =
    let l = c.args.self in
    own_call l _ _ _ 0 c.value-n.ensures c.in_ok-checked.ensures
    (own_none l (words (goal.at.returns c).Start) c.value-n.result (sym c.tick_number.ensures ∙ c.if-not-tick_number.false) (omega arith) (omega arith) (sym c.holds.ensures ∙ c.if-holds.false))
