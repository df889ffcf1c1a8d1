-- Of a sound state no more are held than lie between floor and top, so neither difference goes
-- below 0. Assumes nothing.
use mathlib.Core.Path.{sym, ap, ap₂, ◌∙◌}
use mathlib.Core.List.{[], ◌∷◌}
use Prim.Native.Nat.{ℕ, ◌-◌}
use native.Mathlib.Omega.{arith}
use borrow.Author.Rules.{rules}
use Rattle.terms.specs.Paper.{answer}
use Rattle.tick_map.specs.Bits.{Words}
use Rattle.ledger.proofs.Seam.{missing_known, missing_held, missing_call}
use Rattle.ledger.proofs.Ledger.missing.Goals as goal
use Rattle.ledger.proofs.Ledger.missing.Goals.{Start}

words : (c : goal.Start) → Words c.args.self.map.words
words c = record { four = search rules; low = λ i. search rules }

pub overflow_sub-known : goal.overflow_sub-known
overflow_sub-known c = omega (arith, missing_known c.args.self (words (goal.at.overflow_sub-known c).Start) (sym c.if-not-sound.ensures), c.value.ensures, c.value-2.ensures)

pub overflow_sub-result : goal.overflow_sub-result
overflow_sub-result c = omega (arith, missing_held c.args.self (words (goal.at.overflow_sub-result c).Start) (sym c.if-not-sound.ensures), c.held.ensures, c.value.ensures, c.value-2.ensures)

pub returns : goal.returns
returns c =
    let p = missing_call c.args.self (words (goal.at.returns c).Start) (sym c.if-not-sound.ensures) in
    (ap (λ (k : ℕ). answer 0 (k ∷ [])) (ap₂ (λ (x y : ℕ). x - y) (ap₂ (λ (x y : ℕ). x - y) c.value.ensures c.value-2.ensures) c.held.ensures) ∙ p.0, p.1)
