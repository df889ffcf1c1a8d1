-- The verdict has the call's number. Assumes nothing.
use mathlib.Core.Path.{ap, ap₂, ◌∙◌}
use mathlib.Core.List.{[], ◌∷◌}
use Prim.Native.Nat.{ℕ}
use native.Mathlib.Omega.{arith}
use borrow.Author.Rules.{rules}
use Rattle.terms.specs.Paper.{answer}
use Rattle.tick_map.specs.Bits.{Words}
use Rattle.ledger_spec.specs.Calls.{between_count}
use Rattle.ledger.specs.State.{book_of}
use Rattle.ledger.proofs.Seam.{between_bounds, between_done_call, between_refused_call}
use Rattle.ledger.proofs.Ledger.missing_between.Goals as goal
use Rattle.ledger.proofs.Ledger.missing_between.Goals.{Start}

words : (c : goal.Start) → Words c.args.self.map.words
words c = record { four = search rules; low = λ i. search rules }

pub invariant_of-between : goal.invariant_of-between
invariant_of-between c = record { rules = (between_bounds c.args.self _ _ _ c.in-Ok.ensures).0 }

pub between-requires : goal.between-requires
between-requires c =
    let b = between_bounds c.args.self _ _ _ c.in-Ok.ensures in
    omega (arith, b.1, c.value.ensures)

pub returns-in-Ok : goal.returns-in-Ok
returns-in-Ok c =
    let p = between_done_call c.args.self _ _ _ (words (goal.at.returns-in-Ok c).Start) c.in-Ok.ensures in
    (ap (λ (x : ℕ). answer 0 (x ∷ [])) (c.between.ensures ∙ ap₂ (between_count (book_of c.args.self)) c.value.ensures c.value-in-Ok.ensures) ∙ p.0, p.1)

pub returns-in-Err : goal.returns-in-Err
returns-in-Err c = rw c.refused.ensures (between_refused_call c.args.self _ _ _ _ c.in-Err.ensures)
