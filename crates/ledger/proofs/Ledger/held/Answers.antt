-- The map's count, of a sound state. Assumes nothing.
use mathlib.Core.Path.{sym, ap, ◌∙◌}
use mathlib.Core.List.{[], ◌∷◌}
use Prim.Native.Nat.{ℕ}
use borrow.Author.Rules.{rules}
use Rattle.terms.specs.Paper.{answer}
use Rattle.tick_map.specs.Bits.{Words}
use Rattle.ledger.proofs.Seam.{held_call}
use Rattle.ledger.proofs.Ledger.held.Goals as goal
use Rattle.ledger.proofs.Ledger.held.Goals.{Start}

words : (c : goal.Start) → Words c.args.self.map.words
words c = record { four = search rules; low = λ i. search rules }

pub returns : goal.returns
returns c =
    let p = held_call c.args.self (words (goal.at.returns c).Start) (sym c.if-not-sound.ensures) in
    (ap (λ (k : ℕ). answer 0 (k ∷ [])) c.held.ensures ∙ p.0, p.1)
