-- floor + 1 is not held, so no number is passed. Assumes nothing.
use mathlib.Core.Path.{ap, ap₂, ◌∙◌}
use mathlib.Core.List.{[], ◌∷◌}
use Prim.Native.Nat.{ℕ, ◌+◌, max}
use Rattle.terms.specs.declared.TickNumber.{TickNumber}
use Rattle.terms.specs.Counters.{tick_of}
use Rattle.terms.specs.Paper.{answer}
use Rattle.tick_map.specs.Bits.{Words}
use Rattle.ledger_spec.proofs.Rules.{rules_facts}
use Rattle.ledger.specs.State.{book_of}
use Rattle.ledger.proofs.Seam.{held_back_of}
use borrow.Author.Rules.{rules}
use Rattle.ledger.proofs.Sound.held_back.Goals as goal
use Rattle.ledger.proofs.Sound.held_back.Goals.{Start}

words : (c : goal.Start) → Words c.args.self.ledger.map.words
words c = record { four = search rules; low = λ i. search rules }

pub returns : goal.returns
returns c =
    let v = c in
    let s = v in
    let l = s.args.self.ledger in
    let n = s.args.n in
    let p = held_back_of l (words (goal.at.returns c).Start) (rules_facts (book_of l) s.args.self.rules) n _ _ s.requires.0 s.requires.1 c.with.ensures
    (c.new.ensures ∙ ap tick_of (c.max.ensures ∙ ap (λ (x : ℕ). max x n) c.value-2.ensures)) in
    (ap₂ (λ (x : TickNumber) (y : ℕ). answer 0 (x.0 ∷ y ∷ [])) (c.new-first.ensures ∙ ap (λ (x : ℕ). tick_of (x + 1)) c.value.ensures) p.0, p.1)
