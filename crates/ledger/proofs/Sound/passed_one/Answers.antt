-- The next number is not held, so one alone is passed, and its place is clear again. Assumes
-- nothing.
use mathlib.Core.Path.{ap, ap₂, ◌∙◌}
use mathlib.Core.List.{[], ◌∷◌}
use Prim.Native.Nat.{ℕ, max}
use Rattle.terms.specs.declared.TickNumber.{TickNumber}
use Rattle.terms.specs.Counters.{tick_of}
use Rattle.terms.specs.Paper.{answer}
use Rattle.tick_map.specs.Bits.{Words}
use Rattle.ledger_spec.proofs.Rules.{rules_facts}
use Rattle.ledger.specs.State.{book_of}
use Rattle.ledger.proofs.Seam.{passed_one_of}
use borrow.Author.Rules.{rules}
use Rattle.ledger.proofs.Sound.passed_one.Goals as goal
use Rattle.ledger.proofs.Sound.passed_one.Goals.{Start}

words : (c : goal.Start) → Words c.args.self.ledger.map.words
words c = record { four = search rules; low = λ i. search rules }

pub returns : goal.returns
returns c =
    let v = c in
    let s = v in
    let l = s.args.self.ledger in
    let n = s.args.n in
    let f = c.new-first.ensures in
    let p = passed_one_of l (words (goal.at.returns c).Start) (rules_facts (book_of l) s.args.self.rules) n _ _ s.requires.0 s.requires.2 f
    (c.new.ensures ∙ ap tick_of (c.max.ensures ∙ ap (λ (x : ℕ). max x n) c.value.ensures)) in
    (ap₂ (λ (x : TickNumber) (y : ℕ). answer 0 (x.0 ∷ y ∷ [])) (f ∙ ap tick_of s.requires.0) p.0, p.1)
