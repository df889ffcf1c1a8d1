-- The number's place is the digit of the definition, read round; the floor passes the run, and
-- without its places the map reads as the shifted one. Assumes nothing.
use mathlib.Core.Path.{◌≡◌, ap, ◌∙◌, ap₂}
use mathlib.Core.List.{[], ◌∷◌}
use Prim.Native.Nat.{ℕ, ◌+◌, ◌<◌, max, ◌^◌}
use native.Mathlib.Omega.{arith}
use borrow.Author.Rules.{rules}
use Rattle.terms.specs.declared.TickNumber.{TickNumber}
use Rattle.terms.specs.Counters.{tick_of}
use Rattle.terms.specs.Paper.{answer}
use Rattle.tick_map.specs.Bits.{Words, bits_in, run, map_of}
use Rattle.tick_map.specs.Ring.{rotated, without}
use Rattle.tick_map.proofs.Laws.{run_le}
use Rattle.ledger.specs.State.{book_of}
use Rattle.ledger_spec.specs.Calls.{passes, marked}
use Rattle.ledger.proofs.Seam.{marked_of, taken_of}
use Rattle.ledger.proofs.Sound.passed_run.Goals as goal
use Rattle.ledger.proofs.Sound.passed_run.Goals.{After-with-marked, Start}

words : (c : goal.Start) → Words c.args.self.ledger.map.words
words c = record { four = search rules; low = λ i. search rules }

-- the map with the tick's place, read round, is the one of the definition
marked-is : (c : goal.After-with-marked) → Words c.args.self.ledger.map.words → (bits_in c.with-marked.result < 2 ^ 256) × (rotated (c.args.self.ledger.floor.0 + 1) (bits_in c.with-marked.result) ≡ marked (book_of c.args.self.ledger) c.args.n)
marked-is c w =
    let s = c in
    marked_of s.args.self.ledger w s.args.n c.with-marked.result s.requires.0 s.requires.1 c.with-marked.ensures

pub overflow_add-floor-2 : goal.overflow_add-floor-2
overflow_add-floor-2 c = omega (arith, c.run_from-count.ensures, run_le 256 (rotated (c.value-floor.result + 1) (bits_in c.with-marked.result)))

pub returns : goal.returns
unfolding passes
returns c =
    let w = c in
    let s = w in
    let r = c.run_from-count in
    let v : w.value-floor.result ≡ s.args.self.ledger.floor.0 = w.value-floor.ensures in
    let m = marked-is (goal.at.returns c).After-with-marked (words (goal.at.returns c).Start) in
    let k : r.result ≡ run 256 (rotated (s.args.self.ledger.floor.0 + 1) (bits_in w.with-marked.result)) =
    r.ensures ∙ ap (λ (x : ℕ). run 256 (rotated (x + 1) (bits_in w.with-marked.result))) v in (
      ap₂ (λ (x : TickNumber) (y : ℕ). answer 0 (x.0 ∷ y ∷ [])) (c.new-3.ensures ∙ ap (λ (x : ℕ). tick_of (x + 1)) v) (k ∙ ap (run 256) m.1),
      taken_of s.args.self.ledger (words (goal.at.returns c).Start) s.args.n _ _ _ w.with-marked.result _ m.0 m.1 k
          (c.new.ensures ∙ ap (λ (x : ℕ). tick_of (x + r.result)) v)
          (c.new-2.ensures ∙ ap tick_of (c.max.ensures ∙ ap (λ (x : ℕ). max x s.args.n) c.value.ensures))
          (c.cleared.ensures ∙ ap (λ (x : ℕ). map_of (without (x + 1) r.result (bits_in w.with-marked.result))) v),
    )
