-- The count is the least of the three; first and last stand on the floor. Assumes nothing.
use mathlib.Core.Path.{◌≡◌, ap, ◌∙◌, ap₂}
use mathlib.Core.List.{[], ◌∷◌}
use Prim.Native.Nat.{ℕ, ◌+◌, ◌-◌, min}
use lib.Count.{count_trailing_zeros}
use Rattle.terms.specs.declared.TickNumber.{TickNumber}
use Rattle.terms.specs.Counters.{tick_of}
use Rattle.terms.specs.Paper.{answer}
use Rattle.tick_map.specs.Bits.{bits_in}
use Rattle.tick_map.specs.Ring.{rotated}
use Rattle.ledger_spec.specs.State.{range}
use Rattle.ledger.specs.State.{book_of, ledger_of}
use Rattle.ledger_spec.specs.Calls.{waiting, asked}
use Rattle.ledger.proofs.Sound.granted.Goals as goal

pub returns : goal.returns
unfolding asked book_of
returns c =
    let l = c.args.self.ledger in
    let clear-is = c.first_from-clear.ensures ∙ ap (λ (x : ℕ). count_trailing_zeros 256 (rotated (x + 1) (bits_in l.map))) c.value-floor.ensures in
    let Known-is = ap₂ (λ (x y : ℕ). x - y) c.value.ensures c.value-floor.ensures in
    let count_is = c.min-count.ensures ∙ ap (λ (x : ℕ). min x 200) (c.min.ensures ∙ ap₂ min Known-is clear-is) in
    let first : c.new.result ≡ tick_of (l.floor.0 + 1) = c.new.ensures ∙ ap (λ (x : ℕ). tick_of (x + 1)) c.value-floor.ensures in
    let last : c.new-2.result ≡ tick_of (l.floor.0 + asked (book_of l)) = c.new-2.ensures ∙ ap₂ (λ (x y : ℕ). tick_of (x + y)) c.value-floor.ensures count_is in (
      ap₂ (λ (x y : TickNumber). answer 0 (x.0 ∷ y.0 ∷ [])) first last,
      c.waiting.ensures ∙ ap₂ (λ (x y : TickNumber). ledger_of (waiting (book_of l) (range x.0 y.0))) first last,
    )
