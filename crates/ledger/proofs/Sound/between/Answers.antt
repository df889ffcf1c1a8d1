-- The numbers of the span above the floor and not above the top, less the held ones of the stretch
-- that the map has places for. Assumes nothing.
use mathlib.Core.Path.{◌≡◌, ap, ◌∙◌}
use Prim.Native.Nat.{ℕ, ◌+◌, ◌-◌, ◌%◌, ◌^◌, ◌≤◌, ◌<◌, min, max}
use native.Mathlib.Nat.{mod-lt}
use native.Mathlib.Omega.{arith}
use lib.Count.{ones, ones-le}
use lib.Pow.{pow_pos}
use Rattle.tick_map.specs.Bits.{Words, bits_in}
use Rattle.tick_map.specs.Ring.{rotated}
use Rattle.ledger.specs.declared.Ledger.{Ledger}
use Rattle.ledger.proofs.Seam.{between_none, between_far, between_near}
use borrow.Author.Rules.{rules}
use Rattle.ledger.proofs.Sound.between.Goals as goal
use Rattle.ledger.proofs.Sound.between.Goals.{Start}

words : (c : goal.Start) → Words c.args.self.ledger.map.words
words c = record { four = search rules; low = λ i. search rules }

-- both ends of the span, by what was read
low_is : (l : Ledger) (from low m : ℕ) → low ≡ max from (m + 1) → m ≡ l.floor.0 → low ≡ max from (l.floor.0 + 1)
low_is l from low m e f = e ∙ ap (λ (x : ℕ). max from (x + 1)) f

high_is : (l : Ledger) (to high m : ℕ) → high ≡ min to m → m ≡ l.top.0 → high ≡ min to l.top.0
high_is l to high m e f = e ∙ ap (min to) f

-- no more are held than there are places
within : (n x k : ℕ) → n ≡ ones (x % 2 ^ k) → n ≤ k
within n x k e = omega (arith, e, ones-le k (x % 2 ^ k) (mod-lt x (pow_pos k)))

pub returns-then-high-low : goal.returns-then-high-low
returns-then-high-low c = between_none c.args.self.ledger (words (goal.at.returns-then-high-low c).Start) c.args.from c.args.to _ _ (low_is c.args.self.ledger _ _ _ c.max-low.ensures c.value-floor.ensures) (high_is c.args.self.ledger _ _ _ c.min-high.ensures c.value.ensures) c.if-high-low.true

pub returns-then-off-ge256 : goal.returns-then-off-ge256
returns-then-off-ge256 c =
    let k = c in
    let l = c.args.self.ledger in
    let f : k.value-floor.result ≡ l.floor.0 = k.value-floor.ensures in
    let h : 256 ≤ k.max-low.result - l.floor.0 - 1 = omega (arith, f, c.if-off-ge256.true) in
    between_far l (words (goal.at.returns-then-off-ge256 c).Start) k.args.from k.args.to _ _ (low_is c.args.self.ledger _ _ _ c.max-low.ensures c.value-floor.ensures) (high_is c.args.self.ledger _ _ _ c.min-high.ensures c.value.ensures) h

pub overflow_sub-result : goal.overflow_sub-result
overflow_sub-result c =
    let k = c in
    let e : c.held_from.result ≤ c.min.result = within _ _ _ c.held_from.ensures in
    omega (arith, e, c.min.ensures)

pub returns : goal.returns
returns c =
    let k = c in
    let l = c.args.self.ledger in
    let f : k.value-floor.result ≡ l.floor.0 = k.value-floor.ensures in
    let h : k.max-low.result - l.floor.0 - 1 < 256 = omega (arith, f, c.if-off-ge256.false) in
    ap (λ (x : ℕ). k.min-high.result + 1 - k.max-low.result - x)
    (c.held_from.ensures ∙ ap (λ (x : ℕ). ones (rotated k.max-low.result (bits_in l.map) % 2 ^ x))
    (c.min.ensures ∙ ap (λ (x : ℕ). min (k.min-high.result + 1 - k.max-low.result) (256 - (k.max-low.result - x - 1))) f))
    ∙ between_near l (words (goal.at.returns c).Start) k.args.from k.args.to _ _ (low_is c.args.self.ledger _ _ _ c.max-low.ensures c.value-floor.ensures) (high_is c.args.self.ledger _ _ _ c.min-high.ensures c.value.ensures) h
