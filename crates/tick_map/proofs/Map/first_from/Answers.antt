-- The scan of the place's own word, from the place on; then of the words behind, counted round.
-- Assumes nothing.
use mathlib.Core.Path.{◌≡◌, ap, subst, ◌∙◌}
use Prim.Native.Nat.{ℕ, ◌+◌, ◌-◌, ◌*◌, ◌%◌, ◌/◌, ◌^◌}
use native.Mathlib.Omega.{arith}
use borrow.Author.Rules.{rules}
use lib.Count.{count_trailing_zeros}
use Rattle.tick_map.specs.Bits.{Words}
use Rattle.tick_map.proofs.Rotated.{Clear, near_stops, near_passes, word_stops, word_passes, all_clear}
use Rattle.tick_map.proofs.Map.first_from.Goals as goal
use Rattle.tick_map.proofs.Map.first_from.Goals.{Start}

words : (c : goal.Start) → Words c.args.self.words
words c = record { four = search rules; low = λ i. search rules }

pub returns-then-near-lt64 : goal.returns-then-near-lt64
returns-then-near-lt64 c =
    let near = c.zeros_in-near.ensures.0 ∙ ap (λ (x : ℕ). count_trailing_zeros 64 (x / 2 ^ (c.args.s % 64))) c.word.ensures in
    near_stops c.args.self.words (words (goal.at.returns-then-near-lt64 c).Start) c.args.s near c.if-near-lt64.true

pub loop-n-init : goal.loop-n-init
loop-n-init c =
    let near = c.zeros_in-near.ensures.0 ∙ ap (λ (x : ℕ). count_trailing_zeros 64 (x / 2 ^ (c.args.s % 64))) c.word.ensures in
    near_passes c.args.self.words (words (goal.at.loop-n-init c).Start) c.args.s (omega (arith, near))

pub returns-then-zeros-lt64 : goal.returns-then-zeros-lt64
returns-then-zeros-lt64 c =
    let n = 64 * c.loop-n.n - c.args.s % 64 in
    let j = (c.args.s / 64 % 4 + c.loop-n.n) % 4 in
    let at : (c.args.s + (64 * c.loop-n.n - c.args.s % 64)) % 256 ≡ 64 * ((c.args.s / 64 % 4 + c.loop-n.n) % 4) = omega arith in
    word_stops c.args.self.words (words (goal.at.returns-then-zeros-lt64 c).Start) c.args.s n j at c.loop-n.invariant (omega arith)
    (c.zeros_in-zeros.ensures.0 ∙ ap (count_trailing_zeros 64) c.word-in-loop-n.ensures) c.if-zeros-lt64.true

pub loop-n-preserved : goal.loop-n-preserved
loop-n-preserved c =
    let n = 64 * c.loop-n.n - c.args.s % 64 in
    let j = (c.args.s / 64 % 4 + c.loop-n.n) % 4 in
    let at : (c.args.s + (64 * c.loop-n.n - c.args.s % 64)) % 256 ≡ 64 * ((c.args.s / 64 % 4 + c.loop-n.n) % 4) = omega arith in
    let zeros = c.zeros_in-zeros.ensures.0 ∙ ap (count_trailing_zeros 64) c.word-in-loop-n.ensures in
    let next : 64 * c.loop-n.n - c.args.s % 64 + 64 ≡ 64 * (c.loop-n.n + 1) - c.args.s % 64 = omega arith in
    subst (λ (x : ℕ). Clear c.args.self.words c.args.s x) next
    (word_passes c.args.self.words (words (goal.at.loop-n-preserved c).Start) c.args.s n j at c.loop-n.invariant (omega (arith, zeros)))

pub returns : goal.returns
returns c = all_clear c.args.self.words (words (goal.at.returns c).Start) c.args.s (64 * c.loop-n.n - c.args.s % 64) (omega arith) c.loop-n.invariant
