-- Below 256, place i is bit i % 64 of word i / 64; the number has no digit from 256 on.
-- Assumes nothing.
use mathlib.Core.Path.{◌∙◌, ap, sym}
use Prim.Native.Nat.{ℕ, ◌/◌, ◌%◌, ◌^◌}
use lib.Bits.{and_mask}
use borrow.Author.Rules.{rules}
use borrow.Author.Tests.{le-ltb}
use lib.Dec.{eqb}
use Rattle.tick_map.specs.Bits.{is_set, Words}
use Rattle.tick_map.proofs.Digits.{bit_above}
use Rattle.tick_map.proofs.Words.{list_lt, list_bit}
use Rattle.tick_map.proofs.Map.holds.Goals as goal
use Rattle.tick_map.proofs.Map.holds.Goals.{Start}

words : (c : goal.Start) → Words c.args.self.words
words c = record { four = search rules; low = λ i. search rules }

pub returns-then-i-lt256 : goal.returns-then-i-lt256
returns-then-i-lt256 c =
    ap (λ (x : ℕ). eqb x 1) (and_mask (c.word.result / 2 ^ (c.args.i % 64)) 1) ∙ ap (λ (x : ℕ). is_set x (c.args.i % 64)) c.word.ensures
    ∙ ap (λ (x : ℕ). eqb x 1) (sym (list_bit _ (words (goal.at.returns-then-i-lt256 c).Start) _ c.if-i-lt256.true))

pub returns-else-i-lt256 : goal.returns-else-i-lt256
returns-else-i-lt256 c =
    le-ltb _ _ c.if-i-lt256.false ∙ ap (λ (x : ℕ). eqb x 1) (sym (bit_above 256 _ (list_lt _ (words (goal.at.returns-else-i-lt256 c).Start)) c.if-i-lt256.false))
