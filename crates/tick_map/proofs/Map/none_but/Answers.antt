-- The map is turned so that the place stands in its first word; all places are among 256.
-- Assumes nothing.
use mathlib.Core.Path.{sym, ap, ◌∙◌}
use Prim.Native.Nat.{ℕ, ◌+◌, ◌/◌, ◌%◌, ◌^◌}
use lib.Dec.{eqb}
use Rattle.tick_map.specs.Bits.{Words, bits_in}
use Rattle.tick_map.specs.Ring.{rotated}
use Rattle.tick_map.proofs.Turned.{rotated_turned, without_none, without_all}
use Rattle.tick_map.proofs.Words.{list_lt}
use borrow.Author.Rules.{rules}
use Rattle.tick_map.proofs.Map.none_but.Goals as goal
use Rattle.tick_map.proofs.Map.none_but.Goals.{Start}

words : (c : goal.Start) → Words c.args.self.words
words c = record { four = search rules; low = λ i. search rules }

pub returns-then-k-ge256 : goal.returns-then-k-ge256
returns-then-k-ge256 c =
    let s = c in
    without_all (s.args.s + 1) s.args.k (bits_in s.args.self) (list_lt _ (words (goal.at.returns-then-k-ge256 c).Start)) c.if-k-ge256.true

pub returns : goal.returns
returns c =
    let s = c in
    let a = s.args in
    let lt = list_lt _ (words (goal.at.returns c).Start) in
    c.front_but.ensures ∙ ap (λ (x : ℕ). eqb (rotated (a.s % 64 + 1) x / 2 ^ a.k) 0) c.turned.ensures
    ∙ ap (λ (x : ℕ). eqb (x / 2 ^ a.k) 0) (rotated_turned a.s 1 (bits_in a.self) lt)
    ∙ sym (without_none (a.s + 1) a.k (bits_in a.self) lt)
