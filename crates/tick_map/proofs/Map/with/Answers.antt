-- Below 256, one word with one bit more is the number with one digit more; beyond, the remainder by
-- 2 ^ 256 takes the digit away. Assumes nothing.
use mathlib.Core.Path.{sym, ◌∙◌, ap, subst}
use mathlib.Core.List.{List}
use Prim.Native.Nat.{ℕ, ◌/◌, ◌%◌, ◌^◌, ◌<◌}
use native.Mathlib.Nat.{mod-eq_of_lt}
use native.Mathlib.Omega.{arith}
use lib.Bits.{or_lt}
use lib.Pow.{pow-lt}
use Rattle.tick_map.specs.Bits.{Words, value_of_list}
use Rattle.tick_map.proofs.Laws.{or_beyond}
use Rattle.tick_map.proofs.Places.{place_set_lem, set_words}
use Rattle.tick_map.proofs.Words.{list_lt, list_set, map_at}
use borrow.Author.Rules.{rules}
use Rattle.tick_map.proofs.Map.with.Goals as goal
use Rattle.tick_map.proofs.Map.with.Goals.{Else-i-ge256, Start}

words : (c : goal.Start) → Words c.args.self.words
words c = record { four = search rules; low = λ i. search rules }

pub returns-then-i-ge256 : goal.returns-then-i-ge256
returns-then-i-ge256 c = map_at _ _ (words (goal.at.returns-then-i-ge256 c).Start) (sym (or_beyond 256 _ (list_lt _ (words (goal.at.returns-then-i-ge256 c).Start)) c.if-i-ge256.true))

pub returns : goal.returns
returns c =
    let t = c in
    let s = (goal.at.returns c).Else-i-ge256 in
    let i = s.args.i in
    let l = t.if-i-ge256.false in
    let j : i / 64 < 4 = omega (arith, l) in
    let q : i % 64 < 64 = omega arith in
    let w = s.args.self.words in
    let is = place_set_lem w (i / 64) (2 ^ (i % 64)) _ _ _ _ (words (goal.at.returns c).Start).four j c.place.ensures c.place-2.ensures c.place-3.ensures c.place-4.ensures in
    map_at _ _ (subst (λ (v : List ℕ). Words v) (sym is) (set_words w (words (goal.at.returns c).Start) (i / 64) (i % 64) q))
    (ap value_of_list is
    ∙ list_set _ (words (goal.at.returns c).Start) i l
    ∙ sym (mod-eq_of_lt (or_lt 256 _ _ (list_lt _ (words (goal.at.returns c).Start)) (pow-lt l))))
