-- `keep_rest`: the store as it was where the test fails; else what is left of the bytes that waited
-- is moved to the front, and the cut laid behind it, or the rest of the cut alone is kept.
-- Assumes nothing.
use native.Mathlib.Omega.{arith}
use Prim.Native.Nat.{◌+◌, ◌-◌, ◌≤◌}
use mathlib.Core.Path.{◌≡◌, sym, ap, ◌∙◌}
use mathlib.Core.Bool.{true}
use lib.ListN.{length, take, drop, length-drop}
use Rattle.stream.specs.Standing.{has_rest}
use Rattle.stream.specs.StoreLaws.{tail_whole, rest_there, rest_none, rest_laid, rest_kept}
use Rattle.stream.proofs.keep_rest.Goals as goal
use Rattle.stream.proofs.keep_rest.Goals.{Else-not-has_rest}

there : (c : goal.Else-not-has_rest) → has_rest (length c.args.kept.now) c.args.n c.args.at (length c.args.cut.now) ≡ true
there c = sym c.has_rest.ensures ∙ c.if-not-has_rest.false

bounds : (c : goal.Else-not-has_rest) → (c.args.n ≤ length c.args.kept.now) × ((c.args.at ≤ c.args.n + length c.args.cut.now) × (c.args.n + length c.args.cut.now ≤ c.args.at + length c.args.kept.now))
bounds c = rest_there _ _ _ _ (there c)

-- the rest of the cut, whole
tail : (c : goal.Else-not-has_rest) → take (length c.args.cut.now - (c.args.at - c.args.n)) (drop (c.args.at - c.args.n) c.args.cut.now) ≡ drop (c.args.at - c.args.n) c.args.cut.now
tail c = tail_whole (c.args.at - c.args.n) c.args.cut.now

pub returns-then-not-has_rest : goal.returns-then-not-has_rest
returns-then-not-has_rest c = rest_none _ _ _ _ (sym c.has_rest.ensures ∙ c.if-not-has_rest.true)

pub shift-requires : goal.shift-requires
shift-requires c = (c.if-at-n.true, (bounds (goal.at.shift-requires c).Else-not-has_rest).0)

pub returns-then-at-n : goal.returns-then-at-n
returns-then-at-n c = rest_laid _ _ _ _ (there (goal.at.returns-then-at-n c).Else-not-has_rest) c.if-at-n.true _ _ c.shift.ensures c.lay.ensures.1

pub slice_bounds-keep-count : goal.slice_bounds-keep-count
slice_bounds-keep-count c = omega (arith, (bounds (goal.at.slice_bounds-keep-count c).Else-not-has_rest).1.0)

pub slice_bounds-keep-start : goal.slice_bounds-keep-start
slice_bounds-keep-start c = omega (arith, (bounds (goal.at.slice_bounds-keep-start c).Else-not-has_rest).1.0)

pub keep-requires : goal.keep-requires
keep-requires c =
    let e = c in
    let s = e.args in
    ((bounds (goal.at.keep-requires c).Else-not-has_rest).0, omega (arith, ap length (tail (goal.at.keep-requires c).Else-not-has_rest), length-drop (s.at - s.n) s.cut.now, (bounds (goal.at.keep-requires c).Else-not-has_rest).1.1, c.if-at-n.false))

pub returns : goal.returns
returns c = rest_kept _ _ _ _ (there (goal.at.returns c).Else-not-has_rest) c.if-at-n.false _ _ (tail (goal.at.returns c).Else-not-has_rest) c.keep.ensures
