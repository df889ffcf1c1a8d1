-- `values_size`: by the line at hand. Assumes nothing.
use Prim.Native.Nat.{◌+◌}
use native.Mathlib.Omega.{arith}
use Rattle.market.specs.Starts.{line_number, line_most}
use Rattle.market_spec.specs.Files.{layout_some}
use Rattle.market_values.specs.Giving.{SizeLeft, lines_stop, size_first, size_next, size_end}
use Rattle.market_values.proofs.values_size.Goals as goal
use Rattle.market_values.proofs.values_size.Goals.{After-line_sizes-sizes}

-- the state after one line
next : (c : goal.After-line_sizes-sizes) → SizeLeft c.args.s.now (c.loop-line.p + c.line_sizes-sizes.result.bytes) (c.loop-line.n + c.line_sizes-sizes.result.values)
next c =
    let l = c.loop-line in
    let t = c.in-Line.ensures in
    rw (c.line_sizes-sizes.ensures.0.0, c.line_sizes-sizes.ensures.1.0, t) (size_next c.args.s.now l.p l.n l.invariant (omega (arith, t, line_most c.in-Line.line)))

pub loop-line-init : goal.loop-line-init
loop-line-init c = size_first _ c.requires

pub loop-line-smaller : goal.loop-line-smaller
loop-line-smaller c = omega (arith, (next (goal.at.loop-line-smaller c).After-line_sizes-sizes).stand.inside, rw (← c.line_sizes-sizes.ensures.0.0) at (layout_some (line_number c.in-Line.line)))

pub loop-line-preserved : goal.loop-line-preserved
loop-line-preserved c = next (goal.at.loop-line-preserved c).After-line_sizes-sizes

pub returns : goal.returns
returns c = let l = c.loop-line in size_end _ l.p l.n l.invariant (lines_stop _ l.p _ l.invariant.stand c.line_type.result c.line_type.ensures c.in_default.not-Line)
