-- `shift`: the bytes are moved and those behind them cleared, or there is nothing to move.
-- Assumes nothing.
use native.Mathlib.Omega.{arith}
use Prim.Native.Nat.{◌-◌}
use Rattle.stream.specs.StoreLaws.{moved, filled, shifted, shifted_none}
use Rattle.stream.proofs.shift.Goals as goal

pub returns-then-a-gt0 : goal.returns-then-a-gt0
returns-then-a-gt0 c =
    let s = c.args in
    shifted s.a s.e s.kept.now c.requires.0 c.requires.1 _ _ c.down.ensures
    (filled (s.e - s.a) s.e _ _ (omega (arith, c.requires.1, c.requires.1)) (c.fill.ensures.after (λ y q. q)))

pub returns-else-a-gt0 : goal.returns-else-a-gt0
returns-else-a-gt0 c = let s = c in shifted_none s.args.a s.args.e s.args.kept.now s.requires.0 s.requires.1 (omega arith)
