-- `put_sign`: one byte stored, or none. Assumes nothing.
use native.Mathlib.Omega.{arith}
use mathlib.Core.Path.{sym}
use Rattle.octets.specs.Overlays.{laid_one}
use Rattle.market_columns.specs.NumberPut.{signed_0}
use Rattle.market_columns.proofs.put_sign.Goals as goal

pub returns-then-m-eq1 : goal.returns-then-m-eq1
returns-then-m-eq1 c = rw c.if-m-eq1.true (sym (laid_one c.args.at 45 c.args.dst.now (omega arith)))

pub returns-else-m-eq1 : goal.returns-else-m-eq1
returns-else-m-eq1 c = signed_0 c.args.at c.args.m c.args.dst.now c.if-m-eq1.false
