-- `put_decimal`: `put_digits` with as many digits as the number has. Assumes nothing.
use Rattle.std.proofs.Common.{arith, inl, inr, refl}
use Rattle.digits.specs.Widths.{width_at}
use Rattle.digits.proofs.put_decimal.Goals as goal

pub returns-in-0-to-9 : goal.returns-in-0-to-9
returns-in-0-to-9 c = rw (← width_at 1 c.args.v (omega arith) (omega arith) (omega arith) (inl refl)) c.put_digits.ensures

pub returns-in-10-to-99 : goal.returns-in-10-to-99
returns-in-10-to-99 c = rw (← width_at 2 c.args.v (omega arith) (omega arith) (omega arith) (inr (omega arith))) c.put_digits-in-10-to-99.ensures

pub returns-in-100-to-999 : goal.returns-in-100-to-999
returns-in-100-to-999 c = rw (← width_at 3 c.args.v (omega arith) (omega arith) (omega arith) (inr (omega arith))) c.put_digits-in-100-to-999.ensures

pub returns-in-1000-to-9999 : goal.returns-in-1000-to-9999
returns-in-1000-to-9999 c = rw (← width_at 4 c.args.v (omega arith) (omega arith) (omega arith) (inr (omega arith))) c.put_digits-in-1000-to-9999.ensures
