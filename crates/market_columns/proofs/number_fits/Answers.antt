-- `number_fits`: test by test. Assumes nothing.
use Prim.Native.Nat.{◌/◌}
use native.Mathlib.Omega.{arith}
use mathlib.Core.Path.{sym}
use Rattle.market_columns.specs.NumberLaws.{ten_pos}
use Rattle.market_columns.specs.NumberPut.{unfit_any, fits_any, fits_sign, width_most_20}
use Rattle.market_columns.proofs.number_fits.Goals as goal

pub returns-then-width-sign : goal.returns-then-width-sign
returns-then-width-sign c = let f = c.args.form in let a = c.args.amount in sym (unfit_any f.width f.decimals a.sign a.units c.if-width-sign.true)

pub nonzero_div-units : goal.nonzero_div-units
nonzero_div-units c = rw c.pow.ensures (ten_pos _)

pub overflow_add-result : goal.overflow_add-result
overflow_add-result c = let f = c.args.form in let a = c.args.amount in record { fits = omega (arith, c.width-n.ensures, width_most_20 (a.units / c.pow.result), fits_sign f.width f.decimals a.sign a.units c.if-width-sign.false) }

pub returns : goal.returns
returns c = let f = c.args.form in let a = c.args.amount in rw (c.behind.ensures, c.width-n.ensures, c.pow.ensures) (sym (fits_any f.width f.decimals a.sign a.units c.if-width-sign.false))
