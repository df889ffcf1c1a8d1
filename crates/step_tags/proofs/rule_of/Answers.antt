-- `rule_of`: in an arm the tag is known, and the table computes; in the last it is none of the 27.
-- Assumes nothing.
use mathlib.Core.Path.{◌≡◌}
use native.Mathlib.Omega.{arith}
use borrow.Author.Tests.{ne_eqb}
use Rattle.step_tags.specs.Table.{row_of, row_in, row_at, rows}
use Rattle.step_tags.proofs.rule_of.Goals as goal

pub returns-in-49 : goal.returns-in-49
unfolding row_of row_in row_at rows
returns-in-49 c = rw c.in-49.is

pub returns-in-56 : goal.returns-in-56
unfolding row_of row_in row_at rows
returns-in-56 c = rw c.in-56.is

pub returns-in-34 : goal.returns-in-34
unfolding row_of row_in row_at rows
returns-in-34 c = rw c.in-34.is

pub returns-in-43 : goal.returns-in-43
unfolding row_of row_in row_at rows
returns-in-43 c = rw c.in-43.is

pub returns-in-97 : goal.returns-in-97
unfolding row_of row_in row_at rows
returns-in-97 c = rw c.in-97.is

pub returns-in-52 : goal.returns-in-52
unfolding row_of row_in row_at rows
returns-in-52 c = rw c.in-52.is

pub returns-in-347 : goal.returns-in-347
unfolding row_of row_in row_at rows
returns-in-347 c = rw c.in-347.is

pub returns-in-98 : goal.returns-in-98
unfolding row_of row_in row_at rows
returns-in-98 c = rw c.in-98.is

pub returns-in-108 : goal.returns-in-108
unfolding row_of row_in row_at rows
returns-in-108 c = rw c.in-108.is

pub returns-in-141 : goal.returns-in-141
unfolding row_of row_in row_at rows
returns-in-141 c = rw c.in-141.is

pub returns-in-789 : goal.returns-in-789
unfolding row_of row_in row_at rows
returns-in-789 c = rw c.in-789.is

pub returns-in-553 : goal.returns-in-553
unfolding row_of row_in row_at rows
returns-in-553 c = rw c.in-553.is

pub returns-in-554 : goal.returns-in-554
unfolding row_of row_in row_at rows
returns-in-554 c = rw c.in-554.is

pub returns-in-1137 : goal.returns-in-1137
unfolding row_of row_in row_at rows
returns-in-1137 c = rw c.in-1137.is

pub returns-in-1407 : goal.returns-in-1407
unfolding row_of row_in row_at rows
returns-in-1407 c = rw c.in-1407.is

pub returns-in-1406 : goal.returns-in-1406
unfolding row_of row_in row_at rows
returns-in-1406 c = rw c.in-1406.is

pub returns-in-1409 : goal.returns-in-1409
unfolding row_of row_in row_at rows
returns-in-1409 c = rw c.in-1409.is

pub returns-in-112 : goal.returns-in-112
unfolding row_of row_in row_at rows
returns-in-112 c = rw c.in-112.is

pub returns-in-7 : goal.returns-in-7
unfolding row_of row_in row_at rows
returns-in-7 c = rw c.in-7.is

pub returns-in-16 : goal.returns-in-16
unfolding row_of row_in row_at rows
returns-in-16 c = rw c.in-16.is

pub returns-in-45 : goal.returns-in-45
unfolding row_of row_in row_at rows
returns-in-45 c = rw c.in-45.is

pub returns-in-371 : goal.returns-in-371
unfolding row_of row_in row_at rows
returns-in-371 c = rw c.in-371.is

pub returns-in-372 : goal.returns-in-372
unfolding row_of row_in row_at rows
returns-in-372 c = rw c.in-372.is

pub returns-in-373 : goal.returns-in-373
unfolding row_of row_in row_at rows
returns-in-373 c = rw c.in-373.is

pub returns-in-58 : goal.returns-in-58
unfolding row_of row_in row_at rows
returns-in-58 c = rw c.in-58.is

pub returns-in-123 : goal.returns-in-123
unfolding row_of row_in row_at rows
returns-in-123 c = rw c.in-123.is

pub returns-in-36 : goal.returns-in-36
unfolding row_of row_in row_at rows
returns-in-36 c = rw c.in-36.is

pub returns-in_default : goal.returns-in_default
unfolding row_of row_in row_at rows
returns-in_default c =
    let t = c.args.tag in
    let e : row_of t ≡ 27 = simp (ne_eqb t 49 (λ e. omega (arith, e)), ne_eqb t 56 (λ e. omega (arith, e)), ne_eqb t 34 (λ e. omega (arith, e)), ne_eqb t 43 (λ e. omega (arith, e)), ne_eqb t 97 (λ e. omega (arith, e)), ne_eqb t 52 (λ e. omega (arith, e)), ne_eqb t 347 (λ e. omega (arith, e)), ne_eqb t 98 (λ e. omega (arith, e)), ne_eqb t 108 (λ e. omega (arith, e)), ne_eqb t 141 (λ e. omega (arith, e)), ne_eqb t 789 (λ e. omega (arith, e)), ne_eqb t 553 (λ e. omega (arith, e)), ne_eqb t 554 (λ e. omega (arith, e)), ne_eqb t 1137 (λ e. omega (arith, e)), ne_eqb t 1407 (λ e. omega (arith, e)), ne_eqb t 1406 (λ e. omega (arith, e)), ne_eqb t 1409 (λ e. omega (arith, e)), ne_eqb t 112 (λ e. omega (arith, e)), ne_eqb t 7 (λ e. omega (arith, e)), ne_eqb t 16 (λ e. omega (arith, e)), ne_eqb t 45 (λ e. omega (arith, e)), ne_eqb t 371 (λ e. omega (arith, e)), ne_eqb t 372 (λ e. omega (arith, e)), ne_eqb t 373 (λ e. omega (arith, e)), ne_eqb t 58 (λ e. omega (arith, e)), ne_eqb t 123 (λ e. omega (arith, e)), ne_eqb t 36 (λ e. omega (arith, e))) in
    rw e
