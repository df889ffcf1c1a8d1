-- In an arm the number is known; in the last it is none of the four. Assumes nothing.
use native.Mathlib.Omega.{arith}
use borrow.Author.Tests.{ne_eqb}
use Rattle.host_session.specs.Words.{state_numbered}
use Rattle.host_session.proofs.state_in.Goals as goal

pub returns-in-0 : goal.returns-in-0
unfolding state_numbered
returns-in-0 c = rw c.in-0.is

pub returns-in-1 : goal.returns-in-1
unfolding state_numbered
returns-in-1 c = rw c.in-1.is

pub returns-in-2 : goal.returns-in-2
unfolding state_numbered
returns-in-2 c = rw c.in-2.is

pub returns-in-3 : goal.returns-in-3
unfolding state_numbered
returns-in-3 c = rw c.in-3.is

pub returns-in_default : goal.returns-in_default
unfolding state_numbered
returns-in_default c = let w = c.args.word in rw (ne_eqb w 0 (λ e. omega (arith, e)), ne_eqb w 1 (λ e. omega (arith, e)), ne_eqb w 2 (λ e. omega (arith, e)), ne_eqb w 3 (λ e. omega (arith, e)))
