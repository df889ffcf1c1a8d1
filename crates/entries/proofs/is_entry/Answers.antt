-- `is_entry`: `divided_stands` says that its test is the definition's. Assumes nothing.
use native.Mathlib.Omega.{arith}
use Rattle.octets.specs.Octets.{be}
use Rattle.entries.specs.Places.{size_pos, divided_stands, before_73, beyond_end}
use mathlib.Core.Path.{sym}
use Rattle.entries.proofs.is_entry.Goals as goal

pub returns-then-place-lt73 : goal.returns-then-place-lt73
returns-then-place-lt73 c = sym (before_73 _ _ (omega arith))

pub returns-then-body-place : goal.returns-then-body-place
returns-then-body-place c = sym (beyond_end _ _ (omega arith))

pub nonzero_rem-result : goal.nonzero_rem-result
nonzero_rem-result c = omega (arith, size_pos (be 5 10 c.args.body.now))

pub nonzero_div-result : goal.nonzero_div-result
nonzero_div-result c = omega (arith, size_pos (be 5 10 c.args.body.now))

pub returns : goal.returns
returns c = divided_stands _ _ _ _ c.requires c.at-n.ensures (omega arith) (omega arith)
