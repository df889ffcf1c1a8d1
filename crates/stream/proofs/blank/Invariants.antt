-- `blank`. The invariant: those put into one so far and the bytes behind them are 0 exactly where
-- all are. Assumes nothing.
use mathlib.Core.Path.{◌≡◌}
use mathlib.Core.Bool.{◌&&◌}
use lib.Dec.{eqb}
use lib.ListN.{drop}
use Rattle.stream_spec.specs.State.{all_zero}
use Rattle.stream.proofs.blank.Given as goal

abbrev pub invariant-loop-b : goal.invariant-loop-b
invariant-loop-b l = eqb l.all 0 && all_zero (drop l.b-index l.s) ≡ all_zero l.s
