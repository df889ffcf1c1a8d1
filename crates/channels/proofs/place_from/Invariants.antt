-- No place from `from` up to `at` is open for the channel. Assumes nothing.
use Prim.Native.Nat.{ℕ, ◌<◌}
use mathlib.Core.Path.{◌≡◌}
use mathlib.Core.Bool.{◌&&◌, false}
use lib.Dec.{leb}
use Rattle.channels.specs.Index.{open_for}
use Rattle.channels.proofs.place_from.Given as goal

abbrev pub invariant-loop-at : goal.invariant-loop-at
invariant-loop-at l = (j : ℕ) → j < l.at → leb l.from j && open_for l.channels l.used l.channel j ≡ false
