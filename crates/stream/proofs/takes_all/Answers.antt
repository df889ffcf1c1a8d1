-- `takes_all`: no bytes give more records than `roomy` asks room for; else a run counted them.
-- Assumes nothing.
use Prim.Native.Nat.{ℕ, ◌/◌}
use mathlib.Core.Path.{sym, ap, ◌∙◌}
use lib.Dec.{leb}
use Rattle.stream_spec.specs.CallLaws.{fits_roomy}
use Rattle.stream.specs.Pushed.{ran_counted}
use Rattle.stream.proofs.takes_all.Goals as goal

pub returns-then-roomy : goal.returns-then-roomy
returns-then-roomy c = fits_roomy _ _ _ _ (sym c.roomy.ensures ∙ c.if-roomy.true)

pub returns : goal.returns
returns c = let s = c.args in ap (λ (n : ℕ). leb n (s.room / 64)) (ran_counted s.st s.kept.now s.closing s.cut.now c.over-ran.result c.over-ran.ensures.0)
