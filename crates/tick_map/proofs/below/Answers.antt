-- Words before the place's own are whole, its own has the digits below it. Assumes nothing.
use mathlib.Core.Path.{ap, ◌∙◌}
use Prim.Native.Nat.{ℕ, ◌-◌, ◌/◌, ◌^◌}
use lib.Dec.{eqb, ltb}
use Rattle.terms.specs.Paper.{pick}
use Rattle.tick_map.specs.Bits.{bit}
use Rattle.tick_map.proofs.Places.{below_bit}
use Rattle.tick_map.proofs.below.Goals as goal

pub returns : goal.returns
returns c =
    let a = c.args in
    let e = c.either-2.ensures ∙ ap (λ (y : ℕ). pick (ltb a.j (a.x / 64)) (2 ^ 64 - 1) y)
    (c.either.ensures ∙ ap (λ (y : ℕ). pick (eqb a.j (a.x / 64)) y 0) c.lowest-own.ensures) in
    λ q h. ap (λ (y : ℕ). bit y q) e ∙ below_bit a.x a.j q h
