-- Digit by digit: below one end, below the other, and round. Assumes nothing.
use mathlib.Core.Path.{ap, ap₂, ◌∙◌}
use Prim.Native.Nat.{ℕ, ◌+◌, ◌*◌, ◌%◌, ◌<◌}
use native.Mathlib.Omega.{arith}
use lib.Bits.{differ, bit_xor}
use lib.Dec.{leb}
use Rattle.tick_map.specs.Bits.{bit}
use Rattle.tick_map.proofs.Digits.{bit_xor_lem}
use Rattle.tick_map.proofs.Places.{all_bit, span_digit}
use Rattle.tick_map.proofs.span.Goals as goal

pub returns : goal.returns
returns c =
    let a = c.args in
    let x = c.below.result in
    let y = c.below-2.result in
    λ q h.
    let p : 64 * a.j + q < 256 = omega (arith, c.requires.1) in
    let l : a.s % 256 < 256 = omega arith in
    bit_xor_lem (bit_xor x y) c.either.result q
    ∙ ap₂ differ (bit_xor_lem x y q ∙ ap₂ differ (c.below.ensures q h) (c.below-2.ensures q h))
    (ap (λ (z : ℕ). bit z q) c.either.ensures ∙ all_bit (leb 256 (a.s % 256 + a.k)) q h)
    ∙ span_digit (64 * a.j + q) (a.s % 256) a.k p l c.requires.0
