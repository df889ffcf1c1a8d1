-- One byte more of those that are there, or a 0. Assumes nothing.
use Rattle.std.proofs.Common.{◌≡◌, ◌∙◌, ◌+◌, arith, rules, slice_index}
use Rattle.octets.specs.Octets.{numeral}
use Rattle.octets.specs.Numerals.{numeral_more, room_more, pow_room}
use Rattle.octets.specs.Std.{byte_part}
use Rattle.octets.proofs.number_at.Goals as goal

pub loop-i-init : goal.loop-i-init
unfolding numeral
loop-i-init c = search rules

pub overflow_mul-v : goal.overflow_mul-v
overflow_mul-v c = omega (arith, pow_room c.loop-i.i (omega arith))

pub overflow_add-v : goal.overflow_add-v
overflow_add-v c = omega (arith, pow_room c.loop-i.i (omega arith))

pub loop-i-preserved : goal.loop-i-preserved
loop-i-preserved c =
    let e : c.from.result ≡ slice_index c.args.s.now (c.args.at + c.loop-i.i) = c.from.ensures ∙ c.byte.ensures ∙ byte_part _ _ _ _ _ c.part-there.ensures c.loop-i-test.true in
    (rw numeral_more (omega arith), room_more 256 _ _ _ c.loop-i.invariant.1 (omega arith))
