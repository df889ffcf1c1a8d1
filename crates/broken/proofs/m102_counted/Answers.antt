-- `m102_counted`: the products stay small, and the entries fill the body. Assumes nothing.
use native.Mathlib.Omega.{arith}
use Prim.Native.Nat.{◌*◌, ◌≤◌}
use Rattle.rules.specs.Sizes.{size_small, size_wide, entries_small}
use Rattle.broken.proofs.m102_counted.Goals as goal
use Rattle.broken.proofs.m102_counted.Goals.{After-entry_size-w}

small : (c : goal.After-entry_size-w) → c.at-n.result * c.entry_size-w.result ≤ 65535 * 19
small c = entries_small c.at-n.result c.entry_size-w.result (omega arith) (omega (arith, size_small c.letters_at.result, c.entry_size-w.ensures))

pub overflow_mul-n : goal.overflow_mul-n
overflow_mul-n c = omega (arith, small (goal.at.overflow_mul-n c).After-entry_size-w)

pub overflow_add-n : goal.overflow_add-n
overflow_add-n c = omega (arith, small (goal.at.overflow_add-n c).After-entry_size-w)

pub entries_broken-requires : goal.entries_broken-requires
entries_broken-requires c = (rw c.entry_size-w.ensures (size_wide _), c.if-b-n.false)
