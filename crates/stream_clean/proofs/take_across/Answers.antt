-- `take_across`: what is seen tells how many bytes are laid. Assumes nothing.
use native.Mathlib.Omega.{arith}
use mathlib.Core.List.{◌++◌}
use lib.ListN.{length-append}
use Rattle.clean_spec.specs.Turns.{size_inside}
use Rattle.stream_clean.proofs.take_across.Goals as goal

pub lay_across-requires : goal.lay_across-requires
lay_across-requires c =
    let s = c.args in
    omega (arith, size_inside (s.a.now ++ s.b.now) 0 _ c.see-seen.ensures (omega arith), length-append s.a.now s.b.now)
