-- `search`. Of the places: from `at` on there is to be found what was to be found from `from` on,
-- and nothing is found yet. Of a frame's bytes: v is the sum of those passed. Assumes nothing.
use Rattle.std.proofs.Common.{◌≡◌, ◌-◌, take, drop, None}
use Rattle.frame_spec.specs.Search.{first_of}
use Rattle.octets.specs.Octets.{sum8}
use Rattle.frame.proofs.search.Given as goal

abbrev pub invariant-loop-i : goal.invariant-loop-i
invariant-loop-i l = l.v ≡ sum8 (take (l.i - l.at) (drop l.at l.bytes))

abbrev pub invariant-places : goal.invariant-places
invariant-places l = (first_of l.at (drop l.at l.bytes) ≡ first_of l.from (drop l.from l.bytes)) × (l.found ≡ None)
