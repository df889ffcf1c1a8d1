-- `takes`: where there is room for the longest lines there is room for these. Else the lines still
-- to come and the end fit the room left exactly where all lines and the end fit the room. Assumes
-- nothing.
use Rattle.std.proofs.Common.{◌≡◌, ◌+◌, leb, length}
use Rattle.listing_text.specs.Whole.{lines_in}
use Rattle.listing_text.specs.Rest.{rest_of}
use Rattle.listing_text.proofs.takes.Given as goal

abbrev pub invariant-loop-k : goal.invariant-loop-k
invariant-loop-k l = leb (length (rest_of l.records l.k) + l.end) l.left ≡ leb (length (lines_in l.records) + l.end) l.room
