-- `store_lines`: what is still to be laid, laid behind the lines laid so far, gives all lines.
-- Assumes nothing.
use Rattle.listing_text.specs.Rest.{Going}
use Rattle.listing_text.proofs.store_lines.Given as goal

abbrev pub invariant-loop-k : goal.invariant-loop-k
invariant-loop-k l = Going l.records l.initial.out l.out l.k l.at
