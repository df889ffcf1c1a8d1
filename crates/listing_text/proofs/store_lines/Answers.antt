use Rattle.std.proofs.Common.{arith}
use Rattle.listing_text.specs.Rest.{going_first, line_room, going_on, going_end}
use Rattle.listing_text.proofs.store_lines.Goals as goal

pub loop-k-init : goal.loop-k-init
loop-k-init c = going_first _ _

pub store_line-at-requires : goal.store_line-at-requires
store_line-at-requires c = rw c.record_at.ensures (line_room _ c.loop-k.invariant c.requires c.loop-k-test.true)

pub loop-k-preserved : goal.loop-k-preserved
loop-k-preserved c = going_on _ c.loop-k.invariant c.loop-k-test.true (rw c.record_at.ensures at c.store_line-at.ensures)

pub returns : goal.returns
returns c = going_end _ c.loop-k.invariant c.requires (omega arith)
