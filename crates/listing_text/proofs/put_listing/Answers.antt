-- `put_listing`: without room nothing is written; with room the listing is laid whole.
-- Assumes nothing.
use Prim.Native.Nat.{◌≤◌}
use mathlib.Core.Path.{sym, ◌∙◌}
use lib.ListN.{length}
use borrow.Author.Tests.{leb-true}
use Rattle.record.specs.Stored.{stored_both}
use Rattle.listing_text.specs.Whole.{listing_of}
use Rattle.listing_text.specs.Rest.{listing_fits}
use Rattle.listing_text.specs.Answered.{front_lacks, front_laid}
use Rattle.listing_text.proofs.put_listing.Goals as goal
use Rattle.listing_text.proofs.put_listing.Goals.{Else-not-takes}

-- behind the test there is room for all
room : (c : goal.Else-not-takes) → length (listing_of c.args.records.now c.args.s) ≤ length c.args.out.now
room c = leb-true _ _ (sym (listing_fits _ _ _ _ _ c.takes.ensures c.last_len.ensures) ∙ c.if-not-takes.false)

pub returns-then-not-takes : goal.returns-then-not-takes
returns-then-not-takes c = front_lacks _ _ (sym (listing_fits _ _ _ _ _ c.takes.ensures c.last_len.ensures) ∙ c.if-not-takes.true)

pub returns : goal.returns
unfolding listing_of
returns c =
    let e = c in
    front_laid _ _ (stored_both e.store_lines-at.ensures e.store_summary.ensures)
