-- `list`: the buffers have room for the records of every capture that is taken and for their lines,
-- so that neither 8 is met. The listing of the records that the walk left is that of document 01's
-- walk. Assumes nothing.
use Rattle.std.proofs.Common.{◌≡◌, ◌+◌, ◌*◌, ◌≤◌, ◌∙◌, sym, ap, subst, arith, zero-add, length, take, length-take-le}
use Rattle.std.specs.Result.{is_ok}
use Rattle.octets.specs.Octets.{Bytes}
use Rattle.octets.specs.Papers.{written_paper, room_for, laid_if_room}
use Rattle.walk_spec.specs.Literal.{literal_walk}
use Rattle.walk.specs.Promises.{Listed, with_room}
use Rattle.listing_text.specs.Columns.{all_ok}
use Rattle.listing_text.specs.Answered.{answered}
use Rattle.listing_text.specs.Laws.{LastFits}
use Rattle.listing_text.specs.Whole.{listing_of}
use Rattle.listing_text.specs.Listed.{listed_of}
use Rattle.listing.specs.Listed.{walked_few, records_are, table_within, listing_is, listing_short}
use Rattle.listing.proofs.list.Goals as goal
use Rattle.listing.proofs.list.Goals.{After-put_listing, After-walk-walked, After-unwrap-counts}

-- no capture that is taken has more records than the buffer has room for
enough : (c : goal.After-walk-walked) → 64 * length (literal_walk c.args.capture.now).records ≤ length c.args.records.now
enough c = omega (arith, walked_few c.args.capture.now)

-- what the walk left and answered
listed : (c : goal.After-walk-walked) → Listed (literal_walk c.args.capture.now) c.args.records.now c.walk-walked.new.records c.walk-walked.result
listed c = with_room _ _ _ _ c.walk-walked.ensures.0 c.walk-walked.ensures.1.0 c.walk-walked.ensures.1.1 (enough c)

pub unwrap-counts-requires : goal.unwrap-counts-requires
unwrap-counts-requires c = ap is_ok (listed (goal.at.unwrap-counts-requires c).After-walk-walked).answer

-- its records stand within the buffer
within : (c : goal.After-unwrap-counts) → 64 * c.unwrap-counts.result.records ≤ length c.walk-walked.new.records
within c = let w = (goal.at.After-unwrap-counts c).After-walk-walked in table_within _ _ _ _ _ (listed w) c.unwrap-counts.ensures (enough w)

-- the text that was asked for is the capture's listing, and there is room for it
module _ (c : goal.After-put_listing) where
  abbrev walked : goal.After-walk-walked
  walked = (goal.at.After-put_listing c).After-walk-walked

  bytes : Bytes c.args.capture.now
  bytes i = omega (arith, c.type_inv.capture i)

  text_is : listing_of (take (64 * c.unwrap-counts.result.records) c.walk-walked.new.records) c.last_of-last.result ≡ listed_of c.args.capture.now
  text_is =
      ap (listing_of (take (64 * c.unwrap-counts.result.records) c.walk-walked.new.records)) c.last_of-last.ensures
      ∙ listing_is _ _ _ _ _ (listed walked) c.unwrap-counts.ensures bytes c.requires.0

  text-room : 0 + length (listed_of c.args.capture.now) ≤ length c.args.text.now
  text-room =
      let f : LastFits c.last_of-last.result = record { frames = omega arith; refused = omega arith; floor = omega arith; top = omega arith; missing = omega arith } in
      omega (arith, listing_short _ _ _ _ _ (listed walked) c.unwrap-counts.ensures bytes c.requires.0 (subst LastFits c.last_of-last.ensures f), c.requires.1.1)

  laid : (written_paper c.put_listing.result ≡ room_for 0 (length (listed_of c.args.capture.now)) (length c.args.text.now))
      × (c.put_listing.new.out ≡ laid_if_room 0 (listed_of c.args.capture.now) c.args.text.now)
  laid = (rw text_is at c.put_listing.ensures.0, rw text_is at c.put_listing.ensures.1)

pub overflow_mul-counts : goal.overflow_mul-counts
overflow_mul-counts c =
    omega (arith, records_are _ _ _ _ _ (listed (goal.at.overflow_mul-counts c).After-walk-walked) c.unwrap-counts.ensures, walked_few c.args.capture.now)

pub slice_bounds-put_listing-end : goal.slice_bounds-put_listing-end
slice_bounds-put_listing-end c = within (goal.at.slice_bounds-put_listing-end c).After-unwrap-counts

pub slice_bounds-put_listing-end-2 : goal.slice_bounds-put_listing-end-2
slice_bounds-put_listing-end-2 c = sym (length-take-le _ _ (within (goal.at.slice_bounds-put_listing-end-2 c).After-unwrap-counts))

pub unwrap-requires : goal.unwrap-requires
unwrap-requires c =
    let p = (goal.at.unwrap-requires c).After-put_listing in
    ap is_ok (all_ok _ _ _ _ (text-room p) (laid p).0)

pub returns : goal.returns
returns c =
    let p = (goal.at.returns c).After-put_listing in
    rw (zero-add c.unwrap.result) at (answered (text-room p) (laid p).0 _ c.unwrap.ensures (laid p).1)
