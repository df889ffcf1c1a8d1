-- `store_type`: four bytes and a space. Assumes nothing.
use Rattle.std.proofs.Common.{◌≡◌, ◌+◌, ◌≤◌, ◌∙◌, ap, arith, length}
use Rattle.octets.specs.Octets.{bytes_of}
use Rattle.octets.specs.Std.{bytes_written}
use Rattle.octets.specs.Numerals.{length_digits}
use Rattle.record.specs.Stored.{stored_copied, stored_byte, stored_both}
use Rattle.listing_text.specs.Lengths.{length_type}
use Rattle.listing_text.specs.Text.{type_column, type_shown, space}
use Rattle.listing_text.proofs.store_type.Goals as goal
use Rattle.listing_text.proofs.store_type.Goals.{Start}

room : (c : goal.Start) → c.args.at + 5 ≤ length c.args.d.now
room c = rw (length_type c.args.t) at c.requires.fits

pub slice_bounds-copy_from_slice-end : goal.slice_bounds-copy_from_slice-end
slice_bounds-copy_from_slice-end c = omega (arith, room (goal.at.slice_bounds-copy_from_slice-end c).Start)

pub bounds-d-at : goal.bounds-d-at
bounds-d-at c = omega (arith, room (goal.at.bounds-d-at c).Start)

pub returns : goal.returns
unfolding type_column
returns c =
    let r = room (goal.at.returns c).Start in
    let five : c.args.at + 4 + 1 ≡ c.args.at + 5 = omega arith in
    rw five at
    (stored_both
    (stored_copied c.args.at (c.args.at + 4) (bytes_of 4 (type_shown c.args.t)) c.args.d.now c.copy_from_slice.new.self (c.copy_from_slice.ensures.after ∙ c.to_be_bytes.ensures ∙ bytes_written 4 _ ∙ ap (bytes_of 4) c.shown.ensures) (omega (arith, length_digits 256 4 (type_shown c.args.t))) (omega (arith, r)))
    (stored_byte (c.args.at + 4) space _ (omega (arith, r))))
