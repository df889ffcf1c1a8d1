-- `output`: too long an input is told so, any other is listed. Assumes nothing.
use Rattle.std.proofs.Common.{refl, sym, length-take-le, arith, length, le-leb}
use Rattle.std.proofs.lemmas.Bool.{lt-leb}
use Rattle.record.specs.Stored.{stored_copied}
use Rattle.listing_text.specs.Output.{over, output_of}
use Rattle.listing.proofs.output.Goals as goal

pub slice_bounds-copy_from_slice-end-then-input-gt-MOST : goal.slice_bounds-copy_from_slice-end-then-input-gt-MOST
slice_bounds-copy_from_slice-end-then-input-gt-MOST c = sym (length-take-le 25 c.args.text.now (omega arith))

pub copy_from_slice-requires : goal.copy_from_slice-requires
copy_from_slice-requires c = length-take-le 25 c.args.text.now (omega arith)

pub returns-then-input-gt-MOST : goal.returns-then-input-gt-MOST
unfolding output_of
returns-then-input-gt-MOST c = rw (lt-leb (length c.args.input.now) 65536 (omega arith)) (stored_copied 0 25 over _ _ c.copy_from_slice.ensures.after refl (omega arith))

pub returns : goal.returns
unfolding output_of
returns c = rw (le-leb (length c.args.input.now) 65536 (omega arith)) c.list.ensures
