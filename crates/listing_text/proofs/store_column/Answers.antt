-- `store_column`: there is room for the digits and the byte behind them, so that the number is
-- never refused. Assumes nothing.
use Rattle.std.proofs.Common.{◌≡◌, ◌+◌, ◌≤◌, ◌∙◌, ap, sym, arith, length}
use Rattle.std.specs.Result.{is_ok}
use Rattle.digits.specs.Digits.{width_of}
use Rattle.digits.specs.Laws.{length_decimal}
use Rattle.record.specs.Stored.{stored, stored_byte, stored_both}
use Rattle.listing_text.specs.Columns.{all_ok, as_many}
use Rattle.listing_text.specs.Lengths.{length_column}
use Rattle.listing_text.specs.Text.{column}
use Rattle.listing_text.proofs.store_column.Goals as goal
use Rattle.listing_text.proofs.store_column.Goals.{After-unwrap, Start}

room : (c : goal.Start) → c.args.at + (width_of c.args.v + 1) ≤ length c.args.d.now
room c = rw (length_column c.args.v c.args.behind) at c.requires.fits

long : (c : goal.After-unwrap) → c.unwrap.result ≡ width_of c.args.v
long c = as_many _ _ _ _ (omega (arith, room (goal.at.After-unwrap c).Start)) c.put_decimal.ensures.0 _ c.unwrap.ensures

pub unwrap-requires : goal.unwrap-requires
unwrap-requires c = ap is_ok (all_ok _ _ _ _ (omega (arith, room (goal.at.unwrap-requires c).Start)) c.put_decimal.ensures.0)

pub overflow_add-end : goal.overflow_add-end
overflow_add-end c = omega (arith, long (goal.at.overflow_add-end c).After-unwrap, room (goal.at.overflow_add-end c).Start)

pub bounds-d-end : goal.bounds-d-end
bounds-d-end c = omega (arith, long (goal.at.bounds-d-end c).After-unwrap, room (goal.at.bounds-d-end c).Start)

pub overflow_add-result : goal.overflow_add-result
overflow_add-result c = omega (arith, long (goal.at.overflow_add-result c).After-unwrap, room (goal.at.overflow_add-result c).Start)

pub returns : goal.returns
unfolding column
returns c =
    let r = room (goal.at.returns c).Start in
    let l = long (goal.at.returns c).After-unwrap in
    stored_both (stored c.args.at c.unwrap.result _ _ _ (length_decimal _ _ ∙ sym l) (omega (arith, l, r)) c.put_decimal.ensures.1) (stored_byte _ _ _ (omega (arith, l, r)))
