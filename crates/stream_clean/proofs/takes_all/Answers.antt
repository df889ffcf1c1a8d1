-- `takes_all`: what is given is no longer than the bytes that wait and the cut; else the pass
-- counted it. Assumes nothing.
use native.Mathlib.Omega.{arith}
use mathlib.Core.Path.{◌≡◌, sym}
use lib.ListN.{length, take}
use Rattle.stream.specs.Pushed.{few, waiting_long}
use Rattle.stream_clean_spec.specs.CallLaws.{fits_roomy}
use Rattle.stream_clean.proofs.Stores as store
use Rattle.stream_clean.proofs.takes_all.Goals as goal
use Rattle.stream_clean.proofs.takes_all.Goals.{Start}

long : (s : goal.Start) → length (take s.args.st.len s.args.kept.now) ≡ s.args.st.len
long s = waiting_long s.args.st s.args.kept.now s.args.cut.now s.requires

pub returns-then-st-cut : goal.returns-then-st-cut
returns-then-st-cut c = fits_roomy _ _ _ _ c.if-st-cut.true

pub shared_ref_as_front-wash : goal.shared_ref_as_front-wash
shared_ref_as_front-wash c = omega (arith, c.told-kept, few c.args.st c.args.kept.now c.args.cut.now c.requires)

pub slice_bounds-wash-end : goal.slice_bounds-wash-end
slice_bounds-wash-end c = sym (long (goal.at.slice_bounds-wash-end c).Start)

pub returns : goal.returns
returns c =
    let s = c in
    store.ran_counted s.args.st s.args.kept.now s.args.cut.now s.requires _ _ _ _ _ _ (c.wash-counted.ensures s.args.st.place) _
