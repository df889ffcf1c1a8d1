-- `drawn`: the run, and what it leaves is kept. Assumes nothing.
use native.Mathlib.Omega.{arith}
use Prim.Native.Nat.{◌+◌, ◌≤◌}
use lib.ListN.{length}
use Rattle.stream.specs.Standing.{Ready}
use Rattle.stream.specs.Pushed as Pushed
use Rattle.stream_clean.proofs.Stores as store
use Rattle.stream_clean.proofs.drawn.Goals as goal
use Rattle.stream_clean.proofs.drawn.Goals.{After-wash-ran, Start}

ready : (s : Start) → Ready s.args.st s.args.kept.now (length s.args.cut.now)
ready s = Pushed.may_ready _ _ _ s.told-kept s.requires.0

few : (s : Start) → s.args.st.len ≤ 8191
few s = omega (arith, s.told-kept, Pushed.few s.args.st s.args.kept.now s.args.cut.now (ready s))

inside : (c : After-wash-ran) → c.wash-ran.result.at ≤ c.args.st.len + length c.args.cut.now
inside c = store.ran_inside c.args.st c.args.kept.now c.args.cut.now (ready (goal.at.After-wash-ran c).Start) _ _ _ _ _ _ (c.wash-ran.ensures c.args.st.place)

pub shared_ref_as_front-wash : goal.shared_ref_as_front-wash
shared_ref_as_front-wash c = few (goal.at.shared_ref_as_front-wash c).Start

pub overflow_add-result : goal.overflow_add-result
overflow_add-result c = omega (arith, inside (goal.at.overflow_add-result c).After-wash-ran, (ready (goal.at.overflow_add-result c).Start).fits)

pub overflow_sub-result : goal.overflow_sub-result
overflow_sub-result c = inside (goal.at.overflow_sub-result c).After-wash-ran

pub returns : goal.returns
returns c =
    store.ran_done c.args.st c.args.kept.now c.args.cut.now (ready (goal.at.returns c).Start) _ _ _ _ _ _ (c.wash-ran.ensures c.args.st.place) _ c.keep_rest.ensures c.requires.1 c.requires.0
