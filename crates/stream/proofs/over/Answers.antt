-- `over`: a run over the two parts. Assumes nothing.
use mathlib.Core.Path.{refl, sym}
use native.Mathlib.Omega.{arith}
use Rattle.stream_spec.specs.Window.{given_written}
use Rattle.stream.specs.Standing.{whole}
use Rattle.stream.specs.Pushed.{few, waiting_long, waiting_is, ready_run}
use Rattle.stream.proofs.over.Goals as goal

pub slice_bounds-run-end : goal.slice_bounds-run-end
slice_bounds-run-end c = let s = c in sym (waiting_long s.args.st s.args.kept.now s.args.cut.now s.requires)

pub shared_ref_as_front-run : goal.shared_ref_as_front-run
shared_ref_as_front-run c = omega (arith, c.told-kept, few c.args.st c.args.kept.now c.args.cut.now c.requires)

pub run-requires : goal.run-requires
run-requires c = let s = c in ready_run s.args.st s.args.kept.now s.args.cut.now s.requires

pub returns : goal.returns
returns c =
    let s = c in
    let e = rw (waiting_is s.args.st s.args.kept.now s.args.cut.now s.requires) at c.run.ensures in
    (e.0, given_written (whole s.args.st s.args.kept.now) s.args.closing s.args.cut.now _ refl 0 _ _ e.1)
