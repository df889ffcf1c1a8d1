-- `drawn`: the run, and what it leaves is kept. Assumes nothing.
use native.Mathlib.Omega.{arith}
use Rattle.stream.specs.Pushed.{ran_inside, ran_pushed}
use Rattle.stream.proofs.drawn.Goals as goal

pub behind-requires : goal.behind-requires
behind-requires c =
    let s = c in
    (ran_inside s.args.st s.args.kept.now s.args.cut.now s.requires s.args.closing c.over-ran.result c.over-ran.ensures.0, omega (arith, s.requires.fits))

pub returns : goal.returns
returns c =
    let s = c in
    let o = c.over-ran in
    rw c.behind.ensures (ran_pushed s.args.st s.args.kept.now s.args.cut.now s.requires s.args.closing o.result o.ensures.0 _ _ _ o.ensures.1 c.keep_rest.ensures)
