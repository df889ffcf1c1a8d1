-- One byte more. Assumes nothing.
use Rattle.std.proofs.Common.{sym, arith}
use Rattle.octets.specs.Overlays.{laid_nil}
use Rattle.stream.specs.StoreLaws.{down_more}
use Rattle.stream.proofs.down.Goals as goal

pub loop-i-init : goal.loop-i-init
loop-i-init c = sym (laid_nil 0 _)

pub loop-i-preserved : goal.loop-i-preserved
loop-i-preserved c = let l = c.loop-i in down_more c.args.a c.args.m l.i c.args.w.now l.w (omega arith) (omega arith) l.invariant
