-- `call`: what goes before the room, and then the room. Assumes nothing.
use mathlib.Core.Path.{refl, sym, ◌∙◌}
use lib.ListN.{length}
use Rattle.terms.specs.declared.Refusal.TheVariants.{Room}
use Rattle.stream_spec.specs.CallLaws.{number_refused, room_8, room_0, refused_call}
use Rattle.stream.specs.Standing.{Ready}
use Rattle.stream.specs.Pushed.{may_ready, done_call}
use Rattle.stream.proofs.call.Goals as goal
use Rattle.stream.proofs.call.Goals.{In_default}

ready : (c : In_default) → Ready c.args.st c.args.kept.now (length c.args.cut.now)
ready c = may_ready _ _ _ c.told-kept (sym c.in_default.ensures)

pub returns-in-Err : goal.returns-in-Err
returns-in-Err c = refused_call _ _ _ _ _ c.in-Err.why refl (number_refused _ _ _ _ c.in-Err.why c.in-Err.ensures)

pub takes_all-requires : goal.takes_all-requires
takes_all-requires c = ready (goal.at.takes_all-requires c).In_default

pub returns-then-not-takes_all : goal.returns-then-not-takes_all
returns-then-not-takes_all c = refused_call _ _ _ _ _ Room refl (room_8 _ _ _ _ (sym c.in_default.ensures) (sym c.takes_all.ensures ∙ c.if-not-takes_all.true))

pub drawn-requires : goal.drawn-requires
drawn-requires c = ready (goal.at.drawn-requires c).In_default

pub returns : goal.returns
returns c =
    let f = sym c.takes_all.ensures ∙ c.if-not-takes_all.false in
    done_call _ _ _ _ _ _ c.drawn.ensures f (room_0 _ _ _ _ (sym c.in_default.ensures) f)
