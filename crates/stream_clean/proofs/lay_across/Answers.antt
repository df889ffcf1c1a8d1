-- `lay_across`: of no bytes, or without room, nothing is laid; else they lie in the first part, or
-- in both. Assumes nothing.
use native.Mathlib.Omega.{arith}
use Prim.Native.Nat.{◌+◌, ◌-◌}
use mathlib.Core.Path.{◌≡◌, sym, ◌∙◌}
use mathlib.Core.Bool.{true}
use lib.Dec.{leb}
use lib.ListN.{length}
use lib.Seq.{length-take-le}
use borrow.Author.Tests.{leb-true}
use Rattle.stream_clean.proofs.Across.{none_across, kept_across, first_across, both_across}
use Rattle.stream_clean.proofs.lay_across.Goals as goal
use Rattle.stream_clean.proofs.lay_across.Goals.{Else-not-has_room}

room : (c : Else-not-has_room) → leb (c.args.n + c.args.size) (length c.args.out.now) ≡ true
room c = sym c.has_room.ensures ∙ c.if-not-has_room.false

pub returns-then-size-eq0 : goal.returns-then-size-eq0
returns-then-size-eq0 c = let s = c.args in none_across s.a.now s.b.now s.out.now s.n s.size c.requires c.if-size-eq0.true

pub returns-then-not-has_room : goal.returns-then-not-has_room
returns-then-not-has_room c = let s = c.args in kept_across s.a.now s.b.now s.out.now s.n s.size c.requires (sym c.has_room.ensures ∙ c.if-not-has_room.true)

pub lay_both-requires : goal.lay_both-requires
lay_both-requires c = omega (arith, leb-true _ _ (room (goal.at.lay_both-requires c).Else-not-has_room), length-take-le c.args.size c.args.a.now c.if-size-a.true)

pub lay_both-requires-2 : goal.lay_both-requires-2
lay_both-requires-2 c = omega (arith, leb-true _ _ (room (goal.at.lay_both-requires-2 c).Else-not-has_room), length-take-le (c.args.size - length c.args.a.now) c.args.b.now (omega (arith, c.requires)), c.if-size-a.false)

pub returns-then-size-a : goal.returns-then-size-a
returns-then-size-a c = let s = c.args in first_across s.a.now s.b.now s.out.now s.n s.size c.requires _ (room (goal.at.returns-then-size-a c).Else-not-has_room) c.if-size-a.true c.lay_both.ensures

pub returns : goal.returns
returns c = let s = c.args in both_across s.a.now s.b.now s.out.now s.n s.size c.requires _ (room (goal.at.returns c).Else-not-has_room) (omega (arith, c.if-size-a.false)) c.lay_both-2.ensures
