-- The search ends where no higher place is open, at the first one of the channel, or after all.
-- Assumes nothing.
use mathlib.Core.Path.{◌≡◌, sym, ap, ◌∙◌}
use mathlib.Core.Bool.{Bool, true, ◌&&◌}
use Prim.Native.Nat.{ℕ, ◌/◌, ◌^◌}
use native.Mathlib.Omega.{arith}
use lib.Bits.{and_mask}
use lib.Dec.{eqb, leb}
use lib.ListN.{get_or}
use borrow.Author.Rules.{rules}
use borrow.Author.Tests.{le-leb}
use Rattle.channels_spec.proofs.Least.{least_at, least_all}
use Rattle.channels.specs.Index.{open_for, place_from}
use Rattle.channels.proofs.Turns.{place_none}
use Rattle.channels.proofs.place_from.Goals as goal

pub returns-then-used-at-eq0 : goal.returns-then-used-at-eq0
returns-then-used-at-eq0 c =
    let a = c.args in
    (sym (place_none a.channels.now a.used a.channel a.from c.loop-at.at c.loop-at.invariant c.if-used-at-eq0.true), search rules)

pub returns-then-channels-at : goal.returns-then-channels-at
unfolding place_from
returns-then-channels-at c =
    let a = c.args in
    let at = c.loop-at.at in
    let e : open_for a.channels.now a.used a.channel at ≡ true = ap (λ (d : ℕ). eqb (get_or a.channels.now at 0) a.channel && eqb d 1) (sym (and_mask (a.used / 2 ^ at) 1)) ∙ c.if-channels-at.true in
    let g : leb a.from at && open_for a.channels.now a.used a.channel at ≡ true = ap (λ (x : Bool). x && open_for a.channels.now a.used a.channel at) (le-leb _ _ c.loop-at.auto.at) ∙ e in
    (sym (least_at (λ j. leb a.from j && open_for a.channels.now a.used a.channel j) 32 at (omega arith) g c.loop-at.invariant), omega arith)

pub returns : goal.returns
unfolding place_from
returns c =
    let a = c.args in
    (sym (least_all (λ j. leb a.from j && open_for a.channels.now a.used a.channel j) 32 (λ j h. c.loop-at.invariant j (omega arith))), search rules)
