-- `tail`: a body too short has no span; else each arm knows the layout, whose spans it lists.
-- Assumes nothing.
use native.Mathlib.Omega.{arith}
use Prim.Native.Nat.{ℕ, ◌<◌, ◌≤◌}
use mathlib.Core.Path.{◌≡◌, sym}
use mathlib.Core.Bool.{false}
use mathlib.Core.List.{List}
use borrow.Author.Tests.{le-leb, lt-leb}
use lib.ListN.{length}
use Rattle.rules.specs.declared.Kind.TheVariants.{M201}
use Rattle.rules.specs.declared.Layout.{Layout}
use Rattle.rules.specs.declared.Layout.TheVariants.{Order, Trade, Other}
use Rattle.rules.specs.Table.{suits}
use Rattle.private.specs.Private.{tail_of, tail_spans}
use Rattle.private.specs.Parts.{suited_spans}
use Rattle.private.specs.PartsLaws.{suited_is, suited_none}
use Rattle.private.proofs.tail.Goals as goal

short-not : (b : List ℕ) → length b < 45 → suits M201 (length b) ≡ false
unfolding suits
short-not b h = lt-leb 45 (length b) h

-- the spans of a layout are those of a body that is laid out so
listed : (l : Layout) (b : List ℕ) → 45 ≤ length b → l ≡ tail_of b → tail_spans l (length b) ≡ suited_spans M201 b
unfolding suits
listed l b h e = rw e (sym (suited_is M201 b (le-leb 45 (length b) h)))

pub returns-then-body-lt45 : goal.returns-then-body-lt45
returns-then-body-lt45 c = let b = c.args.body.now in sym (suited_none M201 b (short-not b (omega arith)))

pub returns-in-Order : goal.returns-in-Order
returns-in-Order c = rw (c.spaces_at.ensures, c.spaces_at-in-Order.ensures, c.spaces_at-in-Order-2.ensures) (listed Order c.args.body.now (omega arith) c.in-Order.ensures)

pub returns-in-Trade : goal.returns-in-Trade
returns-in-Trade c = listed Trade c.args.body.now (omega arith) c.in-Trade.ensures

pub returns-in-Other : goal.returns-in-Other
returns-in-Other c = rw c.spaces_at-in-Other.ensures (listed Other c.args.body.now (omega arith) c.in-Other.ensures)
