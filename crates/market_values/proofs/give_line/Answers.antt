-- `give_line`: by the column at hand. Assumes nothing.
use Prim.Native.Nat.{◌+◌, ◌≤◌, ◌<◌, ◌^◌}
use borrow.Author.Rules.{rules}
use native.Mathlib.Omega.{arith}
use native.Mathlib.Nat.{add_assoc}
use mathlib.Core.Path.{◌≡◌, ap, ◌∙◌}
use lib.ListN.{length, take, drop}
use Rattle.octets.specs.Overlays.{length_laid, laid_none}
use Rattle.market_columns.specs.Columns.{columns, row_of, wide}
use Rattle.market_columns.specs.Values.{value_in}
use Rattle.market_spec.specs.ValueBytes.{value_bytes, size_of}
use Rattle.market_spec.specs.TakenBack.{sizes_of}
use Rattle.market_values.specs.Giving.{RightNext, right_next, given_long, sizes_next, bytes_none, given_laid}
use Rattle.market_values.proofs.give_line.Goals as goal
use Rattle.market_values.proofs.give_line.Goals.{In-loop-i, After-size-a}

next : (c : goal.In-loop-i) → RightNext c.loop-i.i c.args.rows.last c.loop-i.p c.args.s.now
next c = right_next c.loop-i.i c.args.rows.last c.loop-i.p c.args.s.now c.loop-i-test.true c.args.rows.within c.loop-i.invariant.1.1.0

roomy : (c : goal.In-loop-i) → c.loop-i.a + size_of (row_of c.loop-i.i) + sizes_of (columns (c.loop-i.i + 1) c.args.rows.last) ≤ length c.args.out.now
roomy c = omega (arith, c.loop-i.invariant.1.0, sizes_next c.loop-i.i c.args.rows.last c.loop-i-test.true c.args.rows.within)

small : (c : goal.In-loop-i) → (length c.args.out.now < 2 ^ 63) × (length c.args.s.now < 2 ^ 63)
small c = (search rules, search rules)

kept : (c : goal.After-size-a) → length c.give_column.new.out ≡ length c.args.out.now
kept c =
    let l = c.loop-i in
    let a = c.args in
    let q = (goal.at.overflow_add-a c).In-loop-i in
    ap length c.give_column.ensures
    ∙ length_laid l.a (value_bytes (value_in (row_of l.i) (take (wide (row_of l.i)) (drop l.p a.s.now)))) l.out (rw (given_long l.i a.rows.last l.p a.s.now (next q)) (omega (arith, roomy q, l.invariant.0)))
    ∙ l.invariant.0

pub give_column-requires : goal.give_column-requires
give_column-requires c = let q = (goal.at.give_column-requires c).In-loop-i in (omega (arith, roomy q, c.loop-i.invariant.0), (omega (arith, (next q).room), (next q).right))

pub overflow_add-a : goal.overflow_add-a
overflow_add-a c = let q = (goal.at.overflow_add-a c).In-loop-i in record { fits = omega (arith, c.size-a.ensures, roomy q, (small q).0) }

pub overflow_add-p-in-loop-i : goal.overflow_add-p-in-loop-i
overflow_add-p-in-loop-i c = let q = (goal.at.overflow_add-p-in-loop-i c).In-loop-i in record { fits = omega (arith, c.column.ensures.0.width_is, (next q).room, (small q).1) }

pub loop-i-preserved : goal.loop-i-preserved
loop-i-preserved c =
    let l = c.loop-i in
    let a = c.args in
    let g = goal.at.loop-i-preserved c in
    let q = g.In-loop-i in (
      kept g.After-size-a,
      (
        rw c.size-a.ensures (roomy q),
        (
          rw (c.column.ensures.0.width_is, ← add_assoc l.p (wide (row_of l.i)) 1) (next q).onward,
          rw (c.column.ensures.0.width_is, c.size-a.ensures, ← add_assoc l.p (wide (row_of l.i)) 1)
              (given_laid l.i a.rows.last l.p l.a a.s.now l.out c.give_column.new.out _ c.loop-i-test.true c.args.rows.within (next q) (omega (arith, roomy q, l.invariant.0)) c.give_column.ensures l.invariant.1.1.1),
        ),
      ),
    )

pub returns : goal.returns
returns c = let l = c.loop-i in let a = c.args in laid_none l.a _ l.out _ (bytes_none l.i a.rows.last l.p a.s.now c.loop-i-test.false) l.invariant.1.1.1
