use Prim.Native.Nat.{◌+◌, ◌≤◌}
use native.Mathlib.Omega.{arith}
use mathlib.Core.Path.{◌≡◌, sym, ap, ◌∙◌}
use lib.ListN.{length, drop, set, length-set}
use Rattle.octets.specs.Octets.{laid}
use Rattle.octets.specs.Overlays.{length_laid, laid_none}
use Rattle.market_columns.specs.Columns.{columns, row_of}
use Rattle.market_columns.specs.Tables.{length_of}
use Rattle.market_spec.specs.LineValues.{line_text}
use Rattle.market_columns.specs.Values.{text_of}
use Rattle.market_values.specs.Steps.{long_text}
use Rattle.market_spec.specs.ValueBytes.{taken_of, taken_line, Fitting, all_next, length_next, line_laid, line_none}
use Rattle.market_values.proofs.put_line.Goals as goal
use Rattle.market_values.proofs.put_line.Goals.{After-column, After-put_column, After-size-p}

-- the column at hand: its value fits, and the buffer has room for the rest of the line
next : (k : goal.After-column) → let l = k.loop-i in let a = k.args in Fitting l.i a.rows.last l.p a.s.now
next k = let l = k.loop-i in let a = k.args in all_next l.i a.rows.last l.p a.s.now k.loop-i-test.true a.rows.within l.invariant.1.1.0

roomy : (k : goal.After-column) → let l = k.loop-i in let a = k.args in l.a + k.column.result.width + 1 + length_of (columns (l.i + 1) a.rows.last) ≤ length a.out.now
roomy k =
    let l = k.loop-i in
    let a = k.args in
    rw k.column.ensures.0.width_is (omega (arith, l.invariant.1.0, length_next l.i a.rows.last k.loop-i-test.true a.rows.within))

kept : (g : goal.After-put_column) → let l = g.loop-i in let a = g.args in Fitting l.i a.rows.last l.p a.s.now → l.a + g.column.result.width + 1 + length_of (columns (l.i + 1) a.rows.last) ≤ length a.out.now → length g.put_column.new.out ≡ length a.out.now
kept g n r =
    let l = g.loop-i in
    let a = g.args in
    ap length g.put_column.ensures
    ∙ length_laid l.a (text_of (row_of l.i) (taken_of (row_of l.i) (drop l.p a.s.now))) l.out (rw (long_text l.i l.p a.s.now _ _ _ _ g.column.ensures.0 n.fitting) (omega (arith, r, l.invariant.0)))
    ∙ l.invariant.0

again : (c : goal.After-size-p) → let l = c.loop-i in let a = c.args in Fitting l.i a.rows.last l.p a.s.now → l.a + c.column.result.width + 1 + length_of (columns (l.i + 1) a.rows.last) ≤ length a.out.now →
    laid (l.a + c.column.result.width + 1) (line_text (columns (l.i + 1) a.rows.last) (taken_line (columns (l.i + 1) a.rows.last) (drop (l.p + c.size-p.result) a.s.now))) (set c.put_column.new.out (l.a + c.column.result.width) c.due.result) ≡ laid a.at (line_text (columns a.rows.first a.rows.last) (taken_line (columns a.rows.first a.rows.last) (drop a.from a.s.now))) a.out.now
again c n r =
    let l = c.loop-i in
    let a = c.args in
    rw (c.column.ensures.0.width_is, c.size-p.ensures, c.due.ensures)
    (line_laid l.i a.rows.last l.p l.a a.s.now l.out c.put_column.new.out _ c.loop-i-test.true a.rows.within n (rw (sym c.column.ensures.0.width_is) (omega (arith, r, l.invariant.0))) c.put_column.ensures l.invariant.1.1.1)

pub put_column-requires : goal.put_column-requires
put_column-requires c = let k = c in (rw (sym k.column.ensures.0.width_is) (omega (arith, roomy (goal.at.put_column-requires c).After-column, k.loop-i.invariant.0)), ((next (goal.at.put_column-requires c).After-column).whole, (next (goal.at.put_column-requires c).After-column).fitting))

pub bounds-out-e : goal.bounds-out-e
bounds-out-e c =
    let q = goal.at.bounds-out-e c in
    let r = roomy q.After-column in
    omega (arith, kept q.After-put_column (next q.After-column) r, r)

pub overflow_add-p : goal.overflow_add-p
overflow_add-p c = let k = c in record { fits = omega (arith, c.size-p.ensures, (next (goal.at.overflow_add-p c).After-column).whole) }

pub loop-i-preserved : goal.loop-i-preserved
loop-i-preserved c =
    let l = c.loop-i in
    let q = goal.at.loop-i-preserved c in
    let n = next q.After-column in
    let r = roomy q.After-column in (
      length-set c.put_column.new.out (l.a + c.column.result.width) c.due.result ∙ kept q.After-put_column n r,
      (r, (rw c.size-p.ensures n.onward, again q.After-size-p n r)),
    )

pub returns : goal.returns
returns c = let l = c.loop-i in let a = c.args in laid_none l.a _ l.out _ (line_none l.i a.rows.last l.p a.s.now c.loop-i-test.false) l.invariant.1.1.1
