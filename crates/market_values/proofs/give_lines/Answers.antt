-- `give_lines`: by the line at hand. Assumes nothing.
use Prim.Native.Nat.{◌+◌, ◌≤◌}
use native.Mathlib.Omega.{arith}
use mathlib.Core.Path.{◌≡◌, refl, ap, ◌∙◌}
use mathlib.Core.List.{List}
use lib.ListN.{length, drop}
use Rattle.octets.specs.Octets.{laid, bytes_of}
use Rattle.octets.specs.Papers.{laid_if_room}
use Rattle.market.specs.Starts.{line_number, line_most}
use Rattle.market_columns.specs.Columns.{Column, columns}
use Rattle.market_spec.specs.File.{type_at, layout_of}
use Rattle.market_spec.specs.Files.{layout_some}
use Rattle.market_spec.specs.LineValues.{line_values}
use Rattle.market_spec.specs.ValueBytes.{row_bytes}
use Rattle.market_spec.specs.Sound.{values_of}
use Rattle.market_spec.specs.FileBytes.{type_number, lines_bytes}
use Rattle.market_values.specs.Giving.{GiveLeft, lines_stop, give_first, give_end, give_room, give_right, give_kept_1, give_kept, give_next}
use Rattle.market_values.proofs.give_lines.Goals as goal
use Rattle.market_values.proofs.give_lines.Goals.{After-rows, After-line_sizes-sizes}

stands : (c : goal.After-rows) → type_at c.loop-line.p c.args.s.now ≤ 4
stands c = omega (arith, c.in-Line.ensures, line_most c.in-Line.line)

rows : (c : goal.After-rows) → columns c.rows.result.first c.rows.result.last ≡ layout_of (type_at c.loop-line.p c.args.s.now)
rows c = c.rows.ensures.0 ∙ ap layout_of c.in-Line.ensures

typed : (c : goal.After-rows) → c.put.new.d ≡ laid_if_room c.loop-line.a (bytes_of 2 (type_number (type_at c.loop-line.p c.args.s.now))) c.loop-line.out
typed c = rw (c.type_number.ensures, c.in-Line.ensures) at c.put.ensures.1

given : (c : goal.After-line_sizes-sizes) → let l = c.loop-line in let cs = layout_of (type_at l.p c.args.s.now) in columns c.rows.result.first c.rows.result.last ≡ cs → c.give_line.new.out ≡ laid (l.a + 2) (row_bytes (line_values cs (drop l.p c.args.s.now))) c.put.new.d
given c r = c.give_line.ensures ∙ ap (λ (cs : List Column). laid (c.loop-line.a + 2) (row_bytes (line_values cs (drop c.loop-line.p c.args.s.now))) c.put.new.d) r

next : (c : goal.After-line_sizes-sizes) → let l = c.loop-line in let t = type_at l.p c.args.s.now in t ≤ 4 → c.put.new.d ≡ laid_if_room l.a (bytes_of 2 (type_number t)) l.out → columns c.rows.result.first c.rows.result.last ≡ layout_of t →
    GiveLeft c.args.s.now (l.p + c.line_sizes-sizes.result.bytes) (l.a + c.line_sizes-sizes.result.values) c.give_line.new.out (laid 38 (lines_bytes (values_of c.args.s.now).lines) c.args.out.now)
next c h t r =
    let l = c.loop-line in
    rw (c.line_sizes-sizes.ensures.0.0, c.line_sizes-sizes.ensures.1.0, c.in-Line.ensures) (give_next c.args.s.now l.p l.a l.out _ l.invariant.1 h c.put.new.d c.give_line.new.out t (given c r))

pub loop-line-init : goal.loop-line-init
loop-line-init c = (refl, give_first _ _ c.requires.0 c.requires.1)

pub give_line-requires : goal.give_line-requires
give_line-requires c =
    let l = c.loop-line in
    let s = c.args.s.now in
    let k : length c.put.new.d ≡ length l.out = give_kept_1 s l.p l.a l.out _ l.invariant.1 (stands c) c.put.new.d _ (typed c) refl in
    (rw (rows c, k) (omega (arith, give_room s l.p l.a l.out _ l.invariant.1 (stands c))), rw (rows c) (give_right s l.p l.a l.out _ l.invariant.1 (stands c)))

pub loop-line-smaller : goal.loop-line-smaller
loop-line-smaller c =
    let g = goal.at.loop-line-smaller c in
    let q = g.After-rows in
    omega (arith, (next g.After-line_sizes-sizes (stands q) (typed q) (rows q)).stand.inside, rw (← c.line_sizes-sizes.ensures.0.0) at (layout_some (line_number c.in-Line.line)))

pub loop-line-preserved : goal.loop-line-preserved
loop-line-preserved c =
    let l = c.loop-line in
    let g = goal.at.loop-line-preserved c in
    let k = g.After-line_sizes-sizes in
    let q = g.After-rows in
    (give_kept c.args.s.now l.p l.a l.out _ l.invariant.1 (stands q) c.put.new.d c.give_line.new.out (typed q) (given k (rows q)) ∙ l.invariant.0, next k (stands q) (typed q) (rows q))

pub returns : goal.returns
returns c = let l = c.loop-line in give_end _ l.p l.a l.out _ l.invariant.1 (lines_stop _ l.p _ l.invariant.1.stand c.line_type.result c.line_type.ensures c.in_default.not-Line)
