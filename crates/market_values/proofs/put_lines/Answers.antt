-- `put_lines`: by the line at hand. Assumes nothing.
use Prim.Native.Nat.{◌+◌}
use mathlib.Core.Path.{◌≡◌, refl, sym, ap, ◌∙◌}
use mathlib.Core.List.{List}
use lib.ListN.{drop}
use Rattle.octets.specs.Octets.{be, laid}
use Rattle.market.specs.Starts.{line_number}
use Rattle.market_columns.specs.Columns.{Column, columns}
use Rattle.market_spec.specs.File.{layout_of}
use Rattle.market_spec.specs.LineValues.{line_text}
use Rattle.market_spec.specs.ValueBytes.{taken_line}
use Rattle.market_spec.specs.FileBytes.{type_of}
use Rattle.market_values.specs.Writing.{put_first, put_end, put_some, put_room, put_fits, put_kept, put_next}
use Rattle.market_values.proofs.put_lines.Goals as goal
use Rattle.market_values.proofs.put_lines.Goals.{After-rows, After-put_line}

typed : (c : goal.After-rows) → line_number c.in-Some.line ≡ type_of (be 2 c.loop-p.p c.args.s.now)
typed c = c.in-Some.ensures ∙ ap type_of c.at.ensures

rows : (c : goal.After-rows) → columns c.rows.result.first c.rows.result.last ≡ layout_of (type_of (be 2 c.loop-p.p c.args.s.now))
rows c = c.rows.ensures.0 ∙ ap layout_of (typed c)

line : (c : goal.After-put_line) → let l = c.loop-p in let cs = layout_of (type_of (be 2 l.p c.args.s.now)) in columns c.rows.result.first c.rows.result.last ≡ cs → c.put_line.new.out ≡ laid l.a (line_text cs (taken_line cs (drop (l.p + 2) c.args.s.now))) l.out
line c r = c.put_line.ensures ∙ ap (λ (cs : List Column). laid c.loop-p.a (line_text cs (taken_line cs (drop (c.loop-p.p + 2) c.args.s.now))) c.loop-p.out) r

pub loop-p-init : goal.loop-p-init
loop-p-init c = (refl, put_first _ _ c.requires.0 c.requires.1)

pub returns-in_default : goal.returns-in_default
returns-in_default c = let l = c.loop-p in absurd (put_some _ l.p l.a l.out _ l.invariant.1 c.loop-p-test.true (sym (c.in_default.ensures ∙ ap type_of c.at.ensures)))

pub put_line-requires : goal.put_line-requires
put_line-requires c = let l = c.loop-p in let s = c.args.s.now in (rw (rows c) (put_room s l.p l.a l.out _ l.invariant.1 c.loop-p-test.true), rw (rows c) (put_fits s l.p l.a l.out _ l.invariant.1 c.loop-p-test.true))

pub loop-p-preserved : goal.loop-p-preserved
loop-p-preserved c =
    let l = c.loop-p in
    let s = c.args.s.now in
    let g = goal.at.loop-p-preserved c in
    let q = g.After-rows in
    let k = line g.After-put_line (rows q) in (
      put_kept s l.p l.a l.out _ l.invariant.1 c.loop-p-test.true c.put_line.new.out k ∙ l.invariant.0,
      rw (c.line_sizes-sizes.ensures.1.0, c.line_sizes-sizes.ensures.0.0, typed q) (put_next s l.p l.a l.out _ l.invariant.1 c.loop-p-test.true c.put_line.new.out k),
    )

pub returns : goal.returns
returns c = let l = c.loop-p in put_end _ l.p l.a l.out _ l.invariant.1 c.loop-p-test.false
