-- `put_head`: the count and the header's own values as one row of values, and that row written.
-- Assumes nothing.
use mathlib.Core.Path.{◌≡◌, ap, ◌∙◌}
use mathlib.Core.List.{List}
use Prim.Native.Nat.{ℕ}
use Rattle.octets.specs.Octets.{laid}
use Rattle.market_columns.specs.Columns.{header}
use Rattle.market_columns.specs.Values.{Value}
use Rattle.market_spec.specs.LineValues.{line_text}
use Rattle.market_spec.specs.ValueBytes.{taken_line}
use Rattle.market_values.specs.Writing.{head_bytes, head_laid, head_taken, head_all_fit}
use Rattle.market_values.proofs.put_head.Goals as goal
use Rattle.market_values.proofs.put_head.Goals.{After-lay}

-- the row of values
row : (y : goal.After-lay) → let a = y.args in y.lay.new.d ≡ head_bytes a.k a.s.now
row y =
    let u = y in
    let a = u.args in
    head_laid a.s.now a.k u.requires.0 u.put.new.d y.lay.new.d u.put.ensures.1 y.lay.ensures.1

pub put_line-requires : goal.put_line-requires
put_line-requires c =
    let y = c in
    let b = y in
    (b.requires.1, rw (row (goal.at.put_line-requires c).After-lay) (head_all_fit b.args.s.now b.args.k b.requires.0))

pub returns : goal.returns
returns c =
    let y = c in
    let b = y in
    c.put_line.ensures
    ∙ ap (λ (h : List ℕ). laid 0 (line_text header (taken_line header h)) b.args.out.now) (row (goal.at.returns c).After-lay)
    ∙ ap (λ (vs : List Value). laid 0 (line_text header vs) b.args.out.now) (head_taken b.args.s.now b.args.k b.requires.0)
