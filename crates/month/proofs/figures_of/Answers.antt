use Rattle.std.proofs.Common.{ℕ, List, rules, ◌≡◌, ◌+◌, ◌*◌, ◌/◌, ◌%◌, ap, ◌∙◌, arith, get_or}
use Rattle.month.specs.declared.Row.{Row}
use Rattle.month.specs.Rows.{no_row, row_numbers, row_figures}
use Rattle.month.proofs.Fill.{fill_start, fill_step, fill_left, zero_at, zeros_long, any_default}
use Rattle.month.proofs.figures_of.Goals as goal

pub loop-j-init : goal.loop-j-init
loop-j-init c = fill_start _ _ _ (zeros_long 192) (zero_at 192)

pub loop-i-preserved : goal.loop-i-preserved
loop-i-preserved c =
    let j = c.loop-j.j in
    let i = c.loop-i.i in
    let k : 6 * j + i + 1 ≡ 6 * j + (i + 1) = omega arith in
    let row : (6 * j + i) / 6 ≡ j = omega arith in
    let place : (6 * j + i) % 6 ≡ i = omega arith in
    rw k at (fill_step _ _ _ _ _ c.loop-i.invariant (omega arith)
    (ap (λ (l : List ℕ). get_or l i 0) c.figures-six.ensures
    ∙ ap (λ (r : Row). get_or (row_numbers r) i 0) (any_default c.args.rows.now j _ no_row (search rules))
    ∙ rw (row, place)))

pub returns : goal.returns
unfolding row_figures
returns c = fill_left _ _ _ _ _ c.loop-j.invariant (omega arith) (omega arith)
