-- The row's cell, and behind it dead and then due. Assumes nothing.
use Rattle.std.specs.Prelude.{Err}
use borrow.Author.Rules.{rules}
use mathlib.Core.Path.{◌≡◌, refl}
use mathlib.Core.Bool.{Bool}
use Rattle.session.specs.declared.Cell.{Cell}
use Rattle.session.specs.declared.Cell.TheVariants.{Does, Beats, Watches, Dies}
use Rattle.session.specs.Papers.{cell_word}
use Rattle.session_spec.specs.Calls.{resolved, cell_of}
use Rattle.session.proofs.Session.cell.Goals as goal

-- of a cell that is neither, dead and due are not asked
settled : (dead due : Bool) (cell : Cell) → (cell ≡ Beats → ⊥) → (cell ≡ Watches → ⊥) → cell_word cell ≡ resolved dead due (cell_word cell)
settled dead due (Does k s) b w = refl
settled dead due Beats b w = absurd (b refl)
settled dead due Watches b w = absurd (w refl)
settled dead due Dies b w = refl

pub returns-in_err-cell : goal.returns-in_err-cell
unfolding cell_of
returns-in_err-cell c =
    let r : c.from_residual.result ≡ Err c.in_err-cell.field-0.0 = search rules in
    rw (r, ← c.in_err-cell.ensures)

pub returns-in-Beats : goal.returns-in-Beats
unfolding cell_of
returns-in-Beats c = rw (← c.in_ok-cell.ensures, c.in-Beats.is, ← c.dead.ensures, c.if-dead.true)

pub returns-in-Beats-2 : goal.returns-in-Beats-2
unfolding cell_of
returns-in-Beats-2 c = rw (← c.in_ok-cell.ensures, c.in-Beats-2.is, ← c.dead.ensures, c.if-dead.false, ← c.due.ensures, c.if-due.true)

pub returns-in-Beats-3 : goal.returns-in-Beats-3
unfolding cell_of
returns-in-Beats-3 c = rw (← c.in_ok-cell.ensures, c.in-Beats-3.is, ← c.dead.ensures, c.if-dead.false, ← c.due.ensures, c.if-due.false)

pub returns-in-Watches : goal.returns-in-Watches
unfolding cell_of
returns-in-Watches c = rw (← c.in_ok-cell.ensures, c.in-Watches.is, ← c.dead-in-Watches-1.ensures, c.if-dead-2.true)

pub returns-in-Watches-2 : goal.returns-in-Watches-2
unfolding cell_of
returns-in-Watches-2 c = rw (← c.in_ok-cell.ensures, c.in-Watches-2.is, ← c.dead-in-Watches-1.ensures, c.if-dead-2.false)

pub returns-in_default : goal.returns-in_default
unfolding cell_of
returns-in_default c = rw (← c.in_ok-cell.ensures) (settled _ _ c.in_ok-cell.cell c.in_default.not-Beats c.in_default.not-Watches)
