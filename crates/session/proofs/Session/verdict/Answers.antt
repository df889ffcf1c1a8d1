-- Each check in its order. Assumes nothing.
use mathlib.Core.Path.{◌≡◌, refl, sym, ap, ◌∙◌}
use mathlib.Core.Bool.{true, false}
use Prim.Native.Nat.{ℕ}
use lib.Dec.{eqb}
use borrow.Author.Tests.{eqb-true}
use Rattle.std.specs.Prelude.{Result, Ok, Err}
use Rattle.terms.specs.declared.Refusal.{Refusal}
use Rattle.session_spec.specs.Table as table
use Rattle.session_spec.specs.Calls.{Line, cell_of, number_in, own_number}
use Rattle.session_spec.proofs.Outcome.{own_ended}
use Rattle.session.specs.declared.Cell.{Cell}
use Rattle.session.specs.declared.Cell.TheVariants.{Does, Beats, Watches, Dies}
use Rattle.session.specs.Papers.{cell_word, table_cell, Judged}
use Rattle.session.proofs.Session.verdict.Goals as goal

no_number : (cell : Cell) → 0 ≡ number_in (cell_word cell)
no_number (Does k s) = refl
no_number Beats = refl
no_number Watches = refl
no_number Dies = refl

-- the call's own cell, where its number stands
judged : (r : Result Cell Refusal) (l : Line) (t : ℕ) (e : table.Event) → table_cell r ≡ cell_of l t e → number_in (table_cell r) ≡ own_number l t e (table_cell r) → Judged r l t e
judged (Ok cell) l t e x h = (x, no_number cell ∙ h ∙ ap (own_number l t e) x)
judged (Err why) l t e x h = h ∙ ap (own_number l t e) x

early : (l : Line) (t : ℕ) (e : table.Event) (cell : table.Cell) → eqb (number_in cell) 30 ≡ true → number_in cell ≡ own_number l t e cell
unfolding own_number
early l t e cell h = rw h (eqb-true (number_in cell) 30 h)

pub returns-then-is_early : goal.returns-then-is_early
returns-then-is_early c = judged _ _ _ _ c.cell-cell.ensures (early _ _ _ _ (sym c.is_early.ensures ∙ c.if-is_early.true))

pub returns-then-misnumbered : goal.returns-then-misnumbered
unfolding own_number
returns-then-misnumbered c = rw (← c.cell-cell.ensures, ← c.is_early.ensures, c.if-is_early.false, ← c.misnumbered.ensures, c.if-misnumbered.true)

pub returns-then-ended : goal.returns-then-ended
returns-then-ended c =
    rw (← c.cell-cell.ensures)
    (sym (own_ended _ _ _ _ _ c.kind_in.ensures (sym c.is_early.ensures ∙ c.if-is_early.false) (sym c.misnumbered.ensures ∙ c.if-misnumbered.false) true (sym c.if-ended.true ∙ c.ended.ensures)))

pub returns : goal.returns
returns c =
    judged _ _ _ _ c.cell-cell.ensures
    (sym (own_ended _ _ _ _ _ c.kind_in.ensures (sym c.is_early.ensures ∙ c.if-is_early.false) (sym c.misnumbered.ensures ∙ c.if-misnumbered.false) false (sym c.if-ended.false ∙ c.ended.ensures)))
