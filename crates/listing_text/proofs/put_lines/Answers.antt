-- `put_lines`: without room nothing is written; with room all lines are laid. Assumes nothing.
use mathlib.Core.Path.{sym, ◌∙◌}
use native.Mathlib.Nat.{add-zero}
use Rattle.listing_text.specs.Answered.{front_lacks, front_laid}
use Rattle.listing_text.proofs.put_lines.Goals as goal

pub returns-then-not-takes : goal.returns-then-not-takes
returns-then-not-takes c = front_lacks _ _ (sym (rw add-zero at c.takes.ensures) ∙ c.if-not-takes.true)

pub returns : goal.returns
returns c = front_laid _ _ c.store_lines.ensures
