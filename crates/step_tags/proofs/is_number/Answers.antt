-- `is_number`: a number has a value, none has none. Assumes nothing.
use Rattle.step_tags.specs.Forms.{some, is_number}
use Rattle.digits.specs.Digits.{decimal_paper}
use Rattle.terms.specs.Paper.{Paper}
use Rattle.std.specs.Prelude.{ℕ, Option, Some, None, is_some}
use mathlib.Core.Path.{◌≡◌, refl, ap, ◌∙◌}
use Rattle.step_tags.proofs.is_number.Goals as goal

there : (r : Option ℕ) → is_some r ≡ some (decimal_paper r).values
unfolding some
there (Some x) = refl
there None = refl

pub returns : goal.returns
unfolding is_number
returns c = rw (c.is_some.ensures ∙ there c.decimal_at.result ∙ ap (λ (p : Paper). some p.values) c.decimal_at.ensures)
