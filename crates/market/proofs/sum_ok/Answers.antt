-- `sum_ok`: what the three digits say, compared. Assumes nothing.
use mathlib.Core.Path.{ap, ◌∙◌}
use Prim.Native.Nat.{ℕ, ◌+◌}
use mathlib.Core.List.{[], ◌∷◌}
use Rattle.terms.specs.Paper.{Paper}
use Rattle.digits.specs.Digits.{digits_at}
use Rattle.market_columns.specs.Columns.{alike}
use Rattle.market.proofs.Tests.{summed}
use Rattle.market.proofs.sum_ok.Goals as goal

pub returns : goal.returns
returns c =
    let a = c.args in
    c.eq.ensures ∙ summed c.from.result c.digits_at.result
    ∙ ap (λ (p : Paper). alike p.values (c.from.result ∷ [])) c.digits_at.ensures
    ∙ ap (λ (n : ℕ). alike (digits_at (a.at + 8) 3 a.s.now).values (n ∷ [])) (c.from.ensures ∙ c.sum.ensures)
