-- `count_ok`: what the header's column says, compared. Assumes nothing.
use mathlib.Core.Path.{refl, ap, ◌∙◌}
use Prim.Native.Nat.{ℕ}
use mathlib.Core.List.{[], ◌∷◌}
use Rattle.terms.specs.Paper.{Paper}
use Rattle.market_columns.specs.Numbers.{number_at}
use Rattle.market_columns.specs.Columns.{alike}
use Rattle.market.proofs.Tests.{counted}
use Rattle.market.proofs.count_ok.Goals as goal

pub returns : goal.returns
returns c =
    let a = c.args in
    c.eq.ensures ∙ counted _ (λ m v k. refl) a.k c.number_at.result
    ∙ ap (λ (p : Paper). alike p.values (0 ∷ a.k ∷ [])) (c.number_at.ensures ∙ ap (λ (w : ℕ). number_at 27 w c.column.result.decimals a.s.now) c.column.ensures.0.width_is ∙ ap (λ (d : ℕ). number_at 27 5 d a.s.now) c.column.ensures.0.decimals_is)
