-- Five counts, and the ledger's own. Assumes nothing.
use Rattle.std.proofs.Common.{ℕ, [], ◌∷◌, ap, ◌∙◌}
use Rattle.month.proofs.RowLaws.{missing_told}
use Rattle.month.proofs.Row.figures.Goals as goal

pub returns : goal.returns
returns c =
    let row = c.args.self.now in
    ap (λ (m : ℕ). row.received ∷ row.repeated ∷ row.far ∷ m ∷ row.asked ∷ row.unavailable ∷ []) (c.unwrap_or.ensures ∙ missing_told _ _ c.missing.ensures.0)
