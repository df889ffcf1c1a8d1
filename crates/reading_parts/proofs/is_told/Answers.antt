-- `is_told`: by what is missing for the front, and for all. Assumes nothing.
use Rattle.std.proofs.Common.{refl, sym, ◌∙◌, arith, length-append, eqb-true}
use Rattle.std.proofs.lemmas.Bool.{eqb-false}
use Rattle.reading_parts.specs.PartLaws.{seen_told, seen_cut, seen_lacks}
use Rattle.reading_parts.proofs.is_told.Goals as goal

pub returns-then-not-waits : goal.returns-then-not-waits
returns-then-not-waits c =
    seen_told _ _ _ c.requires.0 refl (λ z. eqb-false _ _ (sym c.waits.ensures ∙ c.if-not-waits.true) (c.requires.1 ∙ z))

pub returns-then-second-saturating_sub : goal.returns-then-second-saturating_sub
returns-then-second-saturating_sub c =
    seen_cut _ _ _ c.requires.0 refl (sym c.requires.1 ∙ eqb-true _ _ (sym c.waits.ensures ∙ c.if-not-waits.false))
    (omega (arith, length-append c.args.first.now c.args.second.now, c.wanted_by.ensures, c.saturating_sub.ensures))

pub returns : goal.returns
returns c =
    seen_lacks _ _ _ c.requires.0 refl (sym c.requires.1 ∙ eqb-true _ _ (sym c.waits.ensures ∙ c.if-not-waits.false))
    (omega (arith, length-append c.args.first.now c.args.second.now, c.wanted_by.ensures, c.saturating_sub.ensures))
