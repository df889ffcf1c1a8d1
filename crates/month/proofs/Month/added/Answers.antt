-- Each refusal by its test; else the rows' figures are those of the capture. Assumes nothing.
use Rattle.std.proofs.Common.{◌≡◌, sym, ◌∙◌}
use Rattle.month_spec.specs.Calls.{figures_told}
use Rattle.month_spec.proofs.Rules.{rules_facts}
use Rattle.month.specs.State.{page_in}
use Rattle.month.proofs.AddLaws.{figures_are, fits_same, sums_none, sums_some, page_counted, leaves_13, leaves_27, leaves_28, leaves_0}
use Rattle.month.proofs.Month.added.Goals as goal
use Rattle.month.proofs.Month.added.Goals.{After-figures_of-figures}

figures : (c : After-figures_of-figures) → c.figures_of-figures.result ≡ figures_told (page_in c.args.self) c.args.capture.now
figures c =
    let e = c.in-Some.ensures in
    c.figures_of-figures.ensures ∙ figures_are (page_in c.args.self) c.args.capture.now (rules_facts _ e.0) _ (rw (e.1.0, e.1.1) at c.pass.ensures)

pub returns-in_default : goal.returns-in_default
returns-in_default c = leaves_13 _ _ _ c.in_default.ensures c.refused.ensures

pub returns-then-self-ge500 : goal.returns-then-self-ge500
returns-then-self-ge500 c = leaves_27 _ _ _ c.in-Some.ensures.0 c.if-self-ge500.true c.refused-then-self-ge500.ensures

pub returns-in_default-summed : goal.returns-in_default-summed
returns-in_default-summed c =
    leaves_28 _ _ _ c.in-Some.ensures.0 c.if-self-ge500.false
    (sym (fits_same (page_in c.args.self) c.args.capture.now _ (figures (goal.at.returns-in_default-summed c).After-figures_of-figures)) ∙ sums_none _ _ c.in_default-summed.ensures)
    c.refused-in_default-summed.ensures

pub returns : goal.returns
returns c =
    let f = figures (goal.at.returns c).After-figures_of-figures in
    let sums = sums_some _ _ _ c.in-Some-summed.ensures in
    leaves_0 c.args.self c.args.capture.now _ _ c.in-Some.ensures.0 c.if-self-ge500.false
    (sym (fits_same (page_in c.args.self) c.args.capture.now _ f) ∙ sums.0) f (page_counted (page_in c.args.self) c.args.capture.now _ f _ sums.1)
