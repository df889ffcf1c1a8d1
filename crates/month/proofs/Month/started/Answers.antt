-- With all channels named the page has them, and beside a refusal none. Assumes nothing.
use Rattle.std.proofs.Common.{◌∙◌}
use Rattle.terms.specs.Refusals.{refusal_pos}
use Rattle.month.proofs.StartLaws.{page_is, empty_page}
use Rattle.month.proofs.Month.started.Goals as goal

pub returns-in-Ok : goal.returns-in-Ok
returns-in-Ok c = let e = c.in-Ok.ensures in (e.number, c.empty.ensures ∙ page_is _ _ _ e.number e.names.0 e.names.1)

pub returns-in-Err : goal.returns-in-Err
returns-in-Err c =
    let e = c.in-Err.ensures.number in
    (e, c.empty-in-Err.ensures ∙ empty_page _ _ _ _ c.none.ensures.0 c.none.ensures.1 e (refusal_pos c.in-Err.why))
