-- Each count grows by 1 at most, and has room. Assumes nothing.
use Rattle.std.proofs.Common.{ap, ◌∙◌}
use Rattle.rules.specs.Table.{kind_is}
use Rattle.walk_spec.specs.CallLaws.{is_tick}
use Rattle.month_spec.specs.Figures.{is_resend}
use Rattle.month.proofs.RowLaws.{turned_of}
use Rattle.month.proofs.Row.turned.Goals as goal

pub returns : goal.returns
returns c =
    let kind = kind_is c.from-kind.result _ c.from-kind.ensures in
    turned_of _ _ _ _ _ _ _ _ _ _ _ (c.number_of-number.ensures ∙ c.offer-after.ensures.0) c.offer-after.ensures.1
    (c.is_tick-tick.ensures ∙ ap is_tick kind) (c.is_resend-resend.ensures ∙ ap is_resend kind)
    c.counted.ensures.0 c.counted-2.ensures.0 c.counted-3.ensures.0 c.counted-4.ensures.0 c.counted-5.ensures.0
