-- Refused, nothing is written; else the next page's words and the figures. Assumes nothing.
use Rattle.host_month.proofs.Kept.{add_refused, add_done}
use Rattle.host_month.proofs.rk_month_add.Goals as goal

pub returns-in-Ok : goal.returns-in-Ok
returns-in-Ok c = add_done _ _ _ c.added-added.result c.month_in.ensures c.added-added.ensures.0 c.added-added.ensures.1 _ _ _ c.in-Ok.is c.words_of.ensures

pub returns-in-Err : goal.returns-in-Err
returns-in-Err c = add_refused _ _ _ c.added-added.result c.month_in.ensures c.added-added.ensures.0 c.added-added.ensures.1 _ _ _ c.in-Err.is c.from.ensures
