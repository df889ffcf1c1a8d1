-- 13, or what the ledger has to tell. Assumes nothing.
use mathlib.Core.Path.{sym, ap, ◌∙◌}
use Rattle.ledger.specs.Papers.{count_paper}
use Rattle.host_words.specs.Told.{tells_done, tells_why}
use Rattle.host_ledger.specs.Words.{ledger_told_lem, ledger_told_number}
use Rattle.host_ledger.proofs.rk_ledger_told.Goals as goal

pub returns-in-Ok : goal.returns-in-Ok
returns-in-Ok c =
    rw (c.from.ensures, c.value.ensures, c.value-in-Ok.ensures, c.value-in-Ok-2.ensures, c.unwrap_or.ensures, c.first_asked.ensures, c.last_asked.ensures)
    (tells_done _ _ _ (ledger_told_lem _ _ _ _ _ c.ledger_in-ledger.ensures (sym (ap count_paper c.in-Ok.is) ∙ c.missing.ensures.0) c.held.ensures.0))

pub returns-in-Err : goal.returns-in-Err
returns-in-Err c = tells_why _ _ c.in-Err.why _ c.from-in-Err.ensures (ledger_told_number _ _ _ _ c.ledger_in-ledger.ensures (sym (ap count_paper c.in-Err.is) ∙ c.missing.ensures.0))
