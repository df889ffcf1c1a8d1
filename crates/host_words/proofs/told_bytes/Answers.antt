-- A refusal tells nothing; else the count of bytes is told. Assumes nothing.
use mathlib.Core.Path.{sym, ap}
use Rattle.terms.specs.Paper.{one_number}
use Rattle.octets.specs.Papers.{written_paper}
use Rattle.host_words.specs.Told.{tells_done, tells_why}
use Rattle.host_words.proofs.told_bytes.Goals as goal

pub returns-in-Ok : goal.returns-in-Ok
returns-in-Ok c = tells_done _ _ _ (sym (ap written_paper c.in-Ok.is))

pub returns-in-Err : goal.returns-in-Err
returns-in-Err c = tells_why _ _ c.in-Err.why _ c.from.ensures (sym (one_number (ap written_paper c.in-Err.is)))
