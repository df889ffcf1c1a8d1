-- `rk_entries`: a refusal of opening, or 73. Assumes nothing.
use Rattle.std.proofs.Common.{[], ◌∷◌, ℕ, ap}
use Rattle.terms.specs.Paper.{answer}
use Rattle.host_words.specs.Told.{tells_done, tells_why}
use Rattle.host_frames.specs.Frames.{entries_told}
use Rattle.host_frames.proofs.rk_entries.Goals as goal

pub returns-in-Err : goal.returns-in-Err
unfolding entries_told
returns-in-Err c = tells_why _ _ c.in-Err.why _ c.from.ensures c.in-Err.ensures

pub returns-in-Ok : goal.returns-in-Ok
unfolding entries_told
returns-in-Ok c = tells_done _ _ _ (ap (λ (n : ℕ). answer n (73 ∷ [])) c.in-Ok.ensures)
