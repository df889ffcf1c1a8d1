-- `entry_row`: 20, or the numbers of the entry and the place behind it. Assumes nothing.
use Rattle.std.proofs.lemmas.Result.{err_from_is_err_and}
use Rattle.terms.specs.Paper.{one_number}
use Rattle.host_frames.specs.Frames.{entry_told_lem, entry_told}
use Rattle.host_frames.proofs.entry_row.Goals as goal

pub returns-in_err-found : goal.returns-in_err-found
unfolding entry_told
returns-in_err-found c =
    let p = err_from_is_err_and c.from_residual.result c.from_residual.ensures.1 in
    rw (p.1, p.2) (one_number c.in_err-found.ensures.answered)

pub returns : goal.returns
returns c = let f = c.in_ok-found.ensures in entry_told_lem _ _ c.in_ok-found.found.entry _ _ f.answered f.behind c.entry_told.ensures
