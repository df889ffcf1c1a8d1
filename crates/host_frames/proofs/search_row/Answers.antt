-- `search_row`: the search's answer, told as 1 and the place or 0 and 0. Assumes nothing.
use Rattle.std.proofs.Common.{ℕ, sym, ap, ◌∙◌, Option, Ok}
use Rattle.std.proofs.lemmas.Result.{err_from_is_err_and}
use Rattle.terms.specs.Paper.{one_number}
use Rattle.frame.specs.Papers.{found_paper}
use Rattle.host_words.specs.Told.{perhaps, retold}
use Rattle.host_frames.specs.Frames.{search_told}
use Rattle.host_frames.proofs.search_row.Goals as goal

pub returns-in_err-place : goal.returns-in_err-place
unfolding search_told
returns-in_err-place c =
    let p = err_from_is_err_and c.from_residual.result c.from_residual.ensures.1 in
    rw (p.1, p.2) (one_number c.in_err-place.ensures)

pub returns-in-Some : goal.returns-in-Some
unfolding search_told
returns-in-Some c = ap (retold perhaps) (sym (ap (λ (o : Option ℕ). found_paper (Ok o)) c.in-Some.is) ∙ c.in_ok-place.ensures)

pub returns-in-None : goal.returns-in-None
unfolding search_told
returns-in-None c = ap (retold perhaps) (sym (ap (λ (o : Option ℕ). found_paper (Ok o)) c.in-None.is) ∙ c.in_ok-place.ensures)
