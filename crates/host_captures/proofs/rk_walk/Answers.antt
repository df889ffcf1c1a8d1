-- `rk_walk`: the walk's paper is told; words and records are those after it. Assumes nothing.
use mathlib.Core.Path.{◌≡◌, refl, sym, ap, ◌∙◌}
use Rattle.std.specs.Prelude.{Result, Ok, Err}
use Rattle.terms.specs.Paper.{one_number}
use Rattle.terms.specs.Verdicts.{verdict_number}
use Rattle.terms.specs.declared.Refusal.{Refusal}
use Rattle.walk.specs.declared.Counts.{Counts}
use Rattle.walk.specs.Papers.{counts_paper}
use Rattle.host_words.specs.Told.{tells_done, tells_why}
use Rattle.host_captures.specs.Captures.{walk_words_lem}
use Rattle.host_captures.proofs.rk_walk.Goals as goal

number_is : (a : Result Counts Refusal) → verdict_number a ≡ (counts_paper a).number
number_is (Ok c) = refl
number_is (Err w) = refl

pub returns-in-Ok : goal.returns-in-Ok
returns-in-Ok c =
    let e = c.walk-walked.ensures in
    (tells_done _ _ _ (sym (ap counts_paper c.in-Ok.is) ∙ e.0), (walk_words_lem _ _ _ (c.number_of.ensures ∙ number_is _ ∙ one_number e.0) e.1.0 c.keep.ensures, e.1.1))

pub returns-in-Err : goal.returns-in-Err
returns-in-Err c =
    let e = c.walk-walked.ensures in (
      tells_why _ _ c.in-Err.why _ c.from.ensures (one_number (sym (ap counts_paper c.in-Err.is) ∙ e.0)),
      (walk_words_lem _ _ _ (c.number_of.ensures ∙ number_is _ ∙ one_number e.0) e.1.0 c.keep.ensures, e.1.1),
    )
