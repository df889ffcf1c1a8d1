-- No place is found. Assumes nothing.
use mathlib.Core.Path.{◌≡◌, sym, ap, ◌∙◌}
use mathlib.Core.Bool.{true, ◌&&◌}
use borrow.Author.Tests.{ne_eqb, le-leb}
use Rattle.channels.specs.Index.{index_sound}
use Rattle.channels.specs.Told.{told_as}
use Rattle.channels.specs.Answered.{kept_of, answered_of}
use Rattle.channels.proofs.Seam.{none_told}
use Rattle.channels.proofs.Row.answered.Goals as goal

pub returns-then-turn-ge32 : goal.returns-then-turn-ge32
unfolding answered_of
returns-then-turn-ge32 c =
    let a = c.args in
    let e : (index_sound a.index && a.turn.once) ≡ true = sym (λ i. c.sound.ensures i && a.turn.once) ∙ c.if-not-sound-turn.false in
    let told = c.plain.ensures ∙ ap told_as (none_told _ _ c.none_there.ensures) in
    c.kept.ensures ∙ ap (kept_of a.self a.index a.turn) told ∙ sym (rw (e, ne_eqb _ _ c.if-call-eq0.false, le-leb _ _ c.if-turn-ge32.true))
