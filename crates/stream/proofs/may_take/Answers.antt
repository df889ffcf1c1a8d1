-- `may_take`: the checks in their order. Assumes nothing.
use mathlib.Core.Path.{sym, ◌∙◌}
use Rattle.stream_spec.specs.CallLaws.{may_13, may_19, may_29, may_0}
use Rattle.stream.proofs.may_take.Goals as goal

pub returns-then-not-sound : goal.returns-then-not-sound
returns-then-not-sound c = sym (may_13 _ _ (sym c.sound.ensures ∙ c.if-not-sound.true))

pub returns-then-st : goal.returns-then-st
returns-then-st c = sym (may_19 _ _ (sym c.sound.ensures ∙ c.if-not-sound.false) c.if-st.true)

pub returns-then-not-fits : goal.returns-then-not-fits
returns-then-not-fits c = sym (may_29 _ _ (sym c.sound.ensures ∙ c.if-not-sound.false) c.if-st.false (sym c.fits.ensures ∙ c.if-not-fits.true))

pub returns : goal.returns
returns c = sym (may_0 _ _ (sym c.sound.ensures ∙ c.if-not-sound.false) c.if-st.false (sym c.fits.ensures ∙ c.if-not-fits.false))
