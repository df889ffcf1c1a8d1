-- `sound`: check by check, as the test has them. Assumes nothing.
use native.Mathlib.Omega.{arith}
use Prim.Native.Nat.{ℕ, ◌+◌, ◌-◌}
use mathlib.Core.Path.{◌≡◌, sym, ap, ◌∙◌}
use mathlib.Core.List.{List}
use mathlib.Core.Bool.{true}
use Rattle.stream_spec.specs.Run.{waits_at}
use lib.Dec.{leb}
use lib.ListN.{length, take, drop}
use borrow.Author.Tests.{not-true, not-false}
use Rattle.stream_spec.specs.Tally.{tally_right}
use Rattle.stream_spec.specs.State.{last_place, all_zero}
use Rattle.stream_spec.specs.StateLaws.{sound_long, sound_blank, sound_tally, sound_places, sound_none, sound_closed, sound_waits}
use Rattle.stream.specs.StoreLaws.{tail_whole}
use Rattle.stream.proofs.sound.Goals as goal
use Rattle.stream.proofs.sound.Goals.{Else-not-blank, Else-not-fits, Else-not-tally_right}

-- the bytes of a store behind n, whole
clear : (n m : ℕ) (s : List ℕ) → length s ≡ m → all_zero (drop n s) ≡ all_zero (take (m - n) (drop n s))
clear n m s l = ap all_zero (sym (tail_whole n s)) ∙ ap (λ (k : ℕ). all_zero (take (k - n) (drop n s))) l

blank : (c : goal.Else-not-blank) → all_zero (drop c.args.st.len c.args.kept.now) ≡ true
blank c = clear c.args.st.len 8191 c.args.kept.now c.told-kept ∙ sym c.blank.ensures ∙ c.if-not-blank.false

tally : (c : goal.Else-not-tally_right) → tally_right c.args.st.tally c.args.st.place ≡ true
tally c = sym c.tally_right.ensures ∙ c.if-not-tally_right.false

places : (c : goal.Else-not-fits) → leb (c.args.st.place + (c.args.st.len + 0)) last_place ≡ true
places c = sym c.fits.ensures ∙ c.if-not-fits.false

pub returns-then-n-gt8191 : goal.returns-then-n-gt8191
returns-then-n-gt8191 c = sound_long _ (omega (arith, c.if-n-gt8191.true))

pub returns-then-not-blank : goal.returns-then-not-blank
returns-then-not-blank c = sound_blank _ c.if-n-gt8191.false (clear c.args.st.len 8191 c.args.kept.now c.told-kept ∙ sym c.blank.ensures ∙ c.if-not-blank.true)

pub returns-then-not-tally_right : goal.returns-then-not-tally_right
returns-then-not-tally_right c = sound_tally _ c.if-n-gt8191.false (blank (goal.at.returns-then-not-tally_right c).Else-not-blank) (sym c.tally_right.ensures ∙ c.if-not-tally_right.true)

pub returns-then-not-fits : goal.returns-then-not-fits
returns-then-not-fits c = sound_places _ c.if-n-gt8191.false (blank (goal.at.returns-then-not-fits c).Else-not-blank) (tally (goal.at.returns-then-not-fits c).Else-not-tally_right) (sym c.fits.ensures ∙ c.if-not-fits.true)

pub returns-then-n-eq0 : goal.returns-then-n-eq0
returns-then-n-eq0 c = sound_none _ c.if-n-gt8191.false (blank (goal.at.returns-then-n-eq0 c).Else-not-blank) (tally (goal.at.returns-then-n-eq0 c).Else-not-tally_right) (places (goal.at.returns-then-n-eq0 c).Else-not-fits) c.if-n-eq0.true

pub returns-then-not-st : goal.returns-then-not-st
unfolding waits_at
returns-then-not-st c =
    c.waits.ensures
    ∙ sound_waits _ c.if-n-gt8191.false (blank (goal.at.returns-then-not-st c).Else-not-blank) (tally (goal.at.returns-then-not-st c).Else-not-tally_right) (places (goal.at.returns-then-not-st c).Else-not-fits) c.if-n-eq0.false (not-true _ c.if-not-st.true) _ (omega (arith, c.told-kept, c.if-n-gt8191.false)) c.see.ensures

pub returns-else-not-st : goal.returns-else-not-st
returns-else-not-st c =
    c.if-not-st.false
    ∙ sound_closed _ c.if-n-gt8191.false (blank (goal.at.returns-else-not-st c).Else-not-blank) (tally (goal.at.returns-else-not-st c).Else-not-tally_right) (places (goal.at.returns-else-not-st c).Else-not-fits) c.if-n-eq0.false (not-false _ c.if-not-st.false)
