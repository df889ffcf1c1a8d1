-- The tests of the rules. Assumes nothing.
use mathlib.Core.Bool.{Bool, true, false, ◌&&◌}
use mathlib.Core.Path.{◌≡◌, refl}
use Rattle.session_spec.specs.Calls.{sound_of, counters_right}
use Rattle.session.specs.Papers.{state_of}
use lib.Dec.{leb}
use Rattle.session.proofs.Session.sound.Goals as goal

grouped : (a b c : Bool) → ((a && b) && c) ≡ (a && (b && c))
grouped true b c = refl
grouped false b c = refl

pub returns : goal.returns
unfolding sound_of
returns c = rw (c.counters_right.ensures, c.value.ensures, c.value-2.ensures) (let a = c.args.self in grouped (leb a.sent a.last) (leb a.heard a.last) (counters_right (state_of a.state) a.sending.0 a.expecting.0))
