-- What an accepted frame's body tells the layers above: its counters, and a resend's status.
-- `view_same` in `private` says that nothing of it is private. `field K i b` is field number i
-- of the table.
use Rattle.std.specs.Prelude.{ℕ, ◌≡◌, refl, List, [], ◌∷◌}
use Rattle.octets.specs.Octets.{numeral}
use Rattle.rules.specs.Widths.{field}
use Rattle.frame_spec.specs.Frame.{body}
use Rattle.frame_spec.specs.Examples.{frame_b}
use Rattle.terms.specs.Counters.{tick_of, channel_of}
use Rattle.rules.specs.declared.Kind.{Kind}
use Rattle.rules.specs.declared.Kind.TheVariants.{S001, S002, S003, P001, P002, M101, M102, M201, Unknown}
use Rattle.frame_view.specs.declared.View.{View}

-- kind, channel, tick number, first and last resend number, resend status
abbrev pub viewed : Kind → ℕ → ℕ → ℕ → ℕ → ℕ → View
viewed k channel tick first last status =
    record { kind = k; channel = channel_of channel; tick = tick_of tick; first = tick_of first; last = tick_of last; status = status }

-- which fields are tick number and channel, by type; 0 where it has none
-- (document 01, Records, paragraph 1)
unfoldable pub view_of : Kind → List ℕ → View
view_of S001 b = viewed S001 0 0 0 0 0
view_of S002 b = viewed S002 0 0 0 0 0
view_of S003 b = viewed S003 0 0 0 0 0
view_of P001 b = viewed P001 (field P001 1 b) (field P001 2 b) 0 0 0
view_of P002 b = viewed P002 (field P002 0 b) (field P002 2 b) (field P002 2 b) (field P002 3 b) (field P002 4 b)
view_of M101 b = viewed M101 0 0 0 0 0
view_of M102 b = viewed M102 0 0 0 0 0
view_of M201 b = viewed M201 (field M201 1 b) (field M201 2 b) 0 0 0
view_of Unknown b = viewed Unknown 0 0 0 0 0

-- what is seen of document 01's frame B: channel 100, tick number 3
pub example_view : view_of P001 (body frame_b) ≡ viewed P001 100 3 0 0 0
unfolding frame_b view_of numeral
example_view = refl

-- and of a resend whose numbers all differ: channel 1, first number 2, last number 3, status 4
pub example_resend : view_of P002 (0 ∷ 1 ∷ 1 ∷ 0 ∷ 0 ∷ 0 ∷ 0 ∷ 0 ∷ 0 ∷ 0 ∷ 2 ∷ 0 ∷ 0 ∷ 0 ∷ 0 ∷ 0 ∷ 0 ∷ 0 ∷ 3 ∷ 4 ∷ []) ≡ viewed P002 1 2 2 3 4
unfolding view_of numeral
example_resend = refl

-- and of a tick: channel 1, tick number 2
pub example_tick : view_of M201 (13 ∷ 0 ∷ 1 ∷ 0 ∷ 0 ∷ 0 ∷ 0 ∷ 0 ∷ 0 ∷ 0 ∷ 2 ∷ []) ≡ viewed M201 1 2 0 0 0
unfolding view_of numeral
example_tick = refl
