-- Wrong answers that the promise of `Stream::opened` rules out. Assumes nothing.
use Prim.Native.Nat.{ℕ}
use mathlib.Core.Path.{refl, ap}
use mathlib.Core.List.{List, [], ◌∷◌}
use Rattle.terms.specs.Paper.{pick}
use Rattle.terms.specs.RuledOut.{Row, ◌never◌, ◌only◌, Kept, RulesOut, ruled, lists}
use Rattle.ledger_spec.specs.Calls.{fresh}
use Rattle.ledger.specs.State.{ledger_of}
use Rattle.stream_spec.specs.declared.Stream.{Stream}
use Rattle.stream_spec.specs.State.{is_seeking, opened}
use Rattle.stream_spec.specs.State as State
use Rattle.stream_spec.proofs.Stream.opened.Reads as stream-opened
use Rattle.stream_spec.proofs.Stream.opened.Kinds as stream-opened-kinds

-- place, whether it seeks and is closed, how many bytes are kept, frames, refused, the
-- ledger's channel
abbrev seen : Stream → List ℕ
seen x = x.place ∷ pick x.seeking 1 0 ∷ pick x.closed 1 0 ∷ x.len ∷ x.tally.frames ∷ x.tally.refused ∷ x.tally.ledger.channel.0 ∷ []

abbrev pub Stream-opened-wrong : List (Row (Unit {0}) (List ℕ))
Stream-opened-wrong =
    tt only (0 ∷ 0 ∷ 0 ∷ 0 ∷ 0 ∷ 0 ∷ 100 ∷ [])
    ∷ tt never (0 ∷ 1 ∷ 0 ∷ 0 ∷ 0 ∷ 0 ∷ 100 ∷ [])  -- seeking from the start, so that damage there goes unseen
    ∷ []

pub Stream-opened-rules-out : RulesOut (Kept _ stream-opened-kinds.ps stream-opened-kinds.r stream-opened.Post) (λ c. tt) (λ c. seen c.result) Stream-opened-wrong
unfolding fresh ledger_of is_seeking opened State.value_of
Stream-opened-rules-out = ruled lists (λ (i : Unit {0}). seen opened) (λ c p. ap seen p) _ refl
