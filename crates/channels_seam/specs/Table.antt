-- Request 3, what a call on the table of `channels_spec` tells and leaves: the values of a telling
-- call, from the history alone, and that no call but an opening or a closing moves a channel from
-- its place. proofs/Table.antt proves both, and when a closing is answered 0.
use Rattle.std.specs.Prelude.{◌≡◌, true, false, List, ◌∷◌, ℕ}
use Rattle.terms.specs.Paper.{Paper, answer, refusal}
use Rattle.ledger_spec.specs.State.{Asked, Book}
use Rattle.ledger_spec.specs.Trace as ledger-trace
use Rattle.ledger_spec.specs.Words.{floor_of, known_top, count, missing, held}
use Rattle.channels_spec.specs.Table.{Place, free, holds, Table}
use Rattle.channels_spec.specs.Calls.{Call, Open, Close, Request, To, Told, Renew, pending_told}
use Rattle.channels_spec.specs.Trace.{History}
use Rattle.channels_spec.specs.Words.{opened, own_history, line, pending_on}

-- ======== What a channel has to tell

-- the floor, the known top, how many numbers are missing and how many held, and then the first and
-- last number of the request on the line, or 0 and 0: of the calls on that channel since its
-- opening
abbrev pub told_from : ledger-trace.History → Asked → List ℕ
told_from h asked = floor_of h ∷ known_top h ∷ count (missing h) (known_top h) ∷ count (held h) (known_top h) ∷ pending_told asked

pub record Tells (channel : ℕ) (h : History) (a : Paper) : Type 0 where
  pub of_open : opened channel h ≡ true → a ≡ answer 0 (told_from (own_history channel h) (pending_on channel (line h)))
  pub else_18 : opened channel h ≡ false → a ≡ refusal 18

-- ======== What stays at its place

-- nothing stands at a place before and after a call, or a ledger of the same channel
pub data SameHolder : Place → Place → Type 0 where
  both_free : SameHolder free free
  both_hold : {b d : Book} → d.channel ≡ b.channel → SameHolder (holds b) (holds d)

-- the two calls that give a place and take it
abbrev pub TakesPlace : Call → Type 0
TakesPlace (Open c) = Unit
TakesPlace (Close c) = Unit
TakesPlace Request = ⊥
TakesPlace (To c said) = ⊥
TakesPlace (Told c) = ⊥
TakesPlace Renew = ⊥

abbrev pub PlacesStay : Table → Table → Type 0
PlacesStay t next = (i : ℕ) → SameHolder (t.place i) (next.place i)
