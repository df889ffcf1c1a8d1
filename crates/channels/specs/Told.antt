-- What a call tells, as numbers, and what the index becomes after a ledger's call.
use Rattle.std.specs.Prelude.{Bool, true, false, not, List, [], ◌∷◌, ℕ, eqb, get_or}
use Rattle.terms.specs.Paper.{Paper, answer, pick}
use Rattle.ledger_spec.specs.State.{Book}
use Rattle.ledger_spec.specs.Calls.{is_pending}
use Rattle.channels_spec.specs.Table.{holds, misses}
use Rattle.channels.specs.declared.Index.{Index}
use Rattle.channels.specs.declared.ChannelTold.{ChannelTold}
use Rattle.channels.specs.Index.{with_bit}

-- a paper as numbers: its number, its values, then zeros
abbrev pub padded : List ℕ → List ℕ
padded vs =
    get_or vs 0 0 ∷ get_or vs 1 0 ∷ get_or vs 2 0 ∷ get_or vs 3 0 ∷ get_or vs 4 0 ∷ get_or vs 5 0 ∷ get_or vs 6 0 ∷ get_or vs 7 0 ∷ get_or vs 8 0 ∷ []

abbrev pub told_as : Paper → ChannelTold
told_as p = record { answer = p.number; values = padded p.values }

-- a granted request names its channel first
abbrev pub named_paper : ℕ → Paper → Paper
named_paper channel p = answer p.number (pick (eqb p.number 0) (channel ∷ p.values) [])

-- the index, where the ledger at a place has come to b
unfoldable pub index_at : Index → ℕ → Book → Index
index_at x at b =
    record {
      used = x.used;
      lacking = with_bit (misses (holds b)) x.lacking at;
      asked = pick (is_pending b.pending) at (pick (eqb x.asked at) 32 x.asked);
      last = x.last;
    }

-- two tests agree
abbrev pub agree : Bool → Bool → Bool
agree true b = b
agree false b = not b
