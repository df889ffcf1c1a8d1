-- A stream as a value, what it stands for, and its state rules. docs/STATES.md tells them.
use Rattle.std.specs.Prelude.{ℕ, zero, suc, ◌+◌, ◌-◌, ◌≤◌, ◌≡◌, Bool, true, false, ◌&&◌, not, ◌⊎◌, List, [], ◌∷◌, ◌++◌, eqb, leb, length, get_or, drop, replicate}
use Rattle.ledger_spec.specs.State.{or_else, StateRules}
use Rattle.ledger.specs.State.{book_of}
use Rattle.walk_laws.specs.Walk.{Mode, within, seeking}
use Rattle.walk_laws.specs.WaitLaws.{mode_of}
use Rattle.walk_laws.specs.Cuts as Cuts
use Rattle.reading.specs.Seen.{seen_of, seen_number}
use Rattle.stream_spec.specs.declared.Stream.{Stream}
use Rattle.stream_spec.specs.declared.Tally.{Tally}
use Rattle.stream_spec.specs.Tally.{fresh_tally, tally_right}

-- the last place that 64 bits can say
abbrev pub last_place : ℕ
last_place = 18446744073709551615

-- ---- the value

-- the first n bytes of the store
unfoldable pub head_of : ℕ → List ℕ → List ℕ
head_of zero l = []
head_of (suc n) l = head_of n l ++ (get_or l n 0 ∷ [])

unfoldable pub is_seeking : Mode → Bool
is_seeking (within k) = false
is_seeking seeking = true

-- what a value stands for
unfoldable pub meant_by : Stream → Cuts.Stream Tally
meant_by x = record { mode = mode_of x.seeking; place = x.place; kept = head_of x.len x.kept; ledger = x.tally }

-- the value that stands for it: the kept bytes, and zeros behind them
unfoldable pub value_of : Bool → Cuts.Stream Tally → Stream
value_of closed y =
    record {
      place = y.place;
      seeking = is_seeking y.mode;
      closed = closed;
      len = length y.kept;
      kept = y.kept ++ replicate (8191 - length y.kept) 0;
      tally = y.ledger;
    }

unfoldable pub opened : Stream
opened = value_of false (Cuts.fresh_of fresh_tally)

-- ---- the state rules, as a test

unfoldable pub all_zero : List ℕ → Bool
all_zero [] = true
all_zero (b ∷ s) = eqb b 0 && all_zero s

-- nothing is kept, or the stream is not closed and the kept bytes wait for more
unfoldable pub waits_right : Stream → Bool
waits_right x = or_else (eqb x.len 0) (not x.closed && eqb (seen_number (seen_of (head_of x.len x.kept))) 1)

unfoldable pub sound_of : Stream → Bool
sound_of x =
    leb x.len 8191 && (all_zero (drop x.len x.kept)
    && (tally_right x.tally x.place && (leb (x.place + x.len) last_place && waits_right x)))

-- ---- the state rules, as facts

pub record StreamRules (x : Stream) : Type 0 where
  pub few : x.len ≤ 8191
  pub blank : all_zero (drop x.len x.kept) ≡ true
  pub counts : x.tally.frames + x.tally.refused ≤ x.place
  pub channel : x.tally.ledger.channel.0 ≡ 100
  pub ledger : StateRules (book_of x.tally.ledger)
  pub places : x.place + x.len ≤ last_place
  pub rests : (x.len ≡ 0) ⊎ ((x.closed ≡ false) × (seen_number (seen_of (head_of x.len x.kept)) ≡ 1))
