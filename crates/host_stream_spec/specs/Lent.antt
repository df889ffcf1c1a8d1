-- A stream as a host keeps it: six words, the nine of its ledger, and the store of bytes that wait.
use Rattle.std.specs.Prelude.{ℕ, Bool, true, false, ◌&&◌, List, [], ◌∷◌, eqb, leb, get_or}
use Rattle.terms.specs.Paper.{pick}
use Rattle.stream_spec.specs.declared.Stream.{Stream}
use Rattle.host_words.specs.Told.{both}
use Rattle.host_words.specs.Words.{words_of, ledger_in}

-- what is lent to each call
pub record Lent : Type 0 where
  pub state : List ℕ
  pub ledger : List ℕ
  pub kept : List ℕ

abbrev pub lent : List ℕ → List ℕ → List ℕ → Lent
lent state ledger kept = record { state = state; ledger = ledger; kept = kept }

-- the three and a buffer as one list, which tells each of them
abbrev pub as_one : Lent → List ℕ → List ℕ
as_one k more = both k.state (both k.ledger (both k.kept more))

-- THE SIX WORDS: place, seeking, closed, how many bytes wait, frames, refused

abbrev pub word_of : Bool → ℕ
word_of true = 1
word_of false = 0

unfoldable pub state_of : Stream → List ℕ
state_of x = x.place ∷ word_of x.seeking ∷ word_of x.closed ∷ x.len ∷ x.tally.frames ∷ x.tally.refused ∷ []

abbrev pub lent_of : Stream → Lent
lent_of x = lent (state_of x) (words_of x.tally.ledger) x.kept

-- a flag above 1 stands for 8,192 bytes that wait, which breaks the state rules
unfoldable pub waiting_in : ℕ → ℕ → ℕ → ℕ
waiting_in seeking closed waiting = pick (leb seeking 1 && leb closed 1) waiting 8192

-- the stream that they stand for, sound or not
unfoldable pub stream_in : Lent → Stream
stream_in k =
    record {
      place = get_or k.state 0 0;
      seeking = eqb (get_or k.state 1 0) 1;
      closed = eqb (get_or k.state 2 0) 1;
      len = waiting_in (get_or k.state 1 0) (get_or k.state 2 0) (get_or k.state 3 0);
      kept = k.kept;
      tally = record { frames = get_or k.state 4 0; refused = get_or k.state 5 0; ledger = ledger_in k.ledger };
    }
