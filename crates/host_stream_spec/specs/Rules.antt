-- The rules that the words and bytes of a stream keep, word by word. docs/STATES.md tells them.
use Rattle.std.specs.Prelude.{ℕ, ◌+◌, ◌≤◌, ◌≡◌, true, ◌⊎◌, get_or, drop}
use Rattle.ledger_spec.specs.State.{StateRules}
use Rattle.ledger.specs.State.{book_of}
use Rattle.reading.specs.Seen.{seen_of, seen_number}
use Rattle.stream_spec.specs.State.{last_place, head_of, all_zero}
use Rattle.host_words.specs.Words.{ledger_in}
use Rattle.host_stream_spec.specs.Lent.{Lent}

-- word number i of the six
abbrev pub word : Lent → ℕ → ℕ
word k i = get_or k.state i 0

-- place 0, seeking 1, closed 2, how many bytes wait 3, frames 4, refused 5
pub record LentRules (k : Lent) : Type 0 where
  pub seeking_flag : word k 1 ≤ 1
  pub closed_flag : word k 2 ≤ 1
  pub few : word k 3 ≤ 8191
  pub blank : all_zero (drop (word k 3) k.kept) ≡ true
  pub counts : word k 4 + word k 5 ≤ word k 0
  pub channel : (ledger_in k.ledger).channel.0 ≡ 100
  pub ledger : StateRules (book_of (ledger_in k.ledger))
  pub places : word k 0 + word k 3 ≤ last_place
  pub rests : (word k 3 ≡ 0) ⊎ ((word k 2 ≡ 0) × (seen_number (seen_of (head_of (word k 3) k.kept)) ≡ 1))
