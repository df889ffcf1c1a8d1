-- Request 3 of a lent table, what a call leaves: every channel at its place, unless it opens or
-- closes one; the place last asked, unless it is granted a request; and the table's rules.
-- proofs/Stays.antt proves each for every row of calls on the empty table.
use Rattle.std.specs.Prelude.{◌≡◌, true, false, ℕ, ◌<◌}
use Rattle.terms.specs.Paper.{Paper}
use Rattle.tick_map.specs.Bits.{is_set}
use Rattle.ledger_spec.specs.Words.{value_at, answered}
use Rattle.channels_spec.specs.Calls.{Call, Request}
use Rattle.channels_spec.specs.Words.{granted}
use Rattle.channels.specs.declared.Channels.{Channels}
use Rattle.channels.specs.Answered.{blank}
use Rattle.channels.specs.Serves.{row_at}
use Rattle.channels_seam.specs.Lent.{is_used, name_at}
use Rattle.channels_seam.specs.Broken.{IndexRules, NamedOnce, RowRules}

-- ======== The places

pub record LentStays (x next : Channels) : Type 0 where
  pub used_same : (i : ℕ) → i < 32 → is_set next.index.used i ≡ is_set x.index.used i
  pub name_same : (i : ℕ) → i < 32 → name_at next i ≡ name_at x i

-- ======== The place last asked

-- a granted request moves it to the place of the channel that it went to; nothing else moves it
pub record LentLast (x : Channels) (call : Call) (a : Paper) (next : Channels) : Type 0 where
  pub below_32 : next.index.last < 32
  pub moves_used : call ≡ Request → answered a 0 ≡ true → is_used x next.index.last
  pub moves_name : call ≡ Request → answered a 0 ≡ true → name_at x next.index.last ≡ value_at a 0
  pub stays : granted call a ≡ 0 → next.index.last ≡ x.index.last

-- ======== The rules

-- calls never break the index's rules, nor those of an open place's row; no channel stands twice;
-- and a free place has a blank row, and 0 beside it
pub record LentRules (x : Channels) : Type 0 where
  pub index_right : IndexRules x.index
  pub named_once : (channel : ℕ) → NamedOnce x channel
  pub rows_right : (i : ℕ) → i < 32 → is_used x i → RowRules x i
  pub free_blank : (i : ℕ) → i < 32 → is_set x.index.used i ≡ false → row_at x i ≡ blank
  pub free_unnamed : (i : ℕ) → i < 32 → is_set x.index.used i ≡ false → name_at x i ≡ 0
