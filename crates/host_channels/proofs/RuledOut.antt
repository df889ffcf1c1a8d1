-- Of the lent table: wrong answers and wrong later contents that the promise rules out. The promise
-- is one relation, `Exchanges`, since a lent struct has no `Post` of the checker's. Assumes
-- nothing.
use Prim.Native.Nat.{ℕ}
use mathlib.Core.Path.{◌≡◌, refl, ap₂}
use mathlib.Core.List.{List, [], ◌∷◌, ◌++◌}
use lib.Count.{ones, count_trailing_zeros}
use lib.ListN.{replicate}
use Rattle.terms.specs.RuledOut.{Row, ◌never◌, ◌only◌, RulesOut, ruled, lists}
use Rattle.tick_map.specs.Bits.{value_of, map_of, run}
use Rattle.tick_map.specs.Ring.{rotated}
use Rattle.ledger_spec.specs.State.{has, range_rules, map_rules, sound_of}
use Rattle.ledger_spec.specs.Calls.{own_number, checked_of, number_to, passes, taken, reach, leaps, gave_up, handed, replied, raised, waiting, asked, done, missing_count, held_count, between_count, values_of, answer_to, fresh}
use Rattle.ledger.specs.State.{book_of, ledger_of, next_by}
use Rattle.host_words.specs.Words.{words_of, pending_in, ledger_in}
use Rattle.host_ledger.specs.Words.{settled_row}
use Rattle.channels_spec.specs.Table.{least}
use Rattle.channels.specs.declared.Row as rows
use Rattle.channels.specs.declared.Channels.{Channels}
use Rattle.channels.specs.declared.ChannelCall.{ChannelCall}
use Rattle.channels.specs.declared.ChannelTold.{ChannelTold}
use Rattle.channels.specs.Index.{place_in, place_from, free_in, steps_in, turn_in, index_sound}
use Rattle.channels.specs.Turn.{asked_or_turn, turn_of, once_of}
use Rattle.channels.specs.Told.{padded, index_at}
use Rattle.channels.specs.Answered.{row_fits, left_of, closed_at, taken_of, opened_of, closed_of, telling_of, served_of, answered_of}
use Rattle.channels.specs.Serves.{answered_by, served_by}
use Rattle.host_channels.specs.declared.Exchange.{Exchange}
use Rattle.host_channels.specs.Exchanges.{Exchanges}

-- a table of three places in use at most: the index, the words of their rows, and the names beside
-- them
abbrev words : ℕ → ℕ → ℕ → ℕ → ℕ → List ℕ
words channel floor top first last = channel ∷ floor ∷ top ∷ 0 ∷ 0 ∷ 0 ∷ 0 ∷ first ∷ last ∷ []

abbrev blank : List ℕ
blank = words 0 0 0 0 0

abbrev row : List ℕ → rows.Row
row w = record { words = w }

abbrev table : ℕ → ℕ → ℕ → ℕ → (a b c : ℕ) → (x y z : List ℕ) → Channels
table used lacking asked last a b c x y z =
    record {
      names = record { channels = a ∷ b ∷ c ∷ replicate 30 0 };
      index = record { used = used; lacking = lacking; asked = asked; last = last };
      rows = row x ∷ row y ∷ row z ∷ replicate 30 (row blank);
    }

abbrev call : ℕ → ℕ → ℕ → ℕ → ChannelCall
call code channel number second = record { code = code; channel = channel; number = number; second = second }

-- the whole table as numbers
abbrev all_of : List rows.Row → List ℕ
all_of [] = []
all_of (r ∷ rs) = r.words ++ all_of rs

abbrev numbers_of : Channels → List ℕ
numbers_of t = t.index.used ∷ t.index.lacking ∷ t.index.asked ∷ t.index.last ∷ (t.names.channels ++ all_of t.rows)

-- the number and its values, then the table after the call
abbrev seen : ChannelTold → Channels → List ℕ
seen told t = told.answer ∷ (told.values ++ numbers_of t)

abbrev left : ℕ → List ℕ → Channels → List ℕ
left number values t = number ∷ (padded values ++ numbers_of t)

abbrev Given : Type 0
Given = Channels × ChannelCall

-- nothing is open; channels 7, 8 and 9 are, where 7 and 9 miss three numbers
abbrev nothing : Channels
nothing = table 0 0 32 31 0 0 0 blank blank blank

abbrev three : Channels
three = table 7 5 32 31 7 8 9 (words 7 0 3 0 0) (words 8 0 0 0 0) (words 9 0 3 0 0)

-- 7 was asked, and then 9
abbrev first : Channels
first = table 7 5 0 0 7 8 9 (words 7 0 3 1 3) (words 8 0 0 0 0) (words 9 0 3 0 0)

abbrev again : Channels
again = table 7 5 32 0 7 8 9 (words 7 0 3 0 0) (words 8 0 0 0 0) (words 9 0 3 0 0)

abbrev second : Channels
second = table 7 5 2 2 7 8 9 (words 7 0 3 0 0) (words 8 0 0 0 0) (words 9 0 3 1 3)

-- 8 at two places, and rows that were never laid by a call
abbrev twice : Channels
twice = table 7 0 32 31 7 8 8 (words 7 0 0 0 0) (words 8 0 0 0 0) (words 8 0 0 0 0)

abbrev strange : Channels
strange = table 3 0 32 31 7 8 5 (words 7 0 0 0 0) (words 70000 0 0 0 0) (words 1 2 3 4 5)

abbrev pub rk_channels_wrong : List (Row Given (List ℕ))
rk_channels_wrong =
    (nothing, call 0 7 0 0) never left 0 [] nothing  -- the table is left as it was
    ∷ (nothing, call 0 7 0 0) only left 0 [] (table 1 0 32 31 7 0 0 (words 7 0 0 0 0) blank blank)
    ∷ (nothing, call 2 7 1 0) never left 0 (1 ∷ 1 ∷ []) nothing  -- a tick for a channel not open is answered 0
    ∷ (nothing, call 2 7 1 0) only left 18 [] nothing
    ∷ (three, call 2 8 1 0) only left 0 (1 ∷ 1 ∷ []) (table 7 5 32 31 7 8 9 (words 7 0 3 0 0) (words 8 1 1 0 0) (words 9 0 3 0 0))
    ∷ (three, call 4 0 0 0) only left 0 (7 ∷ 1 ∷ 3 ∷ []) first
    ∷ (first, call 4 0 0 0) never left 0 (9 ∷ 1 ∷ 3 ∷ []) (table 7 5 2 2 7 8 9 (words 7 0 3 1 3) (words 8 0 0 0 0) (words 9 0 3 1 3))  -- a second grant while one is pending
    ∷ (first, call 4 0 0 0) only left 14 [] first
    ∷ (first, call 5 9 1 1) never left 0 (1 ∷ []) again  -- a reply on another open channel clears, which would ask from the same number
    ∷ (first, call 5 9 1 1) only left 16 [] first
    ∷ (first, call 5 7 1 1) only left 0 (1 ∷ []) again
    ∷ (again, call 4 0 0 0) never left 0 (7 ∷ 1 ∷ 3 ∷ []) first  -- the first channel is asked again, before the others
    ∷ (again, call 4 0 0 0) only left 0 (9 ∷ 1 ∷ 3 ∷ []) second
    ∷ (second, call 1 9 0 0) never left 0 [] (table 3 1 2 2 7 8 0 (words 7 0 3 0 0) (words 8 0 0 0 0) blank)  -- closing leaves the request pending
    ∷ (second, call 1 9 0 0) never left 0 [] (table 3 1 32 31 7 8 0 (words 7 0 3 0 0) (words 8 0 0 0 0) blank)  -- sets the turn back
    ∷ (second, call 1 9 0 0) only left 0 [] (table 3 1 32 2 7 8 0 (words 7 0 3 0 0) (words 8 0 0 0 0) blank)
    ∷ (second, call 7 0 0 0) only left 0 [] (table 7 5 32 2 7 8 9 (words 7 0 3 0 0) (words 8 0 0 0 0) (words 9 0 3 0 0))  -- a new session
    ∷ (three, call 0 8 0 0) only left 22 [] three
    ∷ (three, call 2 8 257 0) only left 12 [] (table 7 7 32 31 7 8 9 (words 7 0 3 0 0) (words 8 0 257 0 0) (words 9 0 3 0 0))  -- 12 keeps the top
    ∷ (twice, call 2 8 1 0) never left 0 (1 ∷ 1 ∷ []) (table 7 0 32 31 7 8 8 (words 7 0 0 0 0) (words 8 1 1 0 0) (words 8 0 0 0 0))  -- a channel at two places is served at one of them
    ∷ (twice, call 2 8 1 0) only left 13 [] twice
    ∷ (twice, call 2 7 1 0) only left 0 (1 ∷ 1 ∷ []) (table 7 0 32 31 7 8 8 (words 7 1 1 0 0) (words 8 0 0 0 0) (words 8 0 0 0 0))  -- but another's call does not look there
    ∷ (strange, call 2 8 1 0) never left 13 [] (table 3 0 32 31 7 65535 5 (words 7 0 0 0 0) (words 65535 0 0 0 0) (words 1 2 3 4 5))  -- a refused row is laid anew
    ∷ (strange, call 2 8 1 0) only left 13 [] strange
    ∷ []

abbrev sees : Channels → Exchange → Given
sees was asks = (was, asks.call)

seen_is : {was is : Channels} {asks told : Exchange} → Exchanges was asks is told → seen told.told is ≡ seen (answered_by was asks.call).told (served_by was asks.call)
seen_is s = ap₂ seen s.serves.told_is s.serves.table_is

pub rk_channels_rules_out : RulesOut (λ (c : (Channels × Exchange) × (Channels × Exchange)). Exchanges c.0.0 c.0.1 c.1.0 c.1.1) (λ c. sees c.0.0 c.0.1) (λ c. seen c.1.1.told c.1.0) rk_channels_wrong
unfolding book_of ledger_of next_by rotated map_of value_of number_to own_number checked_of sound_of map_rules range_rules has passes taken reach leaps gave_up handed replied raised waiting asked done missing_count held_count between_count values_of answer_to fresh run count_trailing_zeros ones words_of pending_in ledger_in settled_row least place_in place_from free_in steps_in turn_in asked_or_turn turn_of once_of index_sound index_at row_fits left_of closed_at taken_of opened_of closed_of telling_of served_of answered_of
rk_channels_rules_out = ruled lists (λ (i : Given). seen (answered_by i.0 i.1).told (served_by i.0 i.1)) (λ c p. seen_is p) _ refl
