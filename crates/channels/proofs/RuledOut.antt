-- For each public function: wrong answers that its promise rules out, as tables of what is given
-- and what is then wrong. Assumes nothing.
use Prim.Native.Nat.{ℕ, ◌+◌, ◌-◌, ◌^◌}
use mathlib.Core.Path.{refl, ap}
use mathlib.Core.Bool.{Bool, true, false}
use mathlib.Core.List.{List, [], ◌∷◌, ◌++◌}
use lib.Count.{ones, count_trailing_zeros}
use lib.ListN.{replicate}
use Rattle.terms.specs.RuledOut.{Row, ◌never◌, ◌only◌, Kept, RulesOut, ruled, lists}
use Rattle.tick_map.specs.Bits.{value_of, map_of, run}
use Rattle.tick_map.specs.Ring.{rotated}
use Rattle.ledger_spec.specs.State.{has, range_rules, map_rules, sound_of}
use Rattle.ledger_spec.specs.Calls.{own_number, checked_of, number_to, passes, taken, reach, leaps, gave_up, handed, replied, raised, waiting, asked, done, missing_count, held_count, between_count, values_of, answer_to, fresh}
use Rattle.ledger.specs.State.{book_of, ledger_of, next_by}
use Rattle.host_words.specs.Words.{words_of, pending_in, ledger_in}
use Rattle.host_ledger.specs.Words.{settled_row}
use Rattle.channels_spec.specs.Table.{least}
use Rattle.channels.specs.declared.Index.{Index}
use Rattle.channels.specs.declared.Turn.{Turn}
use Rattle.channels.specs.declared.ChannelCall.{ChannelCall}
use Rattle.channels.specs.declared.Answered.{Answered}
use Rattle.channels.specs.declared.Channels.{Channels}
use Rattle.channels.specs.Index.{place_in, place_from, free_in, steps_in, turn_in, index_sound}
use Rattle.channels.specs.Turn.{asked_or_turn, turn_of, once_of, turned_of}
use Rattle.channels.specs.Told.{padded, index_at}
use Rattle.channels.specs.Answered.{row_fits, left_of, closed_at, taken_of, opened_of, closed_of, telling_of, served_of, answered_of}
use Rattle.channels.specs.Serves.{empty_channels, row_at}
use Rattle.channels.proofs.Index.turn_to.Reads as turn-to
use Rattle.channels.proofs.Index.turn_to.Kinds as turn-to-kinds
use Rattle.channels.proofs.Row.answered.Reads as answered
use Rattle.channels.proofs.Row.answered.Kinds as answered-kinds
use Rattle.channels.proofs.Channels.none.Reads as none
use Rattle.channels.proofs.Channels.none.Kinds as none-kinds

-- an index: the open places and those that miss something as digits, the place asked, and the last
-- one asked
abbrev index : ℕ → ℕ → ℕ → ℕ → Index
index used lacking asked last = record { used = used; lacking = lacking; asked = asked; last = last }

abbrev call : ℕ → ℕ → ℕ → ℕ → ChannelCall
call code channel number second = record { code = code; channel = channel; number = number; second = second }

abbrev tick : ℕ → ℕ → ChannelCall
tick channel n = call 2 channel n 0

abbrev request : ChannelCall
request = call 4 0 0 0

-- ======== TURN_TO: index, the names of the rows, and a call

-- channels 7, 8 and another one, in the first three rows
abbrev names : ℕ → List ℕ
names third = 7 ∷ 8 ∷ third ∷ replicate 30 0

abbrev one_if : Bool → ℕ
one_if true = 1
one_if false = 0

-- the row, the name beside it, and 1 where no second place has that name
abbrev seen_turn : Turn → List ℕ
seen_turn n = n.at ∷ n.name ∷ one_if n.once ∷ []

abbrev pub Index-turn-to-wrong : List (Row (Index × (List ℕ × ChannelCall)) (List ℕ))
Index-turn-to-wrong =
    (index 7 7 32 31, (names 9, request)) only (0 ∷ 7 ∷ 1 ∷ [])  -- at first from the first place
    ∷ (index 7 7 32 0, (names 9, request)) never (0 ∷ 7 ∷ 1 ∷ [])  -- counted from the place last asked, and not behind it
    ∷ (index 7 7 32 0, (names 9, request)) only (1 ∷ 8 ∷ 1 ∷ [])
    ∷ (index 7 7 32 1, (names 9, request)) never (0 ∷ 7 ∷ 1 ∷ [])  -- from the first place always
    ∷ (index 7 7 32 1, (names 9, request)) only (2 ∷ 9 ∷ 1 ∷ [])
    ∷ (index 7 2 32 1, (names 9, request)) only (1 ∷ 8 ∷ 1 ∷ [])  -- all round, to the place last asked itself
    ∷ (index 7 3 1 1, (names 9, request)) never (0 ∷ 7 ∷ 1 ∷ [])  -- on to the next place, while a request is pending
    ∷ (index 7 3 1 1, (names 9, request)) only (1 ∷ 8 ∷ 1 ∷ [])
    ∷ (index 7 0 32 1, (names 9, request)) only (32 ∷ 0 ∷ 1 ∷ [])  -- nobody misses anything
    ∷ (index 7 3 1 0, (names 9, call 7 0 0 0)) only (1 ∷ 8 ∷ 1 ∷ [])  -- a new session is about the place asked
    ∷ (index 7 3 32 0, (names 9, call 7 0 0 0)) never (0 ∷ 7 ∷ 1 ∷ [])  -- and about none where nothing is pending
    ∷ (index 7 3 32 0, (names 9, call 7 0 0 0)) only (32 ∷ 0 ∷ 1 ∷ [])
    ∷ (index 5 0 32 31, (names 9, call 0 10 0 0)) never (31 ∷ 0 ∷ 1 ∷ [])  -- an opening takes the highest free place
    ∷ (index 5 0 32 31, (names 9, call 0 10 0 0)) only (1 ∷ 8 ∷ 1 ∷ [])
    ∷ (index 5 0 32 31, (names 9, call 0 9 0 0)) never (1 ∷ 8 ∷ 1 ∷ [])  -- a channel that is open is opened a second time
    ∷ (index 5 0 32 31, (names 9, call 0 9 0 0)) only (2 ∷ 9 ∷ 1 ∷ [])
    ∷ (index (2 ^ 32 - 1) 0 32 31, (names 9, call 0 10 0 0)) only (32 ∷ 0 ∷ 1 ∷ [])  -- no place is free
    ∷ (index 5 0 32 31, (names 9, tick 8 1)) never (1 ∷ 8 ∷ 1 ∷ [])  -- a name that was left behind counts as open
    ∷ (index 5 0 32 31, (names 9, tick 8 1)) only (32 ∷ 0 ∷ 1 ∷ [])
    ∷ (index 7 0 32 31, (names 7, tick 7 1)) never (0 ∷ 7 ∷ 1 ∷ [])  -- a second place of the same channel is not seen
    ∷ (index 7 0 32 31, (names 7, tick 7 1)) only (0 ∷ 7 ∷ 0 ∷ [])
    ∷ (index 3 0 32 31, (names 7, tick 7 1)) only (0 ∷ 7 ∷ 1 ∷ [])  -- unless it is free
    ∷ []

pub Index-turn-to-rules-out : RulesOut (Kept _ turn-to-kinds.ps turn-to-kinds.r turn-to.Post) (λ c. (c.args.0, (c.args.1.0.now, c.args.1.1.0))) (λ c. seen_turn c.result) Index-turn-to-wrong
unfolding turn_of once_of asked_or_turn place_in place_from free_in steps_in turn_in least
Index-turn-to-rules-out = ruled lists (λ (i : Index × (List ℕ × ChannelCall)). seen_turn (turned_of i.0 i.1.0 i.1.1)) (λ c p. ap seen_turn p.0) _ refl

-- ======== ANSWERED: the words of a row, index, turn and call

abbrev words : ℕ → ℕ → ℕ → ℕ → ℕ → ℕ → List ℕ
words channel floor top places first last = channel ∷ floor ∷ top ∷ places ∷ 0 ∷ 0 ∷ 0 ∷ first ∷ last ∷ []

abbrev turn : ℕ → ℕ → Turn
turn at name = record { at = at; name = name; once = true }

abbrev Given : Type 0
Given = List ℕ × (Index × (Turn × ChannelCall))

-- the number and its values, then what is left: index, name and words
abbrev left : ℕ → List ℕ → Index → ℕ → List ℕ → List ℕ
left number values x name w = number ∷ (padded values ++ (x.used ∷ x.lacking ∷ x.asked ∷ x.last ∷ name ∷ w))

abbrev seen : Answered → List ℕ
seen a = left a.told.answer a.told.values a.index a.name a.row.words

-- a reply's two sets as they are told
abbrev sets : ℕ → ℕ → ℕ → List ℕ
sets first given_up passed = first ∷ given_up ∷ 0 ∷ 0 ∷ 0 ∷ passed ∷ 0 ∷ 0 ∷ 0 ∷ []

abbrev blank : List ℕ
blank = words 0 0 0 0 0 0

-- of channel 7, in the first place of three that are open: nothing missing; three numbers missing;
-- and those three asked for
abbrev whole : List ℕ
whole = words 7 0 0 0 0 0

abbrev missing : List ℕ
missing = words 7 0 3 0 0 0

abbrev asking : List ℕ
asking = words 7 0 3 0 1 3

-- 1 to 6 asked for, 1 and 2 passed, 4, 7 and 10 held
abbrev held : ℕ → ℕ → List ℕ
held first last = words 7 2 12 (2 ^ 4 + 2 ^ 7 + 2 ^ 10) first last

abbrev pub Row-answered-wrong : List (Row Given (List ℕ))
Row-answered-wrong =
    (whole, (index 7 0 32 2, (turn 0 7, tick 7 1))) only left 0 (1 ∷ 1 ∷ []) (index 7 0 32 2) 7 (words 7 1 1 0 0 0)
    ∷ (blank, (index 6 0 32 2, (turn 32 0, tick 7 1))) never left 0 (1 ∷ 1 ∷ []) (index 6 0 32 2) 0 (words 7 1 1 0 0 0)  -- a tick for a channel not open is answered 0
    ∷ (blank, (index 6 0 32 2, (turn 32 0, tick 7 1))) only left 18 [] (index 6 0 32 2) 0 blank
    ∷ (whole, (index 7 0 32 2, (turn 0 7, tick 7 257))) never left 12 [] (index 7 0 32 2) 7 whole  -- 12 forgets the top
    ∷ (whole, (index 7 0 32 2, (turn 0 7, tick 7 257))) never left 12 [] (index 7 0 32 2) 7 (words 7 0 257 0 0 0)  -- or that now a number is missing
    ∷ (whole, (index 7 0 32 2, (turn 0 7, tick 7 257))) only left 12 [] (index 7 1 32 2) 7 (words 7 0 257 0 0 0)
    ∷ (whole, (index 7 0 32 2, (turn 0 7, tick 7 0))) only left 10 [] (index 7 0 32 2) 7 whole
    ∷ (whole, (index 7 0 32 2, (turn 0 7, call 3 7 3 0))) never left 0 [] (index 7 0 32 2) 7 missing  -- the missing bit is not renewed after an announcement
    ∷ (whole, (index 7 0 32 2, (turn 0 7, call 3 7 3 0))) only left 0 [] (index 7 1 32 2) 7 missing
    ∷ (missing, (index 7 1 32 2, (turn 0 7, request))) never left 0 (7 ∷ 1 ∷ 3 ∷ []) (index 7 1 0 2) 7 asking  -- a turn that does not move on a granted request
    ∷ (missing, (index 7 1 32 2, (turn 0 7, request))) only left 0 (7 ∷ 1 ∷ 3 ∷ []) (index 7 1 0 0) 7 asking
    ∷ (asking, (index 7 1 0 2, (turn 0 7, request))) never left 0 (7 ∷ 1 ∷ 3 ∷ []) (index 7 1 0 0) 7 asking  -- a second grant while one is pending
    ∷ (asking, (index 7 1 0 2, (turn 0 7, request))) never left 14 [] (index 7 1 0 0) 7 asking  -- a turn that moves on a refused request
    ∷ (asking, (index 7 1 0 2, (turn 0 7, request))) only left 14 [] (index 7 1 0 2) 7 asking
    ∷ (blank, (index 7 0 32 2, (turn 32 0, request))) never left 15 [] (index 7 0 32 31) 0 blank  -- also where nothing is missing
    ∷ (blank, (index 7 0 32 2, (turn 32 0, request))) only left 15 [] (index 7 0 32 2) 0 blank
    ∷ (missing, (index 7 3 1 1, (turn 0 7, call 5 7 1 1))) never left 0 (sets 1 0 0) (index 7 3 32 1) 7 missing  -- another channel's request is cleared by a reply, here where both would begin at 1
    ∷ (missing, (index 7 3 1 1, (turn 0 7, call 5 7 1 1))) only left 16 [] (index 7 3 1 1) 7 missing
    ∷ (asking, (index 7 1 0 0, (turn 0 7, call 5 7 1 1))) never left 0 (sets 1 0 0) (index 7 1 0 0) 7 missing  -- the index keeps what the ledger has cleared
    ∷ (asking, (index 7 1 0 0, (turn 0 7, call 5 7 1 1))) only left 0 (sets 1 0 0) (index 7 1 32 0) 7 missing
    ∷ (asking, (index 7 1 0 0, (turn 0 7, call 5 7 1 257))) only left 17 [] (index 7 1 0 0) 7 asking  -- status 257 is not 1
    ∷ (held 1 6, (index 7 1 0 0, (turn 0 7, call 5 7 1 4))) never left 0 (sets 3 0 0) (index 7 1 32 0) 7 (held 0 0)  -- status 4 only clears
    ∷ (held 1 6, (index 7 1 0 0, (turn 0 7, call 5 7 1 4))) only left 0 (sets 3 (2 ^ 3 + 2 ^ 5 + 2 ^ 6) (2 ^ 4 + 2 ^ 7)) (index 7 1 32 0) 7 (words 7 7 12 (2 ^ 10) 0 0)
    ∷ (held 1 6, (index 7 1 0 0, (turn 0 7, call 6 7 1 9))) only left 0 (5 ∷ []) (index 7 1 0 0) 7 (held 1 6)  -- 3, 5, 6, 8 and 9 are missing
    ∷ (held 1 6, (index 7 1 0 0, (turn 0 7, call 6 7 0 9))) only left 10 [] (index 7 1 0 0) 7 (held 1 6)
    ∷ (held 1 6, (index 7 1 0 0, (turn 0 7, call 9 7 0 0))) only left 0 (2 ∷ 12 ∷ 7 ∷ 3 ∷ 1 ∷ 6 ∷ []) (index 7 1 0 0) 7 (held 1 6)
    ∷ (asking, (index 7 1 0 0, (turn 0 7, call 7 0 0 0))) never left 0 [] (index 7 1 32 31) 7 missing  -- a new session counts from the first place again
    ∷ (asking, (index 7 1 0 0, (turn 0 7, call 7 0 0 0))) only left 0 [] (index 7 1 32 0) 7 missing
    ∷ (blank, (index 7 1 32 0, (turn 32 0, call 7 0 0 0))) only left 0 [] (index 7 1 32 0) 0 blank
    ∷ (asking, (index 7 3 0 0, (turn 0 7, call 1 7 0 0))) never left 0 [] (index 6 2 0 0) 0 blank  -- closing leaves the request pending
    ∷ (asking, (index 7 3 0 0, (turn 0 7, call 1 7 0 0))) never left 0 [] (index 6 2 32 31) 0 blank  -- sets the turn back
    ∷ (asking, (index 7 3 0 0, (turn 0 7, call 1 7 0 0))) never left 0 [] (index 5 1 32 0) 0 blank  -- frees the wrong place
    ∷ (asking, (index 7 3 0 0, (turn 0 7, call 1 7 0 0))) only left 0 [] (index 6 2 32 0) 0 blank
    ∷ (missing, (index 7 3 1 1, (turn 0 7, call 1 7 0 0))) only left 0 [] (index 6 2 1 1) 0 blank  -- another's request stays
    ∷ (held 0 0, (index 6 0 32 2, (turn 0 7, call 0 9 0 0))) never left 0 [] (index 7 0 32 2) 9 (held 0 0)  -- opening keeps the old ledger
    ∷ (held 0 0, (index 6 0 32 2, (turn 0 7, call 0 9 0 0))) only left 0 [] (index 7 0 32 2) 9 (words 9 0 0 0 0 0)
    ∷ (whole, (index (2 ^ 32 - 1) 0 32 2, (turn 0 7, call 0 7 0 0))) never left 21 [] (index (2 ^ 32 - 1) 0 32 2) 7 whole  -- 21 before 22
    ∷ (whole, (index (2 ^ 32 - 1) 0 32 2, (turn 0 7, call 0 7 0 0))) only left 22 [] (index (2 ^ 32 - 1) 0 32 2) 7 whole
    ∷ (blank, (index (2 ^ 32 - 1) 0 32 2, (turn 32 0, call 0 9 0 0))) only left 21 [] (index (2 ^ 32 - 1) 0 32 2) 0 blank
    ∷ (blank, (index (2 ^ 32 - 1) 0 32 2, (turn 32 0, call 0 10000 0 0))) only left 10 [] (index (2 ^ 32 - 1) 0 32 2) 0 blank  -- 10 before 21
    ∷ (whole, (index 7 8 32 2, (turn 0 7, tick 7 1))) only left 13 [] (index 7 8 32 2) 7 whole  -- 13: a place misses something and is not open
    ∷ (whole, (index 7 0 3 2, (turn 0 7, tick 7 1))) only left 13 [] (index 7 0 3 2) 7 whole  -- the place asked is not open
    ∷ (whole, (index 7 0 32 32, (turn 0 7, tick 7 1))) only left 13 [] (index 7 0 32 32) 7 whole  -- the place last asked is none
    ∷ (whole, (index 7 0 32 2, (record { at = 0; name = 7; once = false }, tick 7 1))) only left 13 [] (index 7 0 32 2) 7 whole  -- the channel stands at two places
    ∷ (missing, (index 7 0 32 2, (turn 0 7, tick 7 1))) only left 13 [] (index 7 0 32 2) 7 missing  -- its bit is wrong
    ∷ (asking, (index 7 1 32 2, (turn 0 7, tick 7 1))) only left 13 [] (index 7 1 32 2) 7 asking  -- it waits, and `asked` does not say so
    ∷ (missing, (index 7 1 0 2, (turn 0 7, request))) only left 13 [] (index 7 1 0 2) 7 missing  -- `asked` says so, and it does not wait
    ∷ (missing, (index 7 1 32 2, (turn 0 8, request))) only left 13 [] (index 7 1 32 2) 8 missing  -- the row is of another channel than the name beside it
    ∷ (words 7 3 0 0 0 0, (index 7 1 32 2, (turn 0 7, call 1 7 0 0))) only left 13 [] (index 7 1 32 2) 7 (words 7 3 0 0 0 0)  -- the ledger breaks its rules
    ∷ (words 7 3 0 0 0 0, (index 7 1 32 2, (turn 0 7, call 0 7 0 0))) never left 22 [] (index 7 1 32 2) 7 (words 7 3 0 0 0 0)  -- 22 before 13
    ∷ []

pub Row-answered-rules-out : RulesOut (Kept _ answered-kinds.ps answered-kinds.r answered.Post) (λ c. (c.args.0.words, (c.args.1.0, (c.args.1.1.0, c.args.1.1.1.0)))) (λ c. seen c.result) Row-answered-wrong
unfolding book_of ledger_of next_by rotated map_of value_of number_to own_number checked_of sound_of map_rules range_rules has passes taken reach leaps gave_up handed replied raised waiting asked done missing_count held_count between_count values_of answer_to fresh run count_trailing_zeros ones words_of pending_in ledger_in settled_row index_sound index_at row_fits left_of closed_at taken_of opened_of closed_of telling_of served_of answered_of
Row-answered-rules-out = ruled lists (λ (i : Given). seen (answered_of (record { words = i.0 }) i.1.0 i.1.1.0 i.1.1.1)) (λ c p. ap seen p) _ refl

-- ======== NONE: no place is open, nothing is pending, and counting begins at the first place

abbrev shown : Channels → List ℕ
shown t = t.index.used ∷ t.index.lacking ∷ t.index.asked ∷ t.index.last ∷ (t.names.channels ++ ((row_at t 0).words ++ (row_at t 32).words))

abbrev zeros : List ℕ
zeros = replicate 33 0 ++ (blank ++ blank)

abbrev pub Channels-none-wrong : List (Row Unit (List ℕ))
Channels-none-wrong =
    tt never (0 ∷ 0 ∷ 32 ∷ 0 ∷ zeros)  -- counting begins at the second place
    ∷ tt never (0 ∷ 0 ∷ 0 ∷ 31 ∷ zeros)  -- the first place waits
    ∷ tt only (0 ∷ 0 ∷ 32 ∷ 31 ∷ zeros)
    ∷ []

pub Channels-none-rules-out : RulesOut (Kept _ none-kinds.ps none-kinds.r none.Post) (λ c. tt) (λ c. shown c.result) Channels-none-wrong
Channels-none-rules-out = ruled lists (λ (i : Unit). shown empty_channels) (λ c p. ap shown p) _ refl
