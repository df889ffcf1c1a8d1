-- How a table is kept: an index of numbers, and the channel of each row beside it. What its bits
-- say, in the words of `channels_spec`.
use Rattle.std.specs.Prelude.{Bool, true, false, ◌&&◌, ◌||◌, not, List, ℕ, ◌+◌, ◌-◌, ◌%◌, ◌^◌, eqb, leb, ltb, get_or}
use Rattle.std.specs.Int.Bits.{bit_or, bit_and}
use Rattle.terms.specs.Paper.{pick}
use Rattle.tick_map.specs.Bits.{is_set}
use Rattle.channels_spec.specs.Table.{least}
use Rattle.channels.specs.declared.Index.{Index}

-- digit i set, or cleared
abbrev pub with_bit : Bool → ℕ → ℕ → ℕ
with_bit true w i = bit_or w (2 ^ i)
with_bit false w i = bit_and w ((2 ^ 64 - 1) - 2 ^ i)

-- ---- the places that an index names, each 32 where there is none

-- a place is open for a channel
abbrev pub open_for : List ℕ → ℕ → ℕ → ℕ → Bool
open_for names used channel i = eqb (get_or names i 0) channel && is_set used i

-- the first open place of a channel
unfoldable pub place_in : List ℕ → ℕ → ℕ → ℕ
place_in names used channel = least (open_for names used channel) 32

-- the first one at or behind a place
unfoldable pub place_from : List ℕ → ℕ → ℕ → ℕ → ℕ
place_from names used channel from = least (λ i. leb from i && open_for names used channel i) 32

-- no second place is open for the channel
abbrev pub once_in : List ℕ → ℕ → ℕ → Bool
once_in names used channel = leb 32 (place_from names used channel (place_in names used channel + 1))

-- the lowest free place
unfoldable pub free_in : ℕ → ℕ
free_in used = least (λ i. not (is_set used i)) 32

-- how far from the place after the last one asked, counted round, the first place with something
-- missing is
unfoldable pub steps_in : ℕ → ℕ → ℕ
steps_in lacking last = least (λ k. is_set lacking ((last + 1 + k) % 32)) 32

-- the place whose turn it is
unfoldable pub turn_in : Index → ℕ
turn_in x =
    pick (leb (2 ^ 32) x.lacking) 32
    (pick (leb 32 x.last) 32
    (pick (leb 32 (steps_in x.lacking x.last)) 32
    ((x.last + 1 + steps_in x.lacking x.last) % 32)))

-- ---- the index's own rules: docs/STATES.md tells them

-- a place is open
abbrev pub open_at : ℕ → ℕ → Bool
open_at used i = ltb i 32 && is_set used i

-- 32 places; those that lack something are open; `last` is a place; `asked` an open one, or 32
unfoldable pub index_sound : Index → Bool
index_sound x =
    ((ltb x.used (2 ^ 32) && eqb (bit_or x.lacking x.used) x.used) && ltb x.last 32)
    && (eqb x.asked 32 || open_at x.used x.asked)
