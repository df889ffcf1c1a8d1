-- The row that a call is about, or 32, which is none.
use Rattle.std.specs.Prelude.{Bool, true, List, ℕ, min, eqb, leb, ltb, get_or}
use Rattle.terms.specs.Paper.{pick}
use Rattle.channels.specs.declared.Index.{Index}
use Rattle.channels.specs.declared.ChannelCall.{ChannelCall}
use Rattle.channels.specs.declared.Turn.{Turn}
use Rattle.channels.specs.Index.{place_in, once_in, free_in, turn_in}

-- a request is about the place whose request is pending, or else about the place whose turn it is
unfoldable pub asked_or_turn : Index → ℕ
asked_or_turn x = pick (ltb x.asked 32) x.asked (turn_in x)

-- an opening is about its channel's place, if it is open, or else about the lowest free one
abbrev pub opening_turn : Index → ℕ → ℕ
opening_turn x own = pick (leb 32 own) (free_in x.used) own

-- a new session (code 7) is about the place whose request is pending; any other call about the
-- place of the channel that it names
unfoldable pub turn_of : Index → List ℕ → ChannelCall → ℕ
turn_of x names call =
    pick (eqb call.code 4) (asked_or_turn x)
    (pick (eqb call.code 7) (min x.asked 32)
    (pick (eqb call.code 0) (opening_turn x (place_in names x.used call.channel))
    (place_in names x.used call.channel)))

-- no second place is open for the channel that the call names; codes 4 and 7 name none
unfoldable pub once_of : Index → List ℕ → ChannelCall → Bool
once_of x names call =
    pick (eqb call.code 4) true (pick (eqb call.code 7) true (once_in names x.used call.channel))

-- the place, the name beside it, and whether the name stands there alone
abbrev pub turned_at : List ℕ → ℕ → Bool → Turn
turned_at names at once = record { at = at; name = get_or names at 0; once = once }

abbrev pub turned_of : Index → List ℕ → ChannelCall → Turn
turned_of x names call = turned_at names (turn_of x names call) (once_of x names call)
