-- The words of demand 3, each told from a history alone: the calls and their answers,
-- and no ledger.
use Rattle.std.specs.Prelude.{Bool, true, false, ◌&&◌, not, List, [], ◌∷◌, ◌++◌, ℕ, zero, suc, ◌+◌, ◌-◌, max, eqb, leb, get_or, length}
use Rattle.terms.specs.Paper.{Paper, pick}
use Rattle.tick_map.specs.Bits.{is_set, tally}
use Rattle.ledger_spec.specs.State.{Asked, nothing, range, or_else}
use Rattle.ledger_spec.specs.Calls.{Call, Tick, Announce, Request, Reply, Ask, Renew}
use Rattle.ledger_spec.specs.Trace.{History, start, ◌▸◌⇒◌}

-- value number i of an answer
abbrev pub value_at : Paper → ℕ → ℕ
value_at a i = get_or a.values i 0

-- the answer has this number: answered a 0, answered a 18
abbrev pub answered : Paper → ℕ → Bool
answered a number = eqb a.number number

-- "A number is received once its tick is answered 0."
abbrev pub receives : Call → Paper → ℕ → Bool
receives (Tick channel m) a n = answered a 0 && eqb n m
receives (Announce channel m) a n = false
receives (Request channel) a n = false
receives (Reply channel first status) a n = false
receives (Ask q) a n = false
receives Renew a n = false

unfoldable pub received : History → ℕ → Bool
received start n = false
received (before ▸ call ⇒ a) n = or_else (receives call a n) (received before n)

-- a set of numbers as one number: its digit i stands for first + i
abbrev pub in_set : ℕ → ℕ → ℕ → Bool
in_set first set n = leb first n && is_set set (n - first)

-- "It is given up once a reply answered 0 names it so": the reply's first value is the number that
-- both sets count from, the second the set given up
abbrev pub gives_up : Call → Paper → ℕ → Bool
gives_up (Tick channel m) a n = false
gives_up (Announce channel m) a n = false
gives_up (Request channel) a n = false
gives_up (Reply channel first status) a n = answered a 0 && in_set (value_at a 0) (value_at a 1) n
gives_up (Ask q) a n = false
gives_up Renew a n = false

unfoldable pub given_up : History → ℕ → Bool
given_up start n = false
given_up (before ▸ call ⇒ a) n = or_else (gives_up call a n) (given_up before n)

-- a number that need not be waited for: received or given up
unfoldable pub settled : History → ℕ → Bool
settled h n = or_else (received h n) (given_up h n)

-- first, first + 1, first + 2 and so on: as many as count says
unfoldable pub numbers : ℕ → ℕ → List ℕ
numbers first zero = []
numbers first (suc count) = first ∷ numbers (first + 1) count

-- those of a row that are so
unfoldable pub chosen : (ℕ → Bool) → List ℕ → List ℕ
chosen so [] = []
chosen so (x ∷ xs) = pick (so x) (x ∷ chosen so xs) (chosen so xs)

-- the numbers that an answer names for delivery, if it was answered 0: a tick's run; a reply's set
-- of received numbers newly passed, rising
unfoldable pub named_by : Call → Paper → List ℕ
named_by (Tick channel n) a = pick (answered a 0) (numbers (value_at a 0) (value_at a 1)) []
named_by (Announce channel n) a = []
named_by (Request channel) a = []
named_by (Reply channel first status) a = pick (answered a 0) (chosen (in_set (value_at a 0) (value_at a 2)) (numbers (value_at a 0) 256)) []
named_by (Ask q) a = []
named_by Renew a = []

-- handed out: all that the answers named, in their order
unfoldable pub handed_out : History → List ℕ
handed_out start = []
handed_out (before ▸ call ⇒ a) = handed_out before ++ named_by call a

-- the known top: the largest number of a tick not refused by 18 or 10, or of an
-- announcement answered 0
unfoldable pub offers : Call → Paper → ℕ
offers (Tick channel n) a = pick (or_else (answered a 18) (answered a 10)) 0 n
offers (Announce channel n) a = pick (answered a 0) n 0
offers (Request channel) a = 0
offers (Reply channel first status) a = 0
offers (Ask q) a = 0
offers Renew a = 0

unfoldable pub known_top : History → ℕ
known_top start = 0
known_top (before ▸ call ⇒ a) = max (known_top before) (offers call a)

-- the pending request: "from its grant until a reply answered 0", or until a new session begins:
-- granted, no reply answered 0 since, no new session since
unfoldable pub still_pending : Call → Paper → Asked → Asked
still_pending (Tick channel n) a was = was
still_pending (Announce channel n) a was = was
still_pending (Request channel) a was = pick (answered a 0) (range (value_at a 0) (value_at a 1)) was
still_pending (Reply channel first status) a was = pick (answered a 0) nothing was
still_pending (Ask q) a was = was
still_pending Renew a was = pick (answered a 0) nothing was

unfoldable pub pending : History → Asked
pending start = nothing
pending (before ▸ call ⇒ a) = still_pending call a (pending before)

-- delivered: handed out; held: received and not handed out; missing: up to the known top
-- and not settled
abbrev pub is_in : ℕ → List ℕ → Bool
is_in n [] = false
is_in n (x ∷ xs) = or_else (eqb n x) (is_in n xs)

unfoldable pub delivered : History → ℕ → Bool
delivered h n = is_in n (handed_out h)

unfoldable pub held : History → ℕ → Bool
held h n = received h n && not (delivered h n)

unfoldable pub missing : History → ℕ → Bool
missing h n = leb 1 n && (leb n (known_top h) && not (settled h n))

-- 1 for true
abbrev pub one : Bool → ℕ
one true = 1
one false = 0

-- how many ticks were answered 0: counted call by call
unfoldable pub ticks : Call → Paper → ℕ
ticks (Tick channel n) a = one (answered a 0)
ticks (Announce channel n) a = 0
ticks (Request channel) a = 0
ticks (Reply channel first status) a = 0
ticks (Ask q) a = 0
ticks Renew a = 0

unfoldable pub ticks_taken : History → ℕ
ticks_taken start = 0
ticks_taken (before ▸ call ⇒ a) = ticks call a + ticks_taken before

-- how many of the numbers from 1 to k are so: counted one by one
unfoldable pub count : (ℕ → Bool) → ℕ → ℕ
count so k = tally (λ i. one (so (i + 1))) k

-- the floor, as the caller knows it: how many numbers were handed out, and how many were given up
unfoldable pub floor_of : History → ℕ
floor_of h = length (handed_out h) + count (given_up h) (known_top h)
