-- Document 01, "What each number says": the number of each refusal, a row a line.
use Rattle.std.specs.Prelude.{ℕ, ◌≡◌, refl, false, List, eqb}
use Rattle.std.proofs.Common.{sym, ap, ◌∙◌}
use Rattle.std.proofs.lemmas.Bool.{eqb-false}
use Rattle.terms.specs.Paper.{Paper, refusal, pick}
use Rattle.terms.specs.declared.Refusal.{Refusal}
use Rattle.terms.specs.declared.Refusal.TheVariants.{More, MsgType, Long, Length, Sum, Field, Time, Room, Place, Range, Repeat, Far, State, Busy, Whole, Unasked, Status, Channel, Closed, Entries, Full, Open, Captures, Sums, Places, Early, Sequence, Over, Again}

abbrev pub number_of : Refusal → ℕ
number_of More = 1  -- more
number_of MsgType = 2  -- type
number_of Long = 3  -- long
number_of Length = 4  -- length
number_of Sum = 5  -- sum
number_of Field = 6  -- field
number_of Time = 7  -- time, of document 02, CR 6
number_of Room = 8  -- room
number_of Place = 9  -- place
number_of Range = 10  -- number
number_of Repeat = 11  -- repeat
number_of Far = 12  -- far
number_of State = 13  -- state
number_of Busy = 14  -- busy
number_of Whole = 15  -- whole
number_of Unasked = 16  -- unasked
number_of Status = 17  -- status
number_of Channel = 18  -- channel
number_of Closed = 19  -- a call after a stream's closing one, of document 02, CR 1
number_of Entries = 20  -- entries
number_of Full = 21  -- every place of a table or page is taken, of document 02, CR 3 and 11; and so 22
number_of Open = 22  -- a channel that is there already
number_of Captures = 27  -- a page that has 500 captures, of CR 11; and so 28
number_of Sums = 28  -- a sum past 64 bits
number_of Places = 29  -- places of a stream past 64 bits, of document 02, CR 1
number_of Early = 30  -- anything but logon or logout before the logon answer; this and the next three of document 02, CR 12
number_of Sequence = 31  -- MsgSeqNum not the expected one
number_of Over = 32  -- session over, or a counter at its last number
number_of Again = 33  -- a second logon

-- the refusal of a number of the table
unfoldable pub refusal_of : ℕ → Refusal
refusal_of n =
    pick (eqb n 1) More
    (pick (eqb n 2) MsgType
    (pick (eqb n 3) Long
    (pick (eqb n 4) Length
    (pick (eqb n 5) Sum
    (pick (eqb n 6) Field
    (pick (eqb n 7) Time
    (pick (eqb n 8) Room
    (pick (eqb n 9) Place
    (pick (eqb n 10) Range
    (pick (eqb n 11) Repeat
    (pick (eqb n 12) Far
    (pick (eqb n 13) State
    (pick (eqb n 14) Busy
    (pick (eqb n 15) Whole
    (pick (eqb n 16) Unasked
    (pick (eqb n 17) Status
    (pick (eqb n 18) Channel
    (pick (eqb n 19) Closed
    (pick (eqb n 20) Entries
    (pick (eqb n 21) Full
    (pick (eqb n 22) Open
    (pick (eqb n 27) Captures
    (pick (eqb n 28) Sums
    (pick (eqb n 29) Places
    (pick (eqb n 30) Early
    (pick (eqb n 31) Sequence
    (pick (eqb n 32) Over
    Again)))))))))))))))))))))))))))

-- no refusal is 0
pub refusal_not_0 : (w : Refusal) → eqb (number_of w) 0 ≡ false
refusal_not_0 More = refl
refusal_not_0 MsgType = refl
refusal_not_0 Long = refl
refusal_not_0 Length = refl
refusal_not_0 Sum = refl
refusal_not_0 Field = refl
refusal_not_0 Time = refl
refusal_not_0 Room = refl
refusal_not_0 Place = refl
refusal_not_0 Range = refl
refusal_not_0 Repeat = refl
refusal_not_0 Far = refl
refusal_not_0 State = refl
refusal_not_0 Busy = refl
refusal_not_0 Whole = refl
refusal_not_0 Unasked = refl
refusal_not_0 Status = refl
refusal_not_0 Channel = refl
refusal_not_0 Closed = refl
refusal_not_0 Entries = refl
refusal_not_0 Full = refl
refusal_not_0 Open = refl
refusal_not_0 Captures = refl
refusal_not_0 Sums = refl
refusal_not_0 Places = refl
refusal_not_0 Early = refl
refusal_not_0 Sequence = refl
refusal_not_0 Over = refl
refusal_not_0 Again = refl

-- an answer told from its paper: by its values where it is 0, else by its number
unfoldable pub told : {A : Type 0} → (List ℕ → A) → (Refusal → A) → Paper → A
told done refused p = pick (eqb p.number 0) (done p.values) (refused (refusal_of p.number))

pub refusal_pos : (w : Refusal) → number_of w ≡ 0 → ⊥
refusal_pos w = eqb-false (number_of w) 0 (refusal_not_0 w)
