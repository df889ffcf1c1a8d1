-- The numbers that reading a frame may give, and no other: document 01, "What each number says",
-- and 7 of CR 6. (`received_own` in the crate `session` says that reading gives no other.)
use Rattle.std.specs.Prelude.{ℕ, eqb}
use Rattle.terms.specs.Paper.{pick}

pub data Fault : Type 0 where
  More : Fault
  MsgType : Fault
  Long : Fault
  Length : Fault
  Sum : Fault
  Field : Fault
  Time : Fault

abbrev pub fault_number : Fault → ℕ
fault_number More = 1
fault_number MsgType = 2
fault_number Long = 3
fault_number Length = 4
fault_number Sum = 5
fault_number Field = 6
fault_number Time = 7

-- the fault of a number that reading gave
unfoldable pub fault_numbered : ℕ → Fault
fault_numbered n =
    pick (eqb n 1) More
    (pick (eqb n 2) MsgType
    (pick (eqb n 3) Long
    (pick (eqb n 4) Length
    (pick (eqb n 5) Sum
    (pick (eqb n 6) Field
    Time)))))
