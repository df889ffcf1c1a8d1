-- The answers of a check in CR 10's numbers.
use Rattle.std.specs.Prelude.{ℕ, ◌≡◌, [], ◌∷◌, Result, Ok, Err}
use Rattle.std.proofs.Common.{arith}
use Rattle.terms.specs.Paper.{Paper, answer}
use Rattle.market.specs.declared.Fault.{Fault}
use Rattle.market.specs.declared.Fault.TheVariants.{CutShort, Header, LineType, Column, Count, Trailer, Sum, Large, Room}
use Rattle.market.specs.declared.Wrong.{Wrong}

abbrev pub fault_number : Fault → ℕ
fault_number CutShort = 40  -- cut short or left-over bytes
fault_number Header = 41  -- header
fault_number LineType = 42  -- line type
fault_number Column = 43  -- a column or bar
fault_number Count = 44  -- record count
fault_number Trailer = 45  -- trailer
fault_number Sum = 46  -- sum
fault_number Large = 47  -- above 65,536 bytes
fault_number Room = 8  -- too small a buffer

abbrev pub verdict_paper : Result ℕ Wrong → Paper
verdict_paper (Ok n) = answer 0 (n ∷ [])
verdict_paper (Err w) = answer (fault_number w.fault) (w.place ∷ [])

-- no refusal is 0
pub fault_some : (f : Fault) → fault_number f ≡ 0 → ⊥
fault_some CutShort e = omega arith
fault_some Header e = omega arith
fault_some LineType e = omega arith
fault_some Column e = omega arith
fault_some Count e = omega arith
fault_some Trailer e = omega arith
fault_some Sum e = omega arith
fault_some Large e = omega arith
fault_some Room e = omega arith
