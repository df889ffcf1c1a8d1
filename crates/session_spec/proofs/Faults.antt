-- Reading's numbers are 1 to 7, so none of them is 0 or one of a session's own. Assumes nothing.
use mathlib.Core.Path.{◌≡◌, refl}
use mathlib.Core.Bool.{false}
use Prim.Native.Nat.{ℕ, zero, suc, ◌≤◌}
use native.Mathlib.Omega.{arith}
use borrow.Author.Tests.{ne_eqb}
use lib.Dec.{eqb}
use Rattle.session_spec.specs.Faults.{Fault, More, MsgType, Long, Length, Sum, Field, Time, fault_number, fault_numbered}

pub bounds : (why : Fault) → (1 ≤ fault_number why) × (fault_number why ≤ 7)
bounds More = (omega arith, omega arith)
bounds MsgType = (omega arith, omega arith)
bounds Long = (omega arith, omega arith)
bounds Length = (omega arith, omega arith)
bounds Sum = (omega arith, omega arith)
bounds Field = (omega arith, omega arith)
bounds Time = (omega arith, omega arith)

pub fault_pos : (why : Fault) → fault_number why ≡ 0 → ⊥
fault_pos why e = let b = bounds why in omega arith

-- a number from 8 on is none of reading's
pub not_reading : (why : Fault) (n : ℕ) → 8 ≤ n → eqb (fault_number why) n ≡ false
not_reading why n h = ne_eqb _ _ (λ (e : fault_number why ≡ n). let b = bounds why in omega arith)

pub numbered_back : (n : ℕ) → 1 ≤ n → n ≤ 7 → fault_number (fault_numbered n) ≡ n
unfolding fault_numbered
numbered_back zero a b = absurd (omega arith)
numbered_back (suc zero) a b = refl
numbered_back (suc (suc zero)) a b = refl
numbered_back (suc (suc (suc zero))) a b = refl
numbered_back (suc (suc (suc (suc zero)))) a b = refl
numbered_back (suc (suc (suc (suc (suc zero))))) a b = refl
numbered_back (suc (suc (suc (suc (suc (suc zero)))))) a b = refl
numbered_back (suc (suc (suc (suc (suc (suc (suc zero))))))) a b = refl
numbered_back (suc (suc (suc (suc (suc (suc (suc (suc n)))))))) a b = absurd (omega arith)
