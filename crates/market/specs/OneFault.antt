-- Two verdicts of one paper are one.
use Rattle.std.specs.Prelude.{ℕ, ◌≡◌, refl, false, eqb, get_or, Result, Ok, Err}
use Rattle.std.proofs.Common.{sym, ap, ◌∙◌}
use Rattle.terms.specs.Paper.{Paper, pick}
use Rattle.market.specs.declared.Fault.{Fault}
use Rattle.market.specs.declared.Fault.TheVariants.{CutShort, Header, LineType, Column, Count, Trailer, Sum, Large, Room}
use Rattle.market.specs.declared.Wrong.{Wrong}
use Rattle.market.specs.Papers.{fault_number, verdict_paper}

-- the fault of a number
fault_is : ℕ → Fault
fault_is n = pick (eqb n 40) CutShort (pick (eqb n 41) Header (pick (eqb n 42) LineType (pick (eqb n 43) Column (pick (eqb n 44) Count (pick (eqb n 45) Trailer (pick (eqb n 46) Sum (pick (eqb n 47) Large Room)))))))

fault_back : (f : Fault) → fault_is (fault_number f) ≡ f
unfolding fault_is
fault_back CutShort = refl
fault_back Header = refl
fault_back LineType = refl
fault_back Column = refl
fault_back Count = refl
fault_back Trailer = refl
fault_back Sum = refl
fault_back Large = refl
fault_back Room = refl

fault_not_0 : (f : Fault) → eqb (fault_number f) 0 ≡ false
fault_not_0 CutShort = refl
fault_not_0 Header = refl
fault_not_0 LineType = refl
fault_not_0 Column = refl
fault_not_0 Count = refl
fault_not_0 Trailer = refl
fault_not_0 Sum = refl
fault_not_0 Large = refl
fault_not_0 Room = refl

-- the verdict told from its paper
wrong : Fault → ℕ → Result ℕ Wrong
wrong f p = Err (record { fault = f; place = p })

told_verdict : Paper → Result ℕ Wrong
told_verdict p = pick (eqb p.number 0) (Ok (get_or p.values 0 0)) (wrong (fault_is p.number) (get_or p.values 0 0))

verdict_told : (r : Result ℕ Wrong) → told_verdict (verdict_paper r) ≡ r
unfolding told_verdict wrong
verdict_told (Ok n) = refl
verdict_told (Err w) = rw (fault_not_0 w.fault, fault_back w.fault)

pub verdict_one : (x y : Result ℕ Wrong) → verdict_paper x ≡ verdict_paper y → x ≡ y
verdict_one x y e = sym (verdict_told x) ∙ ap told_verdict e ∙ verdict_told y
