-- A finding in CR 10's numbers: its number, and the place or count beside it.
use Rattle.std.specs.Prelude.{ℕ, ◌≡◌, [], ◌∷◌, get_or}
use Rattle.std.proofs.Common.{ap}
use Rattle.terms.specs.Paper.{Paper, answer}
use Rattle.host_market.specs.declared.Finding.{Finding}

abbrev pub finding_paper : Finding → Paper
finding_paper f = answer f.number (f.place ∷ [])

-- two findings of one paper are one
pub finding_one : (x y : Finding) → finding_paper x ≡ finding_paper y → x ≡ y
finding_one x y e = ap (λ (p : Paper). back p.number (get_or p.values 0 0)) e
  where
    back : ℕ → ℕ → Finding
    back n q = record { number = n; place = q }
