-- What stands at a line's start, and a line's type, as `type_at` has them.
use Rattle.std.specs.Prelude.{ℕ, ◌≡◌, ◌≤◌, refl, eqb}
use Rattle.std.proofs.Common.{sym, ap, ◌∙◌, arith}
use Rattle.terms.specs.Paper.{pick}
use Rattle.market.specs.declared.LineType.{LineType}
use Rattle.market.specs.declared.LineType.TheVariants.{Md401, Md404, Md405, Md406}
use Rattle.market.specs.declared.Start.{Start}
use Rattle.market.specs.declared.Start.TheVariants.{Line, Trailer, Cut, Other}

abbrev pub line_number : LineType → ℕ
line_number Md401 = 1
line_number Md404 = 2
line_number Md405 = 3
line_number Md406 = 4

abbrev pub start_number : Start → ℕ
start_number (Line l) = line_number l
start_number Trailer = 5
start_number Cut = 6
start_number Other = 0

pub line_most : (l : LineType) → line_number l ≤ 4
line_most Md401 = omega arith
line_most Md404 = omega arith
line_most Md405 = omega arith
line_most Md406 = omega arith

-- a line's type is no trailer, nothing cut short, and something
pub line_not : (l : LineType) → (line_number l ≡ 5 → ⊥) × (line_number l ≡ 6 → ⊥) × (line_number l ≡ 0 → ⊥)
line_not Md401 = (λ e. omega arith, λ e. omega arith, λ e. omega arith)
line_not Md404 = (λ e. omega arith, λ e. omega arith, λ e. omega arith)
line_not Md405 = (λ e. omega arith, λ e. omega arith, λ e. omega arith)
line_not Md406 = (λ e. omega arith, λ e. omega arith, λ e. omega arith)

-- the start told from its number
start_told : ℕ → Start
start_told n = pick (eqb n 1) (Line Md401) (pick (eqb n 2) (Line Md404) (pick (eqb n 3) (Line Md405) (pick (eqb n 4) (Line Md406) (pick (eqb n 5) Trailer (pick (eqb n 6) Cut Other)))))

told_start : (x : Start) → start_told (start_number x) ≡ x
unfolding start_told
told_start (Line Md401) = refl
told_start (Line Md404) = refl
told_start (Line Md405) = refl
told_start (Line Md406) = refl
told_start Trailer = refl
told_start Cut = refl
told_start Other = refl

-- two starts of one number are one
pub start_one : (x y : Start) → start_number x ≡ start_number y → x ≡ y
start_one x y e = sym (told_start x) ∙ ap start_told e ∙ told_start y
