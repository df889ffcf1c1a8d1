-- Answers taken apart: each is 0 with a place, or a refusal with one; and what a sound part is.
use Rattle.std.specs.Prelude.{ℕ, ◌+◌, ◌<◌, ◌≤◌, ◌≡◌, refl, true, false, List, [], ◌∷◌, length, get_or, take, drop}
use Rattle.std.proofs.Common.{⊎_elim, arith}
use Rattle.terms.specs.Cases.{two, less, same}
use Rattle.market_columns.specs.Columns.{Column, wide, column_ok}
use Rattle.market_spec.specs.File.{end_of, line_fault}
use Rattle.market_spec.proofs.Lines.{line_on, line_wrong, line_bar, line_cut, line_ends}
use Rattle.market_spec.specs.Told.{Told, at_place, told_as, refused}

pub line_told : (n : ℕ) (cs : List Column) (at : ℕ) (s : List ℕ) → (n ≡ 0 → ⊥) → Told (line_fault n cs at s)
unfolding line_fault
line_told n [] at s z = at_place at refl
line_told n (c ∷ cs) at s z =
    ⊎_elim (λ (l : length s < at + wide c). refused 40 (length s) (λ q. omega arith) (line_cut n c cs at s l))
    (λ (l : at + wide c ≤ length s).
    ⊎_elim (λ (o : column_ok c (take (wide c) (drop at s)) ≡ true).
    ⊎_elim (λ (m : at + wide c < length s).
    ⊎_elim (λ (b : get_or s (at + wide c) 0 ≡ end_of cs). told_as (line_fault n (c ∷ cs) at s) (line_fault n cs (at + wide c + 1) s) (line_on n c cs at s l o m b) (line_told n cs (at + wide c + 1) s z))
    (λ (b : get_or s (at + wide c) 0 ≡ end_of cs → ⊥). refused n (at + wide c) z (line_bar n c cs at s l o m b))
    (same (get_or s (at + wide c) 0) (end_of cs)))
    (λ (m : length s ≤ at + wide c). refused 40 (length s) (λ q. omega arith) (line_ends n c cs at s l o m))
    (less (at + wide c) (length s)))
    (λ (o : column_ok c (take (wide c) (drop at s)) ≡ false). refused n at z (line_wrong n c cs at s l o))
    (two (column_ok c (take (wide c) (drop at s)))))
    (less (length s) (at + wide c))
