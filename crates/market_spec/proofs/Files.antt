-- Laws of words, of the trailer and of all lines, by the tests that decide.
use Rattle.std.specs.Prelude.{ℕ, ◌+◌, ◌<◌, ◌≤◌, ◌≡◌, refl, Bool, true, false, ◌&&◌, List, [], ◌∷◌, eqb, drop}
use Rattle.std.proofs.Math.Path.{sym}
use Rattle.std.proofs.Common.{ap, ◌∙◌, ⊎_elim, arith}
use Rattle.std.proofs.Math.ListN.{length, get_or, take}
use Rattle.terms.specs.Paper.{Paper}
use Rattle.terms.specs.Cases.{two, less, same}
use Rattle.market_columns.specs.Columns.{Column, wide, alike, column_ok}
use Rattle.market_columns.specs.Tables.{length_of}
use Rattle.market_columns.specs.Numbers.{amount, number_at}
use Rattle.digits.specs.Digits.{number, digits_at}
use Rattle.octets.specs.Octets.{sum8}
use Rattle.market_spec.specs.File.{fault, fine, place_of, end_of, line_fault, count_ok, sum_ok, closing}
use Rattle.market_spec.proofs.Lines.{line_on, line_wrong, line_bar, line_cut, line_ends}

-- HOW FAR A LINE GOES

fault_not_fine : (n q e : ℕ) → (n ≡ 0 → ⊥) → fault n q ≡ fine e → ⊥
fault_not_fine n q e h p = h (ap (λ (x : Paper). x.number) p)

fine_one : (q e : ℕ) → fine q ≡ fine e → q ≡ e
fine_one q e p = ap place_of p

-- a line with nothing wrong: its length is the layout's, and it ends within the file
pub line_long : (n : ℕ) (cs : List Column) (at e : ℕ) (s : List ℕ) → (n ≡ 0 → ⊥) → at ≤ length s → line_fault n cs at s ≡ fine e → (at + length_of cs ≡ e) × (e ≤ length s)
unfolding line_fault
line_long n [] at e s z h p = let q = fine_one at e p in (omega arith, omega arith)
line_long n (c ∷ cs) at e s z h p =
    ⊎_elim (λ (l : length s < at + wide c). absurd (fault_not_fine 40 (length s) e (λ q. omega arith) (sym (line_cut n c cs at s l) ∙ p)))
    (λ (l : at + wide c ≤ length s).
    ⊎_elim (λ (o : column_ok c (take (wide c) (drop at s)) ≡ true).
    ⊎_elim (λ (m : at + wide c < length s).
    ⊎_elim (λ (b : get_or s (at + wide c) 0 ≡ end_of cs).
    let r = line_long n cs (at + wide c + 1) e s z (omega arith) (sym (line_on n c cs at s l o m b) ∙ p) in
    (omega (arith, r.0), r.1))
    (λ (b : get_or s (at + wide c) 0 ≡ end_of cs → ⊥). absurd (fault_not_fine n (at + wide c) e z (sym (line_bar n c cs at s l o m b) ∙ p)))
    (same (get_or s (at + wide c) 0) (end_of cs)))
    (λ (m : length s ≤ at + wide c). absurd (fault_not_fine 40 (length s) e (λ q. omega arith) (sym (line_ends n c cs at s l o m) ∙ p)))
    (less (at + wide c) (length s)))
    (λ (o : column_ok c (take (wide c) (drop at s)) ≡ false). absurd (fault_not_fine n at e z (sym (line_wrong n c cs at s l o) ∙ p)))
    (two (column_ok c (take (wide c) (drop at s)))))
    (less (length s) (at + wide c))

-- COUNT AND SUM

and_true : (b : Bool) → (b && true) ≡ b
and_true true = refl
and_true false = refl

pub count_there : (k m v : ℕ) (s : List ℕ) → number_at 27 5 0 s ≡ amount m v → count_ok k s ≡ (eqb m 0 && eqb v k)
unfolding alike
count_there k m v s e = rw (e, and_true (eqb v k))

pub sum_there : (at v : ℕ) (s : List ℕ) → digits_at (at + 8) 3 s ≡ number v → sum_ok at s ≡ eqb v (sum8 (take (at + 8) s))
unfolding alike
sum_there at v s e = rw (e, and_true (eqb v (sum8 (take (at + 8) s))))

pub close_count : (k at : ℕ) (s : List ℕ) → count_ok k s ≡ false → closing k at s ≡ fault 44 0
close_count k at s e = rw e
