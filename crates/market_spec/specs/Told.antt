-- Answers taken apart: each is 0 with a place, or a refusal with one; and what a sound part is.
use Rattle.std.specs.Prelude.{ℕ, ◌+◌, ◌<◌, ◌≤◌, ◌≡◌, refl, true, false, ◌⊎◌, List, [], ◌∷◌, length, get_or}
use Rattle.std.proofs.Common.{sym, ap, ◌∙◌, inl, inr, ⊎_elim, arith}
use Rattle.terms.specs.Paper.{Paper}
use Rattle.terms.specs.Cases.{two, less}
use Rattle.market_spec.specs.File.{fault, fine, and_then, mark_ok, tail_fault}
use Rattle.market_spec.specs.Files.{then_fine, then_fault, tail_cut, tail_wrong, tail_on}

pub data Told (p : Paper) : Type 0 where
  at_place : (q : ℕ) → p ≡ fine q → Told p
  refused : (m q : ℕ) → (m ≡ 0 → ⊥) → p ≡ fault m q → Told p

pub not_fine : (n q e : ℕ) → (n ≡ 0 → ⊥) → fault n q ≡ fine e → ⊥
not_fine n q e h p = h (ap (λ (x : Paper). x.number) p)

pub told_as : (p r : Paper) → p ≡ r → Told r → Told p
told_as p r e (at_place q x) = at_place q (e ∙ x)
told_as p r e (refused m q z x) = refused m q z (e ∙ x)

-- what led to a sound end
pub record Then (p : Paper) (f : ℕ → Paper) (n : ℕ) : Type 0 where
  pub place : ℕ
  pub first : p ≡ fine place
  pub second : f place ≡ fine n

pub then_both : (p : Paper) (f : ℕ → Paper) (n : ℕ) → Told p → and_then p f ≡ fine n → Then p f n
then_both p f n (at_place q x) e = record { place = q; first = x; second = sym (then_fine p f q x) ∙ e }
then_both p f n (refused m q z x) e = absurd (not_fine m q n z (sym (then_fault p f m q x z) ∙ e))

pub tail_told : (ms : List ℕ) (at : ℕ) (s : List ℕ) → Told (tail_fault ms at s)
unfolding tail_fault
tail_told [] at s = at_place at refl
tail_told (m ∷ ms) at s =
    ⊎_elim (λ (h : length s ≤ at). refused 40 (length s) (λ q. omega arith) (tail_cut m ms at s h))
    (λ (h : length s ≤ at → ⊥).
    ⊎_elim (λ (o : mark_ok m (get_or s at 0) ≡ true). told_as (tail_fault (m ∷ ms) at s) (tail_fault ms (at + 1) s) (tail_on m ms at s (below h) o) (tail_told ms (at + 1) s))
    (λ (o : mark_ok m (get_or s at 0) ≡ false). refused 45 at (λ q. omega arith) (tail_wrong m ms at s (below h) o))
    (two (mark_ok m (get_or s at 0))))
    (or_not (length s) at)
  where
    or_not : (a b : ℕ) → (a ≤ b) ⊎ (a ≤ b → ⊥)
    or_not a b = ⊎_elim (λ (l : b < a). inr (λ q. omega arith)) (λ (l : a ≤ b). inl l) (less b a)

    below : (length s ≤ at → ⊥) → at < length s
    below h = ⊎_elim (λ (l : at < length s). l) (λ (l : length s ≤ at). absurd (h l)) (less at (length s))

-- marks that were passed
pub record Marked (m : ℕ) (ms : List ℕ) (at e : ℕ) (s : List ℕ) : Type 0 where
  pub room : at < length s
  pub right : mark_ok m (get_or s at 0) ≡ true
  pub onward : tail_fault ms (at + 1) s ≡ fine e

pub tail_passed : (m : ℕ) (ms : List ℕ) (at e : ℕ) (s : List ℕ) → tail_fault (m ∷ ms) at s ≡ fine e → Marked m ms at e s
tail_passed m ms at e s p =
    ⊎_elim (λ (l : at < length s).
    ⊎_elim (λ (o : mark_ok m (get_or s at 0) ≡ true). record { room = l; right = o; onward = sym (tail_on m ms at s l o) ∙ p })
    (λ (o : mark_ok m (get_or s at 0) ≡ false). absurd (not_fine 45 at e (λ q. omega arith) (sym (tail_wrong m ms at s l o) ∙ p)))
    (two (mark_ok m (get_or s at 0))))
    (λ (l : length s ≤ at). absurd (not_fine 40 (length s) e (λ q. omega arith) (sym (tail_cut m ms at s l) ∙ p)))
    (less at (length s))
