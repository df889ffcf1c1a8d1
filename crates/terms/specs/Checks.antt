-- Checks in a row. A check is a number: 0 where it passes, 1 where more bytes must come before it
-- is decided, else its refusal.
use Rattle.std.specs.Prelude.{ℕ, ◌≡◌, eqb}
use Rattle.std.proofs.Common.{sym, ap, ◌∙◌, ⊎_elim, arith, ne_eqb}
use Rattle.terms.specs.Paper.{pick}
use Rattle.terms.specs.Cases.{same}

-- the first of two checks that does not pass
unfoldable pub or_else : ℕ → ℕ → ℕ
or_else a b = pick (eqb a 0) b a

pub else_on : (a b : ℕ) → a ≡ 0 → or_else a b ≡ b
unfolding or_else
else_on a b e = rw e

pub else_off : (a b : ℕ) → (a ≡ 0 → ⊥) → or_else a b ≡ a
unfolding or_else
else_off a b ne = rw (ne_eqb a 0 ne)

pub else_is : (a b n : ℕ) → a ≡ n → (n ≡ 0 → ⊥) → or_else a b ≡ n
else_is a b n e ne = else_off a b (λ (z : a ≡ 0). ne (sym e ∙ z)) ∙ e

-- two checks pass where each does
pub else_both : (a b : ℕ) → or_else a b ≡ 0 → (a ≡ 0) × (b ≡ 0)
else_both a b h = ⊎_elim (λ (e : a ≡ 0). (e, sym (else_on a b e) ∙ h)) (λ (ne : a ≡ 0 → ⊥). absurd (ne (sym (else_off a b ne) ∙ h))) (same a 0)

-- a row of checks says 1 only where one of them does
pub else_one : (a b : ℕ) → or_else a b ≡ 1 → (a ≡ 1 → ⊥) → (a ≡ 0) × (b ≡ 1)
else_one a b h ne = ⊎_elim (λ (e : a ≡ 0). (e, sym (else_on a b e) ∙ h)) (λ (z : a ≡ 0 → ⊥). absurd (ne (sym (else_off a b z) ∙ h))) (same a 0)

-- an answer but 1 stays where each check's does
pub else_stays : (a b a' b' : ℕ) → (or_else a b ≡ 1 → ⊥) → ((a ≡ 1 → ⊥) → a' ≡ a) → (a ≡ 0 → (b ≡ 1 → ⊥) → b' ≡ b) → or_else a' b' ≡ or_else a b
else_stays a b a' b' h f g =
    ⊎_elim (λ (z : a ≡ 0).
    let e : a' ≡ 0 = f (λ (o : a ≡ 1). omega arith) ∙ z in
    else_on a' b' e ∙ g z (λ (o : b ≡ 1). h (else_on a b z ∙ o)) ∙ sym (else_on a b z))
    (λ (z : a ≡ 0 → ⊥).
    let e : a' ≡ a = f (λ (o : a ≡ 1). h (else_off a b z ∙ o)) in
    else_off a' b' (λ (y : a' ≡ 0). z (sym e ∙ y)) ∙ e ∙ sym (else_off a b z))
    (same a 0)

pub else_assoc : (a b c : ℕ) → or_else (or_else a b) c ≡ or_else a (or_else b c)
else_assoc a b c =
    ⊎_elim (λ (e : a ≡ 0). ap (λ (x : ℕ). or_else x c) (else_on a b e) ∙ sym (else_on a (or_else b c) e))
    (λ (ne : a ≡ 0 → ⊥). ap (λ (x : ℕ). or_else x c) (else_off a b ne) ∙ else_off a c ne ∙ sym (else_off a (or_else b c) ne))
    (same a 0)
