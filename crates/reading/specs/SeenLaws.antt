-- What is seen from the facts that lead to it, and the laws of reading as `walk_laws` wants them.
use Rattle.std.specs.Prelude.{ℕ, ◌≡◌, false}
use Rattle.std.proofs.Common.{sym, ap, ◌∙◌, ⊎_elim, arith, ne_eqb}
use Rattle.terms.specs.Cases.{same, clash}
use Rattle.walk_laws.specs.Walk.{Says, frame, more, bad}
use Rattle.walk_laws.specs.Literal.{is_frame}
use Rattle.reading.specs.declared.Seen.{Seen}
use Rattle.reading.specs.Seen.{seen_number, says_of}

-- WHAT A READING SAYS

-- 0 says a frame, 1 that bytes are missing, any other that there is none
pub says_frame : (x : Seen) → seen_number x ≡ 0 → says_of x ≡ frame x.size
unfolding says_of
says_frame x z = rw z

pub says_more : (x : Seen) → seen_number x ≡ 1 → says_of x ≡ more
unfolding says_of
says_more x z = rw z

pub says_bad : (x : Seen) → (seen_number x ≡ 0 → ⊥) → (seen_number x ≡ 1 → ⊥) → says_of x ≡ bad
unfolding says_of
says_bad x ne nm = rw (ne_eqb (seen_number x) 0 ne, ne_eqb (seen_number x) 1 nm)

frame_more : (w : Says) (n : ℕ) → w ≡ frame n → w ≡ more → ⊥
frame_more w n e f = let z : ◌≡◌ {A = ℕ} 0 1 = cc in omega arith

more_bad : (w : Says) → w ≡ more → w ≡ bad → ⊥
more_bad w e f = let z : ◌≡◌ {A = ℕ} 0 1 = cc in omega arith

-- and only they do
pub says_not : (x : Seen) → (seen_number x ≡ 0 → ⊥) → is_frame (says_of x) ≡ false
unfolding is_frame
says_not x ne = ⊎_elim (λ (z : seen_number x ≡ 1). rw (says_more x z)) (λ (nm : seen_number x ≡ 1 → ⊥). rw (says_bad x ne nm)) (same (seen_number x) 1)

pub frame_says : (x : Seen) (n : ℕ) → says_of x ≡ frame n → (seen_number x ≡ 0) × (x.size ≡ n)
unfolding is_frame
frame_says x n e =
    ⊎_elim (λ (z : seen_number x ≡ 0). let f : frame x.size ≡ frame n = sym (says_frame x z) ∙ e in (z, cc))
    (λ (ne : seen_number x ≡ 0 → ⊥). absurd (clash (ap is_frame e) (says_not x ne)))
    (same (seen_number x) 0)

pub more_says : (x : Seen) → says_of x ≡ more → seen_number x ≡ 1
more_says x e =
    ⊎_elim (λ (z : seen_number x ≡ 0). absurd (frame_more _ _ (says_frame x z) e))
    (λ (ne : seen_number x ≡ 0 → ⊥).
    ⊎_elim (λ (o : seen_number x ≡ 1). o) (λ (nm : seen_number x ≡ 1 → ⊥). absurd (more_bad _ e (says_bad x ne nm))) (same (seen_number x) 1))
    (same (seen_number x) 0)
