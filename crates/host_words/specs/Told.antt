-- What a call through the host answers and tells: a paper's number, and its values in a lent
-- row of numbers.
use Rattle.std.specs.Prelude.{ℕ, ◌≡◌, refl, List, [], ◌∷◌, ◌++◌, eqb, length, get_or, take, drop}
use Rattle.std.proofs.Common.{sym, ap, ◌∙◌, take_at, drop_at, ne_eqb}
use Rattle.terms.specs.Paper.{Paper, answer, pick, one_number}
use Rattle.terms.specs.Refusals.{number_of, refusal_pos}
use Rattle.terms.specs.declared.Refusal.{Refusal}

-- what the row holds after the call: the paper's values where its number is 0, else what
-- it held before
unfoldable pub told_by : Paper → List ℕ → List ℕ
told_by p was = pick (eqb p.number 0) p.values was

-- the promise of such a call: its answer is the paper's number, and the row is told so
pub record Tells (p : Paper) (was : List ℕ) (number : ℕ) (row : List ℕ) : Type 0 where
  pub answered : number ≡ p.number
  pub told : row ≡ told_by p was

-- an answer other than 0
abbrev pub Refuses : ℕ → Type 0
Refuses n = n ≡ 0 → ⊥

-- WHAT THE CALLER SEES: the number, and beside 0 the told row
abbrev pub seen : ℕ → List ℕ → Paper
seen number row = answer number (pick (eqb number 0) row [])

-- a place that may be there: 1 and the place, or 0 and 0
abbrev pub perhaps : List ℕ → List ℕ
perhaps [] = 0 ∷ 0 ∷ []
perhaps (place ∷ more) = 1 ∷ place ∷ []

-- a paper with its values put in another way
abbrev pub retold : (List ℕ → List ℕ) → Paper → Paper
retold f p = answer p.number (f p.values)

-- two things lent as one list, which tells each of them: how many numbers the first has
-- stands before it
abbrev pub both : List ℕ → List ℕ → List ℕ
both a b = length a ∷ (a ++ b)

-- PROOFS

pub both_one : (a b c d : List ℕ) → both a b ≡ both c d → (a ≡ c) × (b ≡ d)
both_one a b c d e =
    let n : length a ≡ length c = ap (λ (l : List ℕ). get_or l 0 0) e in
    let f : a ++ b ≡ c ++ d = ap (drop 1) e in (
      sym (take_at a b (length c) n) ∙ ap (take (length c)) f ∙ take_at c d (length c) refl,
      sym (drop_at a b (length c) n) ∙ ap (drop (length c)) f ∙ drop_at c d (length c) refl,
    )

pub tells_done : (p : Paper) (was vs : List ℕ) → answer 0 vs ≡ p → Tells p was 0 vs
unfolding told_by
tells_done p was vs e = rw (← e) (record { answered = refl; told = refl })

pub tells_refused : (p : Paper) (was : List ℕ) (n : ℕ) → n ≡ p.number → (n ≡ 0 → ⊥) → Tells p was n was
unfolding told_by
tells_refused p was n e ne = record { answered = e; told = rw (← e, ne_eqb n 0 ne) }

-- a row that is written only beside 0
pub tells_then : (p : Paper) (was vs : List ℕ) (n m : ℕ) → n ≡ m → answer m vs ≡ p → n ≡ 0 → Tells p was n vs
unfolding told_by
tells_then p was vs n m e f z = rw (← f, ← e, z) (record { answered = refl; told = refl })

pub tells_else : (p : Paper) (was vs : List ℕ) (n m : ℕ) → n ≡ m → answer m vs ≡ p → (n ≡ 0 → ⊥) → Tells p was n was
tells_else p was vs n m e f ne = tells_refused p was n (e ∙ one_number f) ne

-- a refusal by its number
pub tells_why : (p : Paper) (was : List ℕ) (w : Refusal) (n : ℕ) → n ≡ number_of w → number_of w ≡ p.number → Tells p was n was
tells_why p was w n e f = tells_refused p was n (e ∙ f) (λ (z : n ≡ 0). refusal_pos w (sym e ∙ z))

pub tells_as : {p q : Paper} {was : List ℕ} {n : ℕ} {row : List ℕ} → p ≡ q → Tells p was n row → Tells q was n row
tells_as {p} {q} {was} {n} {row} e t = rw (← e) t

-- a refusal leaves the row as it was
pub tells_kept : {p : Paper} {was : List ℕ} {n : ℕ} {a : List ℕ} → Tells p was n a → (n ≡ 0 → ⊥) → a ≡ was
unfolding told_by
tells_kept {p} {was} {n} {a} x ne = x.told ∙ rw (← x.answered, ne_eqb n 0 ne)
