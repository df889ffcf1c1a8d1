-- Where the first delimiter stands, and what it cuts off.
use Rattle.std.specs.Prelude.{ℕ, suc, ◌+◌, ◌-◌, ◌<◌, ◌≤◌, ◌≡◌, refl, true, false, List, [], ◌∷◌, ◌⊎◌, eqb, length, get_or, take, drop}
use Rattle.std.proofs.Common.{ap, ◌∙◌, inl, inr, ⊎_elim, add-one, arith, drop-cons, eqb-true, eq-eqb, ne_eqb}
use Rattle.terms.specs.Cases.{two}
use Rattle.step_spec.specs.Pieces.{SOH, until_of, on_first, pieces, closed, closed_by}

module _ (b x : ℕ) (xs : List ℕ) where
  pub until_here : eqb x b ≡ true → until_of b (x ∷ xs) ≡ 0
  unfolding until_of
  until_here t = rw t

  pub until_on : eqb x b ≡ false → until_of b (x ∷ xs) ≡ suc (until_of b xs)
  unfolding until_of
  until_on t = rw t

pub until_le : (b : ℕ) (s : List ℕ) → until_of b s ≤ length s
unfolding until_of
until_le b [] = omega arith
until_le b (x ∷ xs) = ⊎_elim (λ (t : eqb x b ≡ true). rw t (omega arith)) (λ (f : eqb x b ≡ false). rw f (omega (arith, until_le b xs))) (two (eqb x b))

-- the delimiter stands there, and nowhere before
pub until_found : (b : ℕ) (s : List ℕ) → until_of b s < length s → get_or s (until_of b s) 0 ≡ b
unfolding until_of
until_found b [] h = absurd (omega arith)
until_found b (x ∷ xs) h =
    ⊎_elim (λ (t : eqb x b ≡ true). rw t (eqb-true x b t)) (λ (f : eqb x b ≡ false). rw f (until_found b xs (omega (arith, rw f at h)))) (two (eqb x b))

module _ (x : ℕ) (xs : List ℕ) where
  piece_here : eqb x SOH ≡ true → pieces (x ∷ xs) ≡ [] ∷ pieces xs
  unfolding pieces
  piece_here t = rw t

  piece_on : eqb x SOH ≡ false → pieces (x ∷ xs) ≡ on_first x (pieces xs)
  unfolding pieces
  piece_on t = rw t

-- the first SOH cuts the first piece off
abbrev Cut : List ℕ → Type 0
Cut s = until_of SOH s < length s → pieces s ≡ take (until_of SOH s) s ∷ pieces (drop (suc (until_of SOH s)) s)

cut_step : (x : ℕ) (xs : List ℕ) → Cut xs → Cut (x ∷ xs)
unfolding on_first
cut_step x xs ih h =
    ⊎_elim (λ (t : eqb x SOH ≡ true). rw (until_here SOH x xs t) (piece_here x xs t))
    (λ (f : eqb x SOH ≡ false). rw (until_on SOH x xs f, piece_on x xs f) (ap (on_first x) (ih (omega (arith, rw (until_on SOH x xs f) at h)))))
    (two (eqb x SOH))

pub pieces_cut : (s : List ℕ) → until_of SOH s < length s → pieces s ≡ take (until_of SOH s) s ∷ pieces (drop (suc (until_of SOH s)) s)
pieces_cut [] h = absurd (omega arith)
pieces_cut (x ∷ xs) h = cut_step x xs (pieces_cut xs) h

-- without one all bytes are one piece
last_step : (x : ℕ) (xs : List ℕ) → (length xs ≤ until_of SOH xs → on_first x (pieces xs) ≡ (x ∷ xs) ∷ []) → length (x ∷ xs) ≤ until_of SOH (x ∷ xs) → pieces (x ∷ xs) ≡ (x ∷ xs) ∷ []
last_step x xs ih h =
    ⊎_elim (λ (t : eqb x SOH ≡ true). absurd (omega (arith, rw (until_here SOH x xs t) at h)))
    (λ (f : eqb x SOH ≡ false). piece_on x xs f ∙ ih (omega (arith, rw (until_on SOH x xs f) at h)))
    (two (eqb x SOH))

pieces_rest : (x : ℕ) (xs : List ℕ) → length (x ∷ xs) ≤ until_of SOH (x ∷ xs) → pieces (x ∷ xs) ≡ (x ∷ xs) ∷ []
unfolding on_first pieces
pieces_rest x [] h = last_step x [] (λ l. refl) h
pieces_rest x (y ∷ ys) h = last_step x (y ∷ ys) (λ l. ap (on_first x) (pieces_rest y ys l)) h

pub pieces_last : (s : List ℕ) → 0 < length s → length s ≤ until_of SOH s → pieces s ≡ s ∷ []
pieces_last [] p h = absurd (omega arith)
pieces_last (x ∷ xs) p h = pieces_rest x xs h

-- what the last byte is does not depend on the pieces before it
closed_skip : (x : ℕ) (xs : List ℕ) → 0 < length xs → closed (x ∷ xs) ≡ closed xs
unfolding closed closed_by
closed_skip x [] h = absurd (omega arith)
closed_skip x (y ∷ ys) h = refl

closed_ends : (x : ℕ) (xs : List ℕ) → eqb x SOH ≡ true → closed (x ∷ xs) ≡ closed xs
unfolding closed closed_by
closed_ends x [] t = t
closed_ends x (y ∷ ys) t = refl

closed_not : (x : ℕ) (xs : List ℕ) → eqb x SOH ≡ false → (closed xs ≡ false) ⊎ (xs ≡ []) → closed (x ∷ xs) ≡ false
unfolding closed closed_by
closed_not x [] f e = f
closed_not x (y ∷ ys) f (inl e) = e
closed_not x (y ∷ ys) f (inr e) = absurd (omega (arith, ap length e))

abbrev Ends : List ℕ → Type 0
Ends s = until_of SOH s < length s → closed s ≡ closed (drop (suc (until_of SOH s)) s)

ends_step : (x : ℕ) (xs : List ℕ) → Ends xs → Ends (x ∷ xs)
ends_step x xs ih h =
    ⊎_elim (λ (t : eqb x SOH ≡ true). rw (until_here SOH x xs t) (closed_ends x xs t))
    (λ (f : eqb x SOH ≡ false). let l : until_of SOH xs < length xs = omega (arith, rw (until_on SOH x xs f) at h) in rw (until_on SOH x xs f) (closed_skip x xs (omega arith) ∙ ih l))
    (two (eqb x SOH))

pub closed_cut : (s : List ℕ) → until_of SOH s < length s → closed s ≡ closed (drop (suc (until_of SOH s)) s)
closed_cut [] h = absurd (omega arith)
closed_cut (x ∷ xs) h = ends_step x xs (closed_cut xs) h

open_step : (x : ℕ) (xs : List ℕ) → (length xs ≤ until_of SOH xs → (closed xs ≡ false) ⊎ (xs ≡ [])) → length (x ∷ xs) ≤ until_of SOH (x ∷ xs) → closed (x ∷ xs) ≡ false
open_step x xs ih h =
    ⊎_elim (λ (t : eqb x SOH ≡ true). absurd (omega (arith, rw (until_here SOH x xs t) at h)))
    (λ (f : eqb x SOH ≡ false). closed_not x xs f (ih (omega (arith, rw (until_on SOH x xs f) at h))))
    (two (eqb x SOH))

open_rest : (s : List ℕ) → length s ≤ until_of SOH s → (closed s ≡ false) ⊎ (s ≡ [])
open_rest [] h = inr refl
open_rest (x ∷ xs) h = inl (open_step x xs (open_rest xs) h)

pub not_closed : (s : List ℕ) → 0 < length s → length s ≤ until_of SOH s → closed s ≡ false
not_closed s p h = ⊎_elim (λ (e : closed s ≡ false). e) (λ (e : s ≡ []). absurd (omega (arith, ap length e))) (open_rest s h)

-- FROM ONE PLACE TO ANOTHER

-- the bytes of s from the place i on, before the place to
abbrev pub part : List ℕ → ℕ → ℕ → List ℕ
part s i to = take (to - i) (drop i s)

module _ (b : ℕ) (s : List ℕ) (i to : ℕ) (h : i < to) (k : to ≤ length s) where
  pub part_cons : part s i to ≡ get_or s i 0 ∷ part s (i + 1) to
  part_cons =
      let e : to - i ≡ suc (to - (i + 1)) = omega arith in
      rw (e, drop-cons s i 0 (omega arith), add-one i)

  pub until_stop : get_or s i 0 ≡ b → until_of b (part s i to) ≡ 0
  until_stop e = rw part_cons (until_here b (get_or s i 0) (part s (i + 1) to) (eq-eqb (get_or s i 0) b e))

  pub until_next : (get_or s i 0 ≡ b → ⊥) → until_of b (part s i to) ≡ suc (until_of b (part s (i + 1) to))
  until_next e = rw part_cons (until_on b (get_or s i 0) (part s (i + 1) to) (ne_eqb (get_or s i 0) b e))

pub until_past : (b : ℕ) (s : List ℕ) (i to : ℕ) → to ≤ i → until_of b (part s i to) ≡ 0
unfolding until_of
until_past b s i to h = let e : to - i ≡ 0 = omega arith in rw e
