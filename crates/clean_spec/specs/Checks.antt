-- What the check's answer means: none exactly where cleaning changes nothing, else the first place
-- where the two differ.
use Rattle.std.specs.Prelude.{ℕ, suc, ◌+◌, ◌<◌, ◌≤◌, ◌≡◌, refl, ◌⊎◌, ◌↔◌, List, [], ◌∷◌, length, get_or, take}
use Rattle.std.proofs.Common.{sym, ap, ap₂, ◌∙◌, inl, inr, ⊎_elim, arith, eq-eqb, ne_eqb}
use Rattle.terms.specs.Paper.{Paper, answer}
use Rattle.terms.specs.Cases.{same}
use Rattle.clean_spec.specs.Clean.{clean_of, differ_of, check_of}
use Rattle.clean_spec.specs.Differ.{cons_same}
use Rattle.clean_spec.specs.Laws.{clean_again}

-- p places behind the front, the first difference of a and b: up to it they agree, and there one of
-- them ends, or their bytes differ
pub record First (a b : List ℕ) (p : ℕ) : Type 0 where
  pub before : take p a ≡ take p b
  pub inside : (p ≤ length a) × (p ≤ length b)
  pub differ : ((p ≡ length a) × (p < length b)) ⊎ (((p < length a) × (p ≡ length b)) ⊎ ((p < length a) × ((p < length b) × (get_or a p 0 ≡ get_or b p 0 → ⊥))))

-- none, or the first one, counted from p on
pub data Differs (p : ℕ) (a b : List ℕ) : List ℕ → Type 0 where
  d_none : {l : List ℕ} → l ≡ [] → a ≡ b → Differs p a b l
  d_first : {l : List ℕ} (i : ℕ) → l ≡ (p + i) ∷ [] → First a b i → Differs p a b l

first_next : (x y : ℕ) (a b : List ℕ) (i : ℕ) → x ≡ y → First a b i → First (x ∷ a) (y ∷ b) (suc i)
first_next x y a b i e f =
    record {
      before = ap₂ (λ (h : ℕ) (t : List ℕ). h ∷ t) e f.before;
      inside = (omega (arith, f.inside.0), omega (arith, f.inside.1));
      differ = ⊎_elim (λ (d : (i ≡ length a) × (i < length b)). inl (ap suc d.0, omega (arith, d.1)))
          (λ d. inr (⊎_elim (λ (g : (i < length a) × (i ≡ length b)). inl (omega (arith, g.0), ap suc g.1)) (λ (g : (i < length a) × ((i < length b) × (get_or a i 0 ≡ get_or b i 0 → ⊥))). inr (omega (arith, g.0), (omega (arith, g.1.0), g.1.1))) d))
          f.differ;
    }

next_of_lem : (p x y : ℕ) (a b l : List ℕ) → x ≡ y → Differs (p + 1) a b l → Differs p (x ∷ a) (y ∷ b) l
next_of_lem p x y a b l e (d_none g h) = d_none g (ap₂ (λ (z : ℕ) (t : List ℕ). z ∷ t) e h)
next_of_lem p x y a b l e (d_first i g f) =
    let q : p + 1 + i ≡ p + suc i = omega arith in
    d_first (suc i) (g ∙ ap (λ (n : ℕ). n ∷ []) q) (first_next x y a b i e f)

at_once : (p : ℕ) → p ∷ [] ≡ (p + 0) ∷ []
at_once p = let q : p ≡ p + 0 = omega arith in ap (λ (n : ℕ). n ∷ []) q

pub differs : (p : ℕ) (a b : List ℕ) → Differs p a b (differ_of p a b)
unfolding differ_of
differs p [] [] = d_none refl refl
differs p [] (y ∷ b) = d_first 0 (at_once p) (record { before = refl; inside = (omega arith, omega arith); differ = inl (refl, omega arith) })
differs p (x ∷ a) [] = d_first 0 (at_once p) (record { before = refl; inside = (omega arith, omega arith); differ = inr (inl (omega arith, refl)) })
differs p (x ∷ a) (y ∷ b) =
    ⊎_elim (λ (e : x ≡ y). rw (eq-eqb x y e) (next_of_lem p x y a b (differ_of (p + 1) a b) e (differs (p + 1) a b)))
    (λ (ne : x ≡ y → ⊥).
    rw (ne_eqb x y ne) (d_first 0 (at_once p) (record { before = refl; inside = (omega arith, omega arith); differ = inr (inr (omega arith, (omega arith, ne))) })))
    (same x y)

none_is : (a b l : List ℕ) → Differs 0 a b l → l ≡ [] → a ≡ b
none_is a b l (d_none g h) e = h
none_is a b l (d_first i g f) e = absurd (omega (arith, ap length (sym g ∙ e)))

first_is : (a b l : List ℕ) (p : ℕ) → Differs 0 a b l → l ≡ p ∷ [] → First a b p
first_is a b l p (d_none g h) e = absurd (omega (arith, ap length (sym g ∙ e)))
first_is a b l p (d_first i g f) e =
    let q : i ≡ p = omega (arith, ap (λ (x : List ℕ). get_or x 0 0) (sym g ∙ e)) in
    rw q at f

differ_same : (p : ℕ) (a : List ℕ) → differ_of p a a ≡ []
unfolding differ_of
differ_same p [] = refl
differ_same p (x ∷ a) = cons_same p x x a a refl ∙ differ_same (p + 1) a

-- CLEAN EXACTLY WHEN CLEANING CHANGES NOTHING
pub check_clean : (s : List ℕ) → (check_of s ≡ answer 0 []) ↔ (clean_of s ≡ s)
unfolding check_of
check_clean s = (
  λ (e : answer 0 (differ_of 0 s (clean_of s)) ≡ answer 0 []). sym (none_is s (clean_of s) _ (differs 0 s (clean_of s)) (ap (λ (p : Paper). p.values) e)),
  λ (e : clean_of s ≡ s). ap (λ (c : List ℕ). answer 0 (differ_of 0 s c)) e ∙ ap (answer 0) (differ_same 0 s),
)

-- ELSE THE PLACE is the first where the capture and the cleaned one differ
pub check_changed : (s : List ℕ) (p : ℕ) → check_of s ≡ answer 0 (p ∷ []) → First s (clean_of s) p
unfolding check_of
check_changed s p e = first_is s (clean_of s) _ p (differs 0 s (clean_of s)) (ap (λ (q : Paper). q.values) e)

-- a cleaned capture is clean
pub checked_clean : (s : List ℕ) → check_of (clean_of s) ≡ answer 0 []
checked_clean s = (check_clean (clean_of s)).1 (clean_again s)
