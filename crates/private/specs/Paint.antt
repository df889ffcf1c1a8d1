-- Painting spans over bytes, for any spans: what is kept, what is changed.
use Rattle.std.specs.Prelude.{ℕ, zero, suc, ◌+◌, ◌-◌, ◌<◌, ◌≤◌, ◌≡◌, refl, ◌⊎◌, List, [], ◌∷◌, length, get_or, take, replicate}
use Rattle.std.proofs.Common.{sym, ap, ◌∙◌, inl, inr, ⊎_elim, arith, ext_get_or}
use Rattle.std.proofs.lemmas.List.{length-replicate, get_or-replicate}
use Rattle.std.proofs.Math.Seq.{take-nil}
use Rattle.terms.specs.Cases.{less}
use Rattle.octets.specs.Octets.{laid, numeral}
use Rattle.octets.specs.Numerals.{numeral_same}
use Rattle.octets.specs.Places.{laid_before, laid_in, laid_after}
use Rattle.octets.specs.Overlays.{laid_nil, length_laid}
use Rattle.private.specs.declared.Span.{Span}
use Rattle.private.specs.Private.{span_at}
use Rattle.private.specs.Scrub.{painted}

-- the byte i lies in one of the spans
abbrev pub Inside : List Span → ℕ → Type 0
Inside [] i = ⊥
Inside (p ∷ ps) i = ((p.place ≤ i) × (i < p.place + p.len)) ⊎ Inside ps i

-- all spans lie within n bytes
abbrev pub Within : ℕ → List Span → Type 0
Within n [] = n ≡ n
Within n (p ∷ ps) = (p.place + p.len ≤ n) × Within n ps

-- two lists agree outside the spans
pub record Agree (ps : List Span) (a b : List ℕ) : Type 0 where
  pub long : length a ≡ length b
  pub outside : (i : ℕ) → (Inside ps i → ⊥) → get_or a i 0 ≡ get_or b i 0

-- as many bytes as a span has, laid over them
abbrev pub over : Span → List ℕ → List ℕ
over p b = laid p.place (replicate p.len p.fill) b

module _ (p : Span) (b : List ℕ) (h : p.place + p.len ≤ length b) where
  fits : p.place + length (replicate p.len p.fill) ≤ length b
  fits = rw (length-replicate p.len p.fill) h

  pub length_over : length (over p b) ≡ length b
  length_over = length_laid p.place (replicate p.len p.fill) b fits

  pub over_outside : (i : ℕ) → ((p.place ≤ i) × (i < p.place + p.len) → ⊥) → get_or (over p b) i 0 ≡ get_or b i 0
  over_outside i out =
      ⊎_elim (λ (l : i < p.place). laid_before p.place _ b fits i l)
      (λ (l : p.place ≤ i).
      ⊎_elim (λ (k : i < p.place + p.len). absurd (out (l, k)))
      (λ (k : p.place + p.len ≤ i). laid_after p.place _ b fits i (rw (length-replicate p.len p.fill) k))
      (less i (p.place + p.len)))
      (less i p.place)

  pub over_inside : (i : ℕ) → p.place ≤ i → i < p.place + p.len → get_or (over p b) i 0 ≡ p.fill
  over_inside i l k =
      let e : p.place + (i - p.place) ≡ i = omega arith in
      let j : i - p.place < p.len = omega arith in
      ap (λ (x : ℕ). get_or (over p b) x 0) (sym e)
      ∙ laid_in p.place (replicate p.len p.fill) b fits (i - p.place) (rw (length-replicate p.len p.fill) j)
      ∙ get_or-replicate p.len (i - p.place) p.fill 0 j

-- ALL SPANS

pub length_painted : (ps : List Span) (b : List ℕ) → Within (length b) ps → length (painted ps b) ≡ length b
unfolding painted
length_painted [] b w = refl
length_painted (p ∷ ps) b w =
    let e = length_over p b w.0 in
    length_painted ps (over p b) (rw e w.1) ∙ e

pub painted_outside : (ps : List Span) (b : List ℕ) → Within (length b) ps → (i : ℕ) → (Inside ps i → ⊥) → get_or (painted ps b) i 0 ≡ get_or b i 0
unfolding painted
painted_outside [] b w i out = refl
painted_outside (p ∷ ps) b w i out =
    painted_outside ps (over p b) (rw (length_over p b w.0) w.1) i (λ (h : Inside ps i). out (inr h))
    ∙ over_outside p b w.0 i (λ h. out (inl h))

-- all spans have one fill
abbrev pub Filled : ℕ → List Span → Type 0
Filled f [] = f ≡ f
Filled f (p ∷ ps) = (p.fill ≡ f) × Filled f ps

in_or_out : (p : Span) (i : ℕ) → ((p.place ≤ i) × (i < p.place + p.len)) ⊎ ((p.place ≤ i) × (i < p.place + p.len) → ⊥)
in_or_out p i =
    ⊎_elim (λ (l : i < p.place). inr (λ h. omega arith))
    (λ (l : p.place ≤ i). ⊎_elim (λ (k : i < p.place + p.len). inl (l, k)) (λ (k : p.place + p.len ≤ i). inr (λ h. omega arith)) (less i (p.place + p.len)))
    (less i p.place)

inside_or_not : (ps : List Span) (i : ℕ) → Inside ps i ⊎ (Inside ps i → ⊥)
inside_or_not [] i = inr (λ h. h)
inside_or_not (p ∷ ps) i =
    ⊎_elim (λ h. inl (inl h))
    (λ out. ⊎_elim (λ (h : Inside ps i). inl (inr h)) (λ (n : Inside ps i → ⊥). inr (λ (x : Inside (p ∷ ps) i). ⊎_elim out n x)) (inside_or_not ps i))
    (in_or_out p i)

pub painted_inside : (f : ℕ) (ps : List Span) (b : List ℕ) → Within (length b) ps → Filled f ps → (i : ℕ) → Inside ps i → get_or (painted ps b) i 0 ≡ f
unfolding painted
painted_inside f [] b w g i h = absurd h
painted_inside f (p ∷ ps) b w g i h =
    let v : Within (length (over p b)) ps = rw (length_over p b w.0) w.1 in
    ⊎_elim (λ (x : Inside ps i). painted_inside f ps (over p b) v g.1 i x)
    (λ (n : Inside ps i → ⊥).
    painted_outside ps (over p b) v i n
    ∙ ⊎_elim (λ (x : (p.place ≤ i) × (i < p.place + p.len)). over_inside p b w.0 i x.0 x.1 ∙ g.0) (λ (x : Inside ps i). absurd (n x)) h)
    (inside_or_not ps i)

-- one span more
pub painted_more : (i : ℕ) (ps : List Span) (b : List ℕ) → painted (take (i + 1) ps) b ≡ over (span_at i ps) (painted (take i ps) b)
unfolding painted
painted_more i [] b = rw (take-nil (i + 1), take-nil i) (sym (laid_nil 0 b))
painted_more zero (p ∷ ps) b = refl
painted_more (suc i) (p ∷ ps) b = let e : suc i + 1 ≡ suc (i + 1) = omega arith in rw e (painted_more i ps (over p b))

-- the first spans lie within, and outside all is outside them
pub within_take : (n i : ℕ) (ps : List Span) → Within n ps → Within n (take i ps)
within_take n i [] w = rw (take-nil i)
within_take n zero (p ∷ ps) w = refl
within_take n (suc i) (p ∷ ps) w = (w.0, within_take n i ps w.1)

pub within_at : (n i : ℕ) (ps : List Span) → Within n ps → (span_at i ps).place + (span_at i ps).len ≤ n
within_at n i [] w = omega arith
within_at n zero (p ∷ ps) w = w.0
within_at n (suc i) (p ∷ ps) w = within_at n i ps w.1

pub inside_take : (i j : ℕ) (ps : List Span) → Inside (take i ps) j → Inside ps j
inside_take i j [] h = absurd (rw (take-nil i) at h)
inside_take zero j (p ∷ ps) h = absurd h
inside_take (suc i) j (p ∷ ps) h = ⊎_elim (λ x. inl x) (λ (x : Inside (take i ps) j). inr (inside_take i j ps x)) h

-- a painted list agrees with what it was, outside the spans
pub painted_agrees : (i : ℕ) (ps : List Span) (b : List ℕ) → Within (length b) ps → Agree ps b (painted (take i ps) b)
painted_agrees i ps b w =
    let v = within_take (length b) i ps w in
    record {
      long = sym (length_painted (take i ps) b v);
      outside = λ j out. sym (painted_outside (take i ps) b v j (λ h. out (inside_take i j ps h)));
    }

-- NUMBERS OUTSIDE

-- the w bytes from at on lie outside the spans
abbrev pub Clear : List Span → ℕ → ℕ → Type 0
Clear [] at w = at ≡ at
Clear (p ∷ ps) at w = ((at + w ≤ p.place) ⊎ (p.place + p.len ≤ at)) × Clear ps at w

clear_outside : (ps : List Span) (at w i : ℕ) → Clear ps at w → i < w → Inside ps (at + i) → ⊥
clear_outside [] at w i c l h = h
clear_outside (p ∷ ps) at w i c l h =
    ⊎_elim (λ (x : (p.place ≤ at + i) × (at + i < p.place + p.len)).
    ⊎_elim (λ (y : at + w ≤ p.place). omega arith) (λ (y : p.place + p.len ≤ at). omega arith) c.0)
    (λ (x : Inside ps (at + i)). clear_outside ps at w i c.1 l x)
    h

-- lists that agree outside the spans say the same numbers there
pub number_same : (ps : List Span) (a b : List ℕ) → Agree ps a b → (w at : ℕ) → Clear ps at w → numeral 256 w at a ≡ numeral 256 w at b
number_same ps a b g w at c = numeral_same 256 w at a b (λ i l. g.outside (at + i) (clear_outside ps at w i c l))

-- what agrees outside a span and the others agrees outside the others once that span is painted in
-- both
over_agrees : (p : Span) (ps : List Span) (a b : List ℕ) → p.place + p.len ≤ length a → p.place + p.len ≤ length b → Agree (p ∷ ps) a b → Agree ps (over p a) (over p b)
over_agrees p ps a b l k e =
    record {
      long = length_over p a l ∙ e.long ∙ sym (length_over p b k);
      outside = λ i out.
          ⊎_elim (λ (h : (p.place ≤ i) × (i < p.place + p.len)). over_inside p a l i h.0 h.1 ∙ sym (over_inside p b k i h.0 h.1))
          (λ (n : (p.place ≤ i) × (i < p.place + p.len) → ⊥). over_outside p a l i n ∙ e.outside i (λ (h : Inside (p ∷ ps) i). ⊎_elim n out h) ∙ sym (over_outside p b k i n))
          (in_or_out p i);
    }

-- lists that agree outside the spans are painted alike, whatever the fills
pub painted_same : (ps : List Span) (a b : List ℕ) → Within (length a) ps → Agree ps a b → painted ps a ≡ painted ps b
unfolding painted
painted_same [] a b w e = ext_get_or 0 a b e.long (λ i l. e.outside i (λ h. h))
painted_same (p ∷ ps) a b w e =
    painted_same ps (over p a) (over p b) (rw (length_over p a w.0) w.1) (over_agrees p ps a b w.0 (rw (← e.long) w.0) e)
